-- Every operation on ranges is monotone, a narrower argument giving a narrower result, and keeps ranges nonempty. Assumes nothing.
use lib.IntN.{ℤ}
use lib.Signed.{◌≤ℤ◌, ≤ℤ_refl}
use Rattle.numbers.specs.declared.Range.{Range}
use Rattle.numbers.specs.Ranges.{◌⋯◌, In, Narrower, minus_of, sum_of, difference_of, product_of, union_of}
use Rattle.numbers.proofs.Zed.{zed, ≤ℤ-trans, neg-ud, sum-ud, sub-ud}
use Rattle.numbers.proofs.Sound.{ends, above-least, below-greatest, minus-in, sum-in, difference-in, product-in, union-in-left}

-- ---- the order of ranges
pub narrower-refl : (a : Range) → Narrower a a
narrower-refl a = record { low = ≤ℤ_refl a.low; high = ≤ℤ_refl a.high }

pub narrower-trans : {a b c : Range} → Narrower a b → Narrower b c → Narrower a c
narrower-trans h k = record { low = ≤ℤ-trans k.low h.low; high = ≤ℤ-trans h.high k.high }

pub in-wider : {a b : Range} {x : ℤ} → Narrower a b → In a x → In b x
in-wider h k = record { low = ≤ℤ-trans h.low k.low; high = ≤ℤ-trans k.high h.high }

pub in_one : {r : Range} {c : ℤ} → In r c → Narrower (c ⋯ c) r
in_one h = record { low = h.low; high = h.high }

-- ---- nonempty ranges: the ends are members, and a member shows it
pub low-in : {a : Range} → a.low ≤ℤ a.high → In a a.low
low-in {a} o = record { low = ≤ℤ_refl a.low; high = o }

pub high-in : {a : Range} → a.low ≤ℤ a.high → In a a.high
high-in {a} o = record { low = o; high = ≤ℤ_refl a.high }

pub in-nonempty : {a : Range} {x : ℤ} → In a x → a.low ≤ℤ a.high
in-nonempty h = ≤ℤ-trans h.low h.high

pub minus-nonempty : {a : Range} → a.low ≤ℤ a.high → (minus_of a).low ≤ℤ (minus_of a).high
minus-nonempty o = in-nonempty (minus-in (low-in o))

pub sum-nonempty : {a b : Range} → a.low ≤ℤ a.high → b.low ≤ℤ b.high → (sum_of a b).low ≤ℤ (sum_of a b).high
sum-nonempty o p = in-nonempty (sum-in (low-in o) (low-in p))

pub difference-nonempty : {a b : Range} → a.low ≤ℤ a.high → b.low ≤ℤ b.high → (difference_of a b).low ≤ℤ (difference_of a b).high
difference-nonempty o p = in-nonempty (difference-in (low-in o) (low-in p))

pub product-nonempty : {a b : Range} → a.low ≤ℤ a.high → b.low ≤ℤ b.high → (product_of a b).low ≤ℤ (product_of a b).high
product-nonempty o p = in-nonempty (product-in (low-in o) (low-in p))

-- one of the two is enough
pub union_nonempty : {a : Range} (b : Range) → a.low ≤ℤ a.high → (union_of a b).low ≤ℤ (union_of a b).high
union_nonempty b o = in-nonempty (union-in-left b (low-in o))

-- ---- monotonicity
pub minus-narrower : {a c : Range} → Narrower a c → Narrower (minus_of a) (minus_of c)
minus-narrower {a} {c} h = omega (zed, neg-ud a.low, neg-ud a.high, neg-ud c.low, neg-ud c.high)

pub sum-narrower : {a b c d : Range} → Narrower a c → Narrower b d → Narrower (sum_of a b) (sum_of c d)
sum-narrower {a} {b} {c} {d} h k =
    omega (zed, sum-ud a.low b.low, sum-ud a.high b.high, sum-ud c.low d.low, sum-ud c.high d.high)

pub difference-narrower : {a b c d : Range} → Narrower a c → Narrower b d → Narrower (difference_of a b) (difference_of c d)
difference-narrower {a} {b} {c} {d} h k =
    omega (zed, sub-ud a.low b.high, sub-ud a.high b.low, sub-ud c.low d.high, sub-ud c.high d.low)

pub union-narrower : {a b c d : Range} → Narrower a c → Narrower b d → Narrower (union_of a b) (union_of c d)
union-narrower {c = c} {d = d} h k =
    let l = ends c.low d.low in
    let u = ends c.high d.high in
    record {
      low = above-least (≤ℤ-trans l.0 h.low) (≤ℤ-trans l.1 k.low);
      high = below-greatest (≤ℤ-trans h.high u.2) (≤ℤ-trans k.high u.3);
    }

-- the ends of an empty range need not be members of a wider one, so a product asks for nonempty ranges
pub product-narrower : {a b c d : Range} → a.low ≤ℤ a.high → b.low ≤ℤ b.high → Narrower a c → Narrower b d → Narrower (product_of a b) (product_of c d)
product-narrower {a} {b} {c} {d} o p h k =
    let la = in-wider h (low-in o) in
    let ha = in-wider h (high-in o) in
    let lb = in-wider k (low-in p) in
    let hb = in-wider k (high-in p) in
    let ll = product-in la lb in
    let lh = product-in la hb in
    let hl = product-in ha lb in
    let hh = product-in ha hb in
    record {
      low = above-least (above-least ll.low lh.low) (above-least hl.low hh.low);
      high = below-greatest (below-greatest ll.high lh.high) (below-greatest hl.high hh.high);
    }
