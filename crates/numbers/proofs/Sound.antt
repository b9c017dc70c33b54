-- Ranges are sound by membership: where x is in the range a and y in b, the exact result is in the result's range. Assumes nothing.
use mathlib.Core.Path.{◌≡◌, refl}
use mathlib.Core.Bool.{Bool, true, false, cond}
use Prim.Native.Nat.{ℕ, suc, ◌+◌, ◌*◌, ◌≤◌}
use native.Mathlib.Nat.{mul-le-mul_right}
use native.Mathlib.Omega.{arith}
use lib.IntN.{ℤ, pos, negsuc, neg_ℤ, ◌+ℤ◌, ◌-ℤ◌, ◌*ℤ◌, *ℤ_comm}
use lib.Signed.{◌≤ℤ◌, le_z, ≤ℤ_refl}
use Rattle.numbers.specs.declared.Range.{Range}
use Rattle.numbers.specs.Ranges.{◌⋯◌, In, least_of, greatest_of, minus_of, sum_of, difference_of, product_of, union_of}
use Rattle.numbers.proofs.Zed.{up, dn, zed, ≤ℤ-ud, ≤ℤ-trans, <ℤ-≤ℤ, sum-ud, sub-ud, mul-pos-ud, mul-neg-ud, neg-ud}
use Rattle.numbers.proofs.OrderTests.{le_z-true, le_z-false}

-- ---- the least and the greatest of two
ends_by : (t : Bool) (a b : ℤ) → (t ≡ true → a ≤ℤ b) → (t ≡ false → b ≤ℤ a) → (cond t a b ≤ℤ a) × (cond t a b ≤ℤ b) × (a ≤ℤ cond t b a) × (b ≤ℤ cond t b a)
ends_by true a b f g = (≤ℤ_refl a, f refl, f refl, ≤ℤ_refl b)
ends_by false a b f g = (g refl, ≤ℤ_refl b, ≤ℤ_refl a, g refl)

pub ends : (a b : ℤ) → (least_of a b ≤ℤ a) × (least_of a b ≤ℤ b) × (a ≤ℤ greatest_of a b) × (b ≤ℤ greatest_of a b)
unfolding least_of greatest_of
ends a b = ends_by (le_z a b) a b (λ e. le_z-true e) (λ e. <ℤ-≤ℤ (le_z-false e))

-- what holds of both holds of each
either : (P : ℤ → Type 0) (t : Bool) {a b : ℤ} → P a → P b → P (cond t a b)
either P true f g = f
either P false f g = g

pub of-least : (P : ℤ → Type 0) {a b : ℤ} → P a → P b → P (least_of a b)
unfolding least_of
of-least P {a} {b} f g = either P (le_z a b) f g

pub of-greatest : (P : ℤ → Type 0) {a b : ℤ} → P a → P b → P (greatest_of a b)
unfolding greatest_of
of-greatest P {a} {b} f g = either P (le_z a b) g f

pub above-least : {a b z : ℤ} → z ≤ℤ a → z ≤ℤ b → z ≤ℤ least_of a b
above-least {a} {b} {z} f g = of-least (λ u. z ≤ℤ u) f g

pub below-greatest : {a b z : ℤ} → a ≤ℤ z → b ≤ℤ z → greatest_of a b ≤ℤ z
below-greatest {a} {b} {z} f g = of-greatest (λ u. u ≤ℤ z) f g

-- ---- membership
pub one_in : (c : ℤ) → In (c ⋯ c) c
one_in c = record { low = ≤ℤ_refl c; high = ≤ℤ_refl c }

pub minus-in : {a : Range} {x : ℤ} → In a x → In (minus_of a) (neg_ℤ x)
minus-in {a} {x} h = omega (zed, neg-ud x, neg-ud a.low, neg-ud a.high)

pub sum-in : {a b : Range} {x y : ℤ} → In a x → In b y → In (sum_of a b) (x +ℤ y)
sum-in {a} {b} {x} {y} h k = omega (zed, sum-ud x y, sum-ud a.low b.low, sum-ud a.high b.high)

pub difference-in : {a b : Range} {x y : ℤ} → In a x → In b y → In (difference_of a b) (x -ℤ y)
difference-in {a} {b} {x} {y} h k = omega (zed, sub-ud x y, sub-ud a.low b.high, sub-ud a.high b.low)

pub union-in-left : {a : Range} (b : Range) {x : ℤ} → In a x → In (union_of a b) x
union-in-left {a} b h = omega (zed, ends a.low b.low, ends a.high b.high)

pub union-in-right : (a : Range) {b : Range} {x : ℤ} → In b x → In (union_of a b) x
union-in-right a {b} h = omega (zed, ends a.low b.low, ends a.high b.high)

-- a product lies between the products of the ends: in one factor, whatever the other's sign, and then in both
scaled : {a b : ℤ} (n : ℕ) → a ≤ℤ b → up a * n + dn b * n ≤ up b * n + dn a * n
scaled {a} {b} n h = omega (arith, mul-le-mul_right n (≤ℤ-ud h))

between : {a b x : ℤ} (y : ℤ) → a ≤ℤ x → x ≤ℤ b → (least_of (a *ℤ y) (b *ℤ y) ≤ℤ (x *ℤ y)) × ((x *ℤ y) ≤ℤ greatest_of (a *ℤ y) (b *ℤ y))
between {a} {b} {x} (pos n) h k =
    omega (zed, ends (a *ℤ pos n) (b *ℤ pos n), scaled n h, scaled n k, mul-pos-ud a n, mul-pos-ud b n, mul-pos-ud x n)
between {a} {b} {x} (negsuc n) h k =
    omega (zed, ends (a *ℤ negsuc n) (b *ℤ negsuc n), scaled (suc n) h, scaled (suc n) k, mul-neg-ud a n, mul-neg-ud b n, mul-neg-ud x n)

between-right : {c d y : ℤ} (x : ℤ) → c ≤ℤ y → y ≤ℤ d → (least_of (x *ℤ c) (x *ℤ d) ≤ℤ (x *ℤ y)) × ((x *ℤ y) ≤ℤ greatest_of (x *ℤ c) (x *ℤ d))
between-right {c} {d} {y} x h k = rw (*ℤ_comm x c, *ℤ_comm x d, *ℤ_comm x y) (between x h k)

pub product-in : {a b : Range} {x y : ℤ} → In a x → In b y → In (product_of a b) (x *ℤ y)
product-in {a} {b} {x} {y} h k =
    let m = between y h.low h.high in
    let f = between-right a.low k.low k.high in
    let g = between-right a.high k.low k.high in
    let l = ends (least_of (a.low *ℤ b.low) (a.low *ℤ b.high)) (least_of (a.high *ℤ b.low) (a.high *ℤ b.high)) in
    let u = ends (greatest_of (a.low *ℤ b.low) (a.low *ℤ b.high)) (greatest_of (a.high *ℤ b.low) (a.high *ℤ b.high)) in
    record {
      low = ≤ℤ-trans (above-least (≤ℤ-trans l.0 f.0) (≤ℤ-trans l.1 g.0)) m.0;
      high = ≤ℤ-trans m.1 (below-greatest (≤ℤ-trans f.1 u.2) (≤ℤ-trans g.1 u.3));
    }
