-- Ranges of integers, exact at both ends (document 01, "Range of an integer node").
use Rattle.std.specs.Prelude.{Bool, cond, ◌&&◌, ℤ, pos, negsuc, neg_ℤ, ◌+ℤ◌, ◌-ℤ◌, ◌*ℤ◌, ◌≤ℤ◌}
use Rattle.std.specs.Int.Signed.{le_z}
use Rattle.numbers.specs.declared.Range.{Range}

-- the ends of 16 bits, -32,768 and 32,767
abbrev pub least16 : ℤ
least16 = negsuc 32767

abbrev pub greatest16 : ℤ
greatest16 = pos 32767

-- z lies in -32,768..32,767
pub record Narrow (z : ℤ) : Type 0 where
  pub low : least16 ≤ℤ z
  pub high : z ≤ℤ greatest16

-- both ends do
pub record NarrowEnds (r : Range) : Type 0 where
  pub low : Narrow r.low
  pub high : Narrow r.high

-- follow the code: the same as tests
unfoldable pub is_narrow : ℤ → Bool
is_narrow z = le_z least16 z && le_z z greatest16

unfoldable pub has_narrow_ends : Range → Bool
has_narrow_ends r = is_narrow r.low && is_narrow r.high

-- from a to b
abbrev pub ◌⋯◌ : ℤ → ℤ → Range
◌⋯◌ a b = record { low = a; high = b }

infix 40 ◌⋯◌
-- x is in the range r
pub record In (r : Range) (x : ℤ) : Type 0 where
  pub low : r.low ≤ℤ x
  pub high : x ≤ℤ r.high

-- serves proofs: the range a is no wider than b
pub record Narrower (a b : Range) : Type 0 where
  pub low : b.low ≤ℤ a.low
  pub high : a.high ≤ℤ b.high

unfoldable pub least_of : ℤ → ℤ → ℤ
least_of a b = cond (le_z a b) a b

unfoldable pub greatest_of : ℤ → ℤ → ℤ
greatest_of a b = cond (le_z a b) b a

-- of minus, sum and difference: worked out from the ends
abbrev pub minus_of : Range → Range
minus_of a = neg_ℤ a.high ⋯ neg_ℤ a.low

abbrev pub sum_of : Range → Range → Range
sum_of a b = (a.low +ℤ b.low) ⋯ (a.high +ℤ b.high)

abbrev pub difference_of : Range → Range → Range
difference_of a b = (a.low -ℤ b.high) ⋯ (a.high -ℤ b.low)

-- from the least to the greatest of four numbers
abbrev pub span_of : ℤ → ℤ → ℤ → ℤ → Range
span_of p q r s = least_of (least_of p q) (least_of r s) ⋯ greatest_of (greatest_of p q) (greatest_of r s)

-- of a product: both ends times both ends, and of these the least and the greatest
abbrev pub product_of : Range → Range → Range
product_of a b = span_of (a.low *ℤ b.low) (a.low *ℤ b.high) (a.high *ℤ b.low) (a.high *ℤ b.high)

-- the least range that has both
abbrev pub union_of : Range → Range → Range
union_of a b = least_of a.low b.low ⋯ greatest_of a.high b.high
