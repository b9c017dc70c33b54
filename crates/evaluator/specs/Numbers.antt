-- Follows the code: the values of nodes as numbers, a truth value being 1 or 0, and what a node's number is from those of its operands.
use Rattle.std.specs.Prelude.{ℕ, Bool, true, false, ℤ, pos, neg_ℤ, ◌+ℤ◌, ◌-ℤ◌, ◌*ℤ◌}
use Rattle.std.specs.Int.Signed.{lt_z, le_z}
use Rattle.meaning.specs.declared.Sort.{Sort}
use Rattle.meaning.specs.declared.Sort.TheVariants.{Truth, Integer}
use Rattle.meaning.specs.Value.{Of, equals, chosen}
use Rattle.kinds.specs.declared.Kind.{Kind}
use Rattle.kinds.specs.declared.Shape.{Shape}
use Rattle.kinds.specs.declared.Shape.TheVariants.{Wrong, Bare, Valued, Named, One, Two, Three}
use Rattle.kinds.specs.Kinds.{row}
use Rattle.layout.specs.Fold.{Found}

-- a truth value as a number
abbrev pub bit : Bool → ℤ
bit true = pos 1
bit false = pos 0

-- a value of either sort as a number
abbrev pub number_of : (s : Sort) → Of s → ℤ
number_of Truth b = bit b
number_of Integer z = z

-- a number that stands for true
abbrev pub is_true : ℤ → Bool
is_true x = lt_z (pos 0) x

-- the number of a node of kind k, where x, y and z are the numbers of its first, second and third operand; of a constant or a variable, x
abbrev pub applied_of : (k : Kind) (x y z : ℤ) → ℤ
applied_of Kind.Unknown x y z = pos 0
applied_of Kind.True x y z = pos 1
applied_of Kind.False x y z = pos 0
applied_of Kind.Not x y z = chosen (is_true x) (pos 0) (pos 1)
applied_of Kind.And x y z = chosen (is_true x) y (pos 0)
applied_of Kind.Or x y z = chosen (is_true x) (pos 1) y
applied_of Kind.Implies x y z = chosen (is_true x) y (pos 1)
applied_of Kind.Iff x y z = bit (equals x y)
applied_of Kind.Equal x y z = bit (equals x y)
applied_of Kind.Less x y z = bit (lt_z x y)
applied_of Kind.AtMost x y z = bit (le_z x y)
applied_of Kind.Constant x y z = x
applied_of Kind.Variable x y z = x
applied_of Kind.Minus x y z = neg_ℤ x
applied_of Kind.Sum x y z = x +ℤ y
applied_of Kind.Difference x y z = x -ℤ y
applied_of Kind.Product x y z = x *ℤ y
applied_of Kind.If x y z = chosen (is_true x) y z

-- the same by the kind's shape, from what a node of that shape is found from; the values of variables are ρ
abbrev pub number_by : (ℕ → ℤ) → (h : Shape) → Kind → Found ℤ h → ℤ
number_by ρ Wrong k x = pos 0
number_by ρ Bare k x = applied_of k (pos 0) (pos 0) (pos 0)
number_by ρ Valued k c = c
number_by ρ Named k i = ρ i
number_by ρ (One s) k x = applied_of k x (pos 0) (pos 0)
number_by ρ (Two s t) k x = applied_of k x.0 x.1 (pos 0)
number_by ρ (Three s t u) k x = applied_of k x.0 x.1 x.2

-- the number of a node of kind k, from those of its operands
unfoldable pub number_step : (ℕ → ℤ) → (k : Kind) → Found ℤ (row k).shape → ℤ
number_step ρ k x = number_by ρ (row k).shape k x
