-- The number that is found of a tree by the steps of the code is its value as a number. Assumes nothing.
use Prim.Native.Nat.{ℕ}
use mathlib.Core.Path.{◌≡◌, refl, ap, ap₂}
use mathlib.Core.Bool.{Bool, true, false, not, ◌&&◌, ◌||◌}
use lib.IntN.{ℤ, pos, neg_ℤ, ◌+ℤ◌, ◌-ℤ◌, ◌*ℤ◌}
use Rattle.meaning.specs.declared.Sort.{Sort}
use Rattle.meaning.specs.Tree.{Tree}
use Rattle.meaning.specs.Value.{implied, equivalent, equals, chosen, value}
use Rattle.layout.specs.Fold.{of_tree}
use Rattle.evaluator.specs.Numbers.{bit, number_of, is_true, number_step}

-- ---- truth values as numbers
not-number : (a : Bool) → chosen (is_true (bit a)) (pos 0) (pos 1) ≡ bit (not a)
not-number true = refl
not-number false = refl

and-number : (a b : Bool) → chosen (is_true (bit a)) (bit b) (pos 0) ≡ bit (a && b)
and-number true b = refl
and-number false b = refl

or-number : (a b : Bool) → chosen (is_true (bit a)) (pos 1) (bit b) ≡ bit (a || b)
or-number true b = refl
or-number false b = refl

implied-number : (a b : Bool) → chosen (is_true (bit a)) (bit b) (pos 1) ≡ bit (implied a b)
implied-number true b = refl
implied-number false b = refl

same_number : (a b : Bool) → bit (equals (bit a) (bit b)) ≡ bit (equivalent a b)
same_number true true = refl
same_number true false = refl
same_number false true = refl
same_number false false = refl

pub bit-true : (a : Bool) → is_true (bit a) ≡ a
bit-true true = refl
bit-true false = refl

-- ---- a tree's number, where variable i has the value ρ i
module _ (ρ : ℕ → ℤ) where
  pub numbers-are : {s : Sort} (t : Tree s) → of_tree (number_step ρ) t ≡ number_of s (value ρ t)
  unfolding of_tree number_step value
  numbers-are Tree.tru = refl
  numbers-are Tree.fls = refl
  numbers-are (Tree.neg a) = rw (numbers-are a) (not-number (value ρ a))
  numbers-are (Tree.conj a b) = rw (numbers-are a, numbers-are b) (and-number (value ρ a) (value ρ b))
  numbers-are (Tree.disj a b) = rw (numbers-are a, numbers-are b) (or-number (value ρ a) (value ρ b))
  numbers-are (Tree.implies a b) = rw (numbers-are a, numbers-are b) (implied-number (value ρ a) (value ρ b))
  numbers-are (Tree.iff a b) = rw (numbers-are a, numbers-are b) (same_number (value ρ a) (value ρ b))
  numbers-are (Tree.equal a b) = rw (numbers-are a, numbers-are b)
  numbers-are (Tree.less a b) = rw (numbers-are a, numbers-are b)
  numbers-are (Tree.at_most a b) = rw (numbers-are a, numbers-are b)
  numbers-are (Tree.const z) = refl
  numbers-are (Tree.var i) = refl
  numbers-are (Tree.minus a) = ap neg_ℤ (numbers-are a)
  numbers-are (Tree.sum a b) = ap₂ ◌+ℤ◌ (numbers-are a) (numbers-are b)
  numbers-are (Tree.difference a b) = ap₂ ◌-ℤ◌ (numbers-are a) (numbers-are b)
  numbers-are (Tree.product a b) = ap₂ ◌*ℤ◌ (numbers-are a) (numbers-are b)
  numbers-are (Tree.ite c a b) = rw (numbers-are c, numbers-are a, numbers-are b, bit-true (value ρ c))
