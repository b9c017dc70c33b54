-- What is asked of each tree in a tree so that its s-expression means what the tree does, and that it holds of the goal of a rule that w bits hold. Assumes nothing.
use mathlib.Core.Path.{◌≡◌, subst}
use mathlib.Core.List.{List}
use Prim.Native.Nat.{ℕ, ◌<◌}
use lib.ListN.{length}
use lib.IntN.{ℤ}
use Rattle.numbers.specs.Two.{Within}
use Rattle.meaning.specs.declared.Sort.{Sort}
use Rattle.meaning.specs.declared.Sort.TheVariants.{Truth, Integer}
use Rattle.meaning.specs.Tree.{Tree, var}
use Rattle.meaning.specs.Value.{value}
use Rattle.meaning.specs.Rule.{Rule, Case, value_in}
use Rattle.kinds.specs.Rows.{PartOf}
use Rattle.kinds.proofs.ClaimLaws.{Throughout, throughout-parts}
use Rattle.forms.specs.Width.{WidthHolds}

-- where variable i has the value ρ i, an integer is one of w bits: no operator wraps
abbrev pub NoWrap : ℕ → (ℕ → ℤ) → (s : Sort) → Tree s → Type 0
NoWrap w ρ Truth t = Unit {0}
NoWrap w ρ Integer t = Within w (value ρ t)

-- a variable is one of the first v
abbrev pub Below : ℕ → (s : Sort) → Tree s → Type 0
Below v Truth t = Unit {0}
Below v Integer t = (i : ℕ) → t ≡ var i → i < v

module _ {w : ℕ} {r : Rule} (m : WidthHolds w r) where
  part-below : (s : Sort) (u : Tree s) → PartOf u r.goal → Below (length r.variables) s u
  part-below Truth u p = tt
  part-below Integer u p = λ i e. m.variables i (subst (λ (t : Tree Integer). PartOf t r.goal) e p)

  pub all-below : Throughout (Below (length r.variables)) r.goal
  all-below = (throughout-parts (Below (length r.variables)) r.goal).1 part-below

  part-within : {c : List ℤ} → Case r c → (s : Sort) (u : Tree s) → PartOf u r.goal → NoWrap w (value_in c) s u
  part-within k Truth u p = tt
  part-within {c} k Integer u p = m.values c k u p

  pub all-within : {c : List ℤ} → Case r c → Throughout (NoWrap w (value_in c)) r.goal
  all-within {c} k = (throughout-parts (NoWrap w (value_in c)) r.goal).1 (part-within k)
