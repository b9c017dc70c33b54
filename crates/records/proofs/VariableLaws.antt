-- What refusal 5's test decides, at one variable and over all. Assumes nothing.
use Prim.Native.Nat.{ℕ, ◌<◌}
use mathlib.Core.Path.{◌≡◌}
use mathlib.Core.Logic.{◌↔◌}
use mathlib.Core.Bool.{◌&&◌}
use mathlib.Core.List.{List}
use mathlib.Core.Option.{none}
use native.Mathlib.Nat.{zero-add}
use native.Mathlib.Omega.{arith}
use Rattle.lists.proofs.FirstLaws.{first-none, none_first}
use Rattle.layout.specs.Limits.{variable_place}
use Rattle.layout.specs.Parts.{variable_count, name_in}
use Rattle.refusals.proofs.SaidLaws.{unless-none, unless-true}
use Rattle.records.specs.Variables.{variable_right, fresh, variable_refusal, variables}
use Rattle.records.specs.Names.{VariableKept}
use Rattle.lists.proofs.Decided.{Decides, decides_not, decides_and, decides-all}
use Rattle.lists.proofs.NameLaws.{same-decided}
use Rattle.records.proofs.NameLaws.{variable-decided}

module _ (s : List ℕ) where
  pub fresh-decided : (n : ℕ) → Decides (fresh s n) ((m : ℕ) → m < n → name_in s (variable_place m) ≡ name_in s (variable_place n) → ⊥)
  unfolding fresh
  fresh-decided n = decides-all n (λ m. decides_not (same-decided (name_in s (variable_place m)) (name_in s (variable_place n))))

  pub kept-decided : (n : ℕ) → Decides (variable_right s (variable_place n) && fresh s n) (VariableKept s n)
  kept-decided n = decides_and (variable-decided s (variable_place n)) (fresh-decided n)

  -- at one variable
  pub variable-none : (n : ℕ) → (variable_refusal s n ≡ none) ↔ VariableKept s n
  variable-none n = (λ e. (kept-decided n).0 (unless-none _ 5 n e), λ k. unless-true 5 n ((kept-decided n).1 k))

  -- over all variables
  pub variables-none : (variables s ≡ none) ↔ ((n : ℕ) → n < variable_count s → VariableKept s n)
  variables-none = (
    λ e n l. (variable-none n).0 (first-none (variable_refusal s) (variable_count s) 0 e n (omega arith) (rw zero-add l)),
    λ h. none_first (variable_refusal s) (variable_count s) 0 (λ n g l. (variable-none n).1 (h n (rw zero-add at l))),
  )
