-- Document 01's sheet A, its starred cases without variables, a negative domain and one without values, by computation. Assumes nothing.
use mathlib.Core.Path.{◌≡◌, refl}
use mathlib.Core.List.{List, [], ◌∷◌}
use mathlib.Core.Option.{none, some}
use Prim.Native.Nat.{ℕ}
use native.Mathlib.Omega.{arith}
use lib.ListN.{length}
use lib.IntN.{pos, negsuc}
use Rattle.numbers.specs.Ranges.{◌⋯◌}
use Rattle.meaning.specs.declared.Sort.TheVariants.{Truth}
use Rattle.meaning.specs.Tree.{Tree, tru, fls, equal, var}
use Rattle.meaning.specs.Value.{value}
use Rattle.meaning.specs.Rule.{Variable, Rule, domain_of}
use Rattle.meaning.specs.Cases.{size_of, members, cases, cases_of, holds, AllHold, failures, first_failure, held, failed}
use Rattle.meaning.specs.CaseOrder.{FirstFailing}
use Rattle.meaning.specs.Odometer.{next}
use Rattle.meaning.proofs.Failures.{first-none, first_some}
use Rattle.meaning.proofs.SomeCase.{HasValues, some-case}

-- ---- 1: sheet A, seated 0..1 and trained 0..1, with the goal that they are equal
bit : List ℕ → Variable
bit name = record { name = name; domain = pos 0 ⋯ pos 1 }

sheet_a : Rule
sheet_a = record {
  variables = bit (115 ∷ 101 ∷ 97 ∷ 116 ∷ 101 ∷ 100 ∷ []) ∷ bit (116 ∷ 114 ∷ 97 ∷ 105 ∷ 110 ∷ 101 ∷ 100 ∷ []) ∷ [];
  goal = equal (var 0) (var 1);
}

four-cases : cases_of sheet_a ≡ (pos 0 ∷ pos 0 ∷ []) ∷ (pos 0 ∷ pos 1 ∷ []) ∷ (pos 1 ∷ pos 0 ∷ []) ∷ (pos 1 ∷ pos 1 ∷ []) ∷ []
unfolding sheet_a bit cases_of size_of
four-cases = refl

first-fails : first_failure sheet_a ≡ some (pos 0 ∷ pos 1 ∷ [])
unfolding sheet_a bit cases_of size_of value holds failures first_failure
first-fails = refl

two-and-two : (held sheet_a ≡ 2) × (failed sheet_a ≡ 2)
unfolding sheet_a bit cases_of size_of value holds held failed
two-and-two = (refl, refl)

found : FirstFailing sheet_a (pos 0 ∷ pos 1 ∷ [])
found = (first_some sheet_a (pos 0 ∷ pos 1 ∷ [])).0 first-fails

has-cases : HasValues sheet_a
has-cases = (some-case sheet_a).0 (rw four-cases (omega arith))

-- its cases one after another
steps : (next (domain_of sheet_a) 0 (pos 0 ∷ pos 1 ∷ []) ≡ some (pos 1 ∷ pos 0 ∷ [])) × (next (domain_of sheet_a) 0 (pos 1 ∷ pos 1 ∷ []) ≡ none)
unfolding sheet_a bit next
steps = (refl, refl)

-- ---- 2, 3: no variables
bare : Tree Truth → Rule
bare goal = record { variables = []; goal = goal }

one-case : (goal : Tree Truth) → cases_of (bare goal) ≡ [] ∷ []
unfolding bare cases_of
one-case goal = refl

goal-true : (first_failure (bare tru) ≡ none) × (held (bare tru) ≡ 1) × (failed (bare tru) ≡ 0)
unfolding bare cases_of value holds failures first_failure held failed
goal-true = (refl, refl, refl)

every-case-holds : AllHold (bare tru)
every-case-holds = (first-none (bare tru)).0 goal-true.0

goal-false : (first_failure (bare fls) ≡ some []) × (held (bare fls) ≡ 0) × (failed (bare fls) ≡ 1)
unfolding bare cases_of value holds failures first_failure held failed
goal-false = (refl, refl, refl)

-- ---- domains: counting up through 0, one value, none
negative : (members (negsuc 0 ⋯ pos 1) ≡ negsuc 0 ∷ pos 0 ∷ pos 1 ∷ []) × (size_of (negsuc 0 ⋯ pos 1) ≡ 3)
unfolding size_of
negative = (refl, refl)

one_value : members (negsuc 4 ⋯ negsuc 4) ≡ negsuc 4 ∷ []
unfolding size_of
one_value = refl

no_value : (members (pos 1 ⋯ pos 0) ≡ []) × (size_of (pos 7 ⋯ negsuc 2) ≡ 0)
unfolding size_of
no_value = (refl, refl)

-- one domain without values leaves no case
no_cases : cases ((pos 0 ⋯ pos 1) ∷ (pos 1 ⋯ pos 0) ∷ []) ≡ []
unfolding size_of
no_cases = refl

-- at 16 bits
sizes : (size_of (negsuc 32767 ⋯ pos 32767) ≡ 65536) × (length (cases ((negsuc 2 ⋯ pos 2) ∷ (negsuc 3 ⋯ pos 5) ∷ [])) ≡ 60)
unfolding size_of
sizes = (refl, refl)
