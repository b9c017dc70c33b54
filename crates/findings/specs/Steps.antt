-- Follows the code: the test of operands' sorts, which the cascade uses, and the answer at a node, which contracts cite; rows and statements do without.
use Rattle.std.specs.Prelude.{ℕ, ◌<◌, Bool, true, false, ◌&&◌, List, [], ◌∷◌, Result, Ok, Err}
use Rattle.numbers.specs.declared.Range.{Range}
use Rattle.meaning.specs.declared.Sort.{Sort}
use Rattle.meaning.specs.declared.Sort.TheVariants.{Truth as truth, Integer as integer}
use Rattle.kinds.specs.declared.Kind.{Kind}
use Rattle.kinds.specs.declared.Record.{Record}
use Rattle.kinds.specs.declared.Shape.{Shape}
use Rattle.layout.specs.Limits.{most_nodes}
use Rattle.layout.specs.Starts.{shape_at, operands_of, sorts_of}
use Rattle.layout.specs.Fold.{found_by}
use Rattle.findings.specs.declared.Finding.{Finding}
use Rattle.refusals.specs.declared.Cause.{Cause}
use Rattle.findings.specs.Findings.{sort_of, no_range, range_of, result_of, finding_of, finding_fits}

-- what a node is found to be, or the cause of its refusal; and an operand's range, or the cause where it is of the wrong sort
abbrev pub Step : Type 0
Step = Result Finding Cause

abbrev pub Operand : Type 0
Operand = Result Range Cause

abbrev pub same_sort : Sort → Sort → Bool
same_sort truth truth = true
same_sort truth integer = false
same_sort integer truth = false
same_sort integer integer = true

-- each operand gives the sort asked of it
abbrev pub are_sorted : (ℕ → Sort) → List ℕ → List Sort → Bool
are_sorted so [] ss = true
are_sorted so (x ∷ xs) [] = true
are_sorted so (x ∷ xs) (s ∷ ss) = same_sort (so x) s && are_sorted so xs ss

-- a finding that fits 16 bits, else refusal 8
abbrev pub fitted : Finding → Step
fitted x = elim (finding_fits x) [ true ↦ Ok x | false ↦ Err Cause.Range ]

-- at a node with the record r, where g has the findings of the nodes before it: refusal 7 for an operand of the wrong sort, then 8
unfoldable pub step_of : (ℕ → Range) → Record → (ℕ → Finding) → Step
step_of δ r g =
    elim (are_sorted (λ j. sort_of (g j)) (operands_of (shape_at r) r) (sorts_of (shape_at r))) [
      | true ↦ fitted (finding_of δ r.kind (found_by (shape_at r) r g))
      | false ↦ Err Cause.Sort
    ]

-- an operand of the sort asked for goes on with its range, another is refusal 7
abbrev pub operand_of : Finding → Sort → Operand
operand_of f s = elim (same_sort (sort_of f) s) [ true ↦ Ok (range_of f) | false ↦ Err Cause.Sort ]

abbrev pub go_on : Operand → (Range → Step) → Step
go_on (Err e) next = Err e
go_on (Ok p) next = next p

-- by the number of operands
unfoldable pub one_step : Kind → Sort → Finding → Step
one_step k s f = go_on (operand_of f s) (λ p. fitted (result_of k p no_range no_range))

unfoldable pub two_step : Kind → Sort → Sort → Finding → Finding → Step
two_step k s t f g = go_on (operand_of f s) (λ p. go_on (operand_of g t) (λ q. fitted (result_of k p q no_range)))

unfoldable pub three_step : Kind → Sort → Sort → Sort → Finding → Finding → Finding → Step
three_step k s t u f g h = go_on (operand_of f s) (λ p. go_on (operand_of g t) (λ q. go_on (operand_of h u) (λ o. fitted (result_of k p q o))))

-- what is asked of the record: operands' numbers within the table, a variable's below v
abbrev pub Reaches : Shape → Record → ℕ → Type 0
Reaches Shape.Wrong r v = Unit {0}
Reaches Shape.Bare r v = Unit {0}
Reaches Shape.Valued r v = Unit {0}
Reaches Shape.Named r v = r.a < v
Reaches (Shape.One s) r v = r.a < most_nodes
Reaches (Shape.Two s t) r v = (r.a < most_nodes) × (r.b < most_nodes)
Reaches (Shape.Three s t u) r v = (r.a < most_nodes) × (r.b < most_nodes) × (r.c < most_nodes)
