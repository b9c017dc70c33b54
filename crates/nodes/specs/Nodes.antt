-- Refusals 6 to 8 as the cascade tests them (document 01, "When a sheet is turned away"): node after node, 6 before 7 before 8, and the goal last.
use Rattle.std.specs.Prelude.{ℕ, Bool, List, eqb}
use Rattle.std.proofs.Math.Option.{Option}
use Rattle.lists.specs.First.{◌otherwise◌, first}
use Rattle.refusals.specs.declared.Refusal.{Refusal}
use Rattle.meaning.specs.declared.Sort.{Sort}
use Rattle.meaning.specs.declared.Sort.TheVariants.{Truth as truth}
use Rattle.kinds.specs.declared.Record.{Record}
use Rattle.layout.specs.Starts.{shape_at, sort_at, operands_of, sorts_of, start_at}
use Rattle.layout.specs.Parts.{node_count, goal_at, variable_count, table}
use Rattle.refusals.specs.Said.{unless}
use Rattle.order.specs.Order.{rightly_placed}
use Rattle.findings.specs.Findings.{finding_at, finding_fits}
use Rattle.findings.specs.Steps.{same_sort, are_sorted}

-- node n's operands are of the right sorts
unfoldable pub typed : (ℕ → Record) → ℕ → Bool
typed f n = are_sorted (sort_at f) (operands_of (shape_at (f n)) (f n)) (sorts_of (shape_at (f n)))

-- at node n: refusal 6, then 7, then 8
unfoldable pub node_refusal : List ℕ → ℕ → Option Refusal
node_refusal s n =
    unless (rightly_placed (table s n) (variable_count s) n (start_at (table s))) 6 n
    otherwise unless (typed (table s) n) 7 n
    otherwise unless (finding_fits (finding_at s n)) 8 n

-- after all nodes: the goal's subtree is the whole table, then the goal is a truth value
abbrev pub goal_refusal : ℕ → Sort → ℕ → Option Refusal
goal_refusal start sort g = unless (eqb start 0) 6 g otherwise unless (same_sort sort truth) 7 g

unfoldable pub nodes : List ℕ → Option Refusal
nodes s = first (node_refusal s) 0 (node_count s) otherwise goal_refusal (start_at (table s) (goal_at s)) (sort_at (table s) (goal_at s)) (goal_at s)
