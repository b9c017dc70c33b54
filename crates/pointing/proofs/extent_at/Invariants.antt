-- `extent_at` meets its contract. Invariant: so many expressions are to come, and so many nodes are passed. Assumes nothing.
use Prim.Native.Nat.{◌-◌}
use mathlib.Core.List.{List, [], ◌∷◌}
use lib.ListN.{length}
use Rattle.meaning.specs.Rule.{Variable}
use Rattle.texts.specs.Expressions.{Expression}
use Rattle.pointing.specs.Standing.{StandAt}
use Rattle.pointing.proofs.SpanLaws.{Coming}
use Rattle.pointing.proofs.extent_at.Given as goal

abbrev pub invariant-loop-pending : goal.invariant-loop-pending
invariant-loop-pending l = (vs : List Variable) (e : Expression) → StandAt vs (e ∷ []) l.text l.at → Coming vs e l.text l.at l.k l.pending l.nodes

abbrev pub decreases-loop-pending : goal.decreases-loop-pending
decreases-loop-pending l = length l.text - l.k
