-- `sheets::put_checks` meets its contract: after k turns the checks of the blocks below k are put. Assumes nothing.
use mathlib.Core.Path.{◌≡◌}
use Rattle.sheets.specs.Laying.{with_checks}
use Rattle.sheets.proofs.put_checks.Given as goal

abbrev pub invariant-loop-k : goal.invariant-loop-k
invariant-loop-k l = l.sheet ≡ with_checks l.k l.initial.sheet
