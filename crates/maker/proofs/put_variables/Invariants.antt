-- `maker::put_variables` meets its contract: after i turns, what is left of the lines and of their records is that of the variables from i on. Assumes nothing.
use mathlib.Core.Path.{◌≡◌}
use lib.ListN.{length}
use Rattle.maker.proofs.LinesLaws.{Lines}
use Rattle.maker.proofs.put_variables.Given as goal

abbrev pub invariant-loop-i : goal.invariant-loop-i
invariant-loop-i l = (length l.sheet ≡ length l.initial.sheet) × Lines l.text l.count l.initial.sheet l.at l.i l.sheet
