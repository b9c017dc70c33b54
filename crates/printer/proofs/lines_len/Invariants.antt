-- `printer::lines_len` meets its contract: after i turns the lines of the first i variables are counted. Assumes nothing.
use mathlib.Core.Path.{◌≡◌}
use lib.ListN.{length}
use Rattle.lists.specs.Joined.{joined_below}
use Rattle.printer.specs.Lines.{line_at}
use Rattle.printer.proofs.lines_len.Given as goal

abbrev pub invariant-loop-variable : goal.invariant-loop-variable
invariant-loop-variable l = l.size ≡ length (joined_below (line_at l.sheet) l.variable)
