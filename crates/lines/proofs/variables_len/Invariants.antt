-- `lines::variables_len` meets its contract: after i turns the lines of the first i variables are counted. Assumes nothing.
use Rattle.lines.specs.Lines.{LinesSize}
use Rattle.lines.proofs.variables_len.Given as goal

abbrev pub invariant-loop-i : goal.invariant-loop-i
invariant-loop-i l = LinesSize l.i l.size
