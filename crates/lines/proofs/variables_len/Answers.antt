-- `lines::variables_len` meets its contract: after i turns the lines of the first i variables are counted. Assumes nothing.
use mathlib.Core.List.{[]}
use native.Mathlib.Omega.{arith}
use Rattle.lines.proofs.LineLaws.{lines_none, lines_more, lines-short}
use Rattle.lines.proofs.variables_len.Goals as goal

pub loop-i-init : goal.loop-i-init
loop-i-init c = lines_none

pub overflow_add-size : goal.overflow_add-size
overflow_add-size c = omega (arith, c.loop-i.invariant.of [], lines-short [] c.loop-i.i)

pub loop-i-preserved : goal.loop-i-preserved
loop-i-preserved c = lines_more c.loop-i.invariant c.lines_len-size.ensures.0
