-- `maker::put_variables` meets its contract: after i turns, what is left of the lines and of their records is that of the variables from i on. Assumes nothing.
use native.Mathlib.Omega.{arith}
use Rattle.maker.proofs.LinesLaws.{lines-begin, lines-ask, lines-turn, lines_end}
use Rattle.maker.proofs.put_variables.Goals as goal

pub loop-i-init : goal.loop-i-init
loop-i-init c = (omega arith, lines-begin _ _ _)

pub put_line-at-requires : goal.put_line-at-requires
put_line-at-requires c = lines-ask c.loop-i.invariant.1 c.requires c.loop-i-test.true (omega arith)

pub loop-i-preserved : goal.loop-i-preserved
loop-i-preserved c = (omega arith, lines-turn c.loop-i.invariant.1 c.loop-i-test.true c.put_line-at.ensures)

pub shape_of-sheet : goal.shape_of-sheet
shape_of-sheet c = omega arith

pub returns : goal.returns
returns c = lines_end c.loop-i.invariant.1 c.loop-i-test.false
