-- `begins_declared` meets its contract. Assumes nothing.
use Rattle.scan.proofs.Beginnings.{comparing-here, comparing-turn, comparing-end}
use Rattle.scan.proofs.begins_declared.Goals as goal

pub returns-then-beginning : goal.returns-then-beginning
returns-then-beginning c = comparing-here c.loop-i.invariant c.loop-i-test.true c.name_at.ensures c.beginning.ensures c.if-beginning.true

pub loop-i-preserved : goal.loop-i-preserved
loop-i-preserved c = comparing-turn c.loop-i.invariant c.loop-i-test.true c.name_at.ensures c.beginning.ensures c.if-beginning.false c.next_line-line.ensures

pub returns : goal.returns
returns c = comparing-end c.loop-i.invariant c.loop-i-test.false
