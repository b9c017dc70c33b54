-- `scan` meets its contract. Assumes nothing.
use Rattle.scan.proofs.Scanning.{scanning-begin, scanning-turn, scanning-end}
use Rattle.scan.proofs.scan.Goals as goal

pub loop-next-init : goal.loop-next-init
loop-next-init c = scanning-begin _

pub loop-next-preserved : goal.loop-next-preserved
loop-next-preserved c = scanning-turn c.loop-next.invariant c.in-Some.ensures

pub returns : goal.returns
returns c = scanning-end c.loop-next.invariant c.in_default.ensures c.stopped.result c.stopped.ensures
