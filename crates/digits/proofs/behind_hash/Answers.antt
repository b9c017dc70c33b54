-- `digits::behind_hash` meets its contract. Assumes nothing.
use Rattle.digits.proofs.HashScan.{passing-turn}
use Rattle.digits.proofs.behind_hash.Goals as goal

pub loop-k-preserved : goal.loop-k-preserved
loop-k-preserved c = passing-turn c.loop-k.invariant c.behind-p.ensures
