-- `replies::pairs` meets its contract. Assumes nothing.
use Rattle.replies.proofs.PassLaws.{pairs-turn}
use Rattle.replies.proofs.pairs.Goals as goal

pub loop-i-preserved : goal.loop-i-preserved
loop-i-preserved c = pairs-turn c.loop-i.invariant c.loop-i-test.true c.in_ok-at.ensures
