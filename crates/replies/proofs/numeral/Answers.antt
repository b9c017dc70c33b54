-- `replies::numeral` meets its contract. Assumes nothing.
use Rattle.replies.proofs.PassLaws.{digits-turn}
use Rattle.replies.proofs.numeral.Goals as goal

pub loop-i-preserved : goal.loop-i-preserved
loop-i-preserved c = digits-turn c.loop-i.invariant c.loop-i-test.true c.in_ok-at.ensures
