-- `check_of` meets its contract: the sum and k + 1 fit, and are reduced once. Assumes nothing.
use Rattle.layout.specs.Checks.{check_of}
use Rattle.blocks.proofs.check_of.Goals as goal

pub returns : goal.returns
unfolding check_of
returns c = rw c.weighed_sum.ensures
