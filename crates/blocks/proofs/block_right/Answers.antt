-- `block_right` meets its contract: what `check_of` and `u16_at` ensure, compared. Assumes nothing.
use native.Mathlib.Nat.{add-sub_cancel_left}
use Rattle.layout.specs.Checks.{block_right}
use Rattle.blocks.proofs.block_right.Goals as goal

pub returns : goal.returns
unfolding block_right
returns c = rw (c.check_of-sum.ensures, c.u16_at-stored.ensures, add-sub_cancel_left)
