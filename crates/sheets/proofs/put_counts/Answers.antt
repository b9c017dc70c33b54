-- `sheets::put_counts` meets its contract: the five bytes in front. Assumes nothing.
use native.Mathlib.Omega.{arith}
use Rattle.sheets.specs.Laying.{with_counts}
use Rattle.sheets.proofs.BitsLaws.{pair-is}
use Rattle.sheets.proofs.put_counts.Goals as goal

pub returns : goal.returns
unfolding with_counts
returns c = rw (pair-is c.to_le_bytes.ensures (omega arith)) at c.put.ensures.room
