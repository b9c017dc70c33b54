-- `room::put` meets its contract: after i bytes the room has the text's first i in it. Assumes nothing.
use native.Mathlib.Omega.{arith}
use lib.ListN.{length-set}
use Rattle.room.proofs.RoomLaws.{within_none, within-turn, wrote-all}
use Rattle.room.proofs.put.Goals as goal

pub loop-i-init : goal.loop-i-init
loop-i-init c = (omega arith, within_none c.args.text.now _ _)

pub loop-i-preserved : goal.loop-i-preserved
loop-i-preserved c = (simp length-set (omega arith), within-turn _ _ _ _ c.loop-i.invariant.1 (omega arith) (omega arith))

pub returns : goal.returns
returns c = wrote-all _ _ _ _ c.loop-i.invariant.1 (omega arith)
