-- `printer::spaced_value` meets its contract: the number behind the blank. Assumes nothing.
use native.Mathlib.Omega.{arith}
use Rattle.room.proofs.RoomLaws.{chain}
use Rattle.printer.proofs.spaced_value.Goals as goal

pub returns : goal.returns
returns c = chain (omega arith) c.put-next.ensures c.put_value.ensures
