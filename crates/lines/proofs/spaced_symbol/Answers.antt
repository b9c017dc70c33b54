-- `lines::spaced_symbol` meets its contract: the symbol behind the blank. Assumes nothing.
use native.Mathlib.Omega.{arith}
use Rattle.room.proofs.RoomLaws.{chain}
use Rattle.lines.proofs.spaced_symbol.Goals as goal

pub returns : goal.returns
returns c = chain (omega arith) c.put-next.ensures c.symbol.ensures
