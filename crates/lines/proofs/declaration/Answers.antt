-- `lines::declaration` meets its contract: the line from its three pieces. Assumes nothing.
use native.Mathlib.Omega.{arith}
use Rattle.room.proofs.RoomLaws.{wrote_as, chain3}
use Rattle.lines.proofs.LineLaws.{declaration-is}
use Rattle.lines.proofs.declaration.Goals as goal

pub returns : goal.returns
returns c =
    wrote_as (chain3 (omega arith) c.put-p.ensures c.symbol-q.ensures c.put.ensures) (declaration-is _)
