-- `sheets::put_variable` meets its contract: the name behind the ends and its length. Assumes nothing.
use borrow.Author.Rules.{rules}
use mir.Facts.{to_z-of_z}
use Rattle.room.proofs.RoomLaws.{chain}
use Rattle.sheets.specs.Laying.{with_variable}
use Rattle.sheets.proofs.PutLaws.{written}
use Rattle.sheets.proofs.put_variable.Goals as goal

pub returns : goal.returns
unfolding with_variable
returns c = written (chain (search rules) c.put_ends-next.ensures c.put.ensures) (rw (to_z-of_z c.ranges.low, to_z-of_z c.ranges.high)) c.variable_place-at.ensures
