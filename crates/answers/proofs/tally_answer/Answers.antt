-- `tally_answer` meets its contract: by what the tally says. Assumes nothing.
use Rattle.room.proofs.RoomLaws.{wrote_as}
use Rattle.answers.proofs.AnswerLaws.{tally-accepted, tally-refused}
use Rattle.answers.proofs.tally_answer.Goals as goal

pub returns-in-Ok : goal.returns-in-Ok
returns-in-Ok c =
    wrote_as c.numbers_line.ensures (tally-accepted _ c.tally-tallied.ensures c.in-Ok.is)

pub returns-in-Err : goal.returns-in-Err
returns-in-Err c =
    wrote_as (rw c.into.ensures at c.refused_line.ensures) (tally-refused _ c.tally-tallied.ensures c.in-Err.is)
