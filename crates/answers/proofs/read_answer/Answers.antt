-- `read_answer` meets its contract: by what the reading says. Assumes nothing.
use Rattle.room.proofs.RoomLaws.{wrote_as}
use Rattle.answers.proofs.AnswerLaws.{read-accepted, read-refused}
use Rattle.answers.proofs.read_answer.Goals as goal

pub returns-in-Ok : goal.returns-in-Ok
returns-in-Ok c =
    wrote_as c.put.ensures (read-accepted _ c.read.ensures c.in-Ok.is)

pub returns-in-Err : goal.returns-in-Err
returns-in-Err c =
    wrote_as (rw c.into.ensures at c.refused_line.ensures) (read-refused _ c.read.ensures c.in-Err.is)
