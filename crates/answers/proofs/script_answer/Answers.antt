-- `script_answer` meets its contract: the script fits, and a refusal leaves the room as it was. Assumes nothing.
use Rattle.answers.proofs.AnswerLaws.{script-written, script-refused, wrote-from}
use Rattle.answers.proofs.script_answer.Goals as goal

pub returns-in-Ok : goal.returns-in-Ok
returns-in-Ok c =
    script-written _ _ c.requires c.write_script.ensures c.in-Ok.is

pub returns-in-Err : goal.returns-in-Err
returns-in-Err c =
    wrote-from (script-refused _ _ c.requires c.write_script.ensures c.in-Err.is) (rw c.into.ensures at c.refused_line.ensures)
