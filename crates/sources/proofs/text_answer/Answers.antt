-- `text_answer` meets its contract: the text fits, and a refusal leaves the room as it was. Assumes nothing.
use Rattle.answers.proofs.AnswerLaws.{counted, wrote-from}
use Rattle.sources.proofs.SourceLaws.{text-written, text-refused}
use Rattle.sources.proofs.text_answer.Goals as goal

pub returns-in-Ok : goal.returns-in-Ok
returns-in-Ok c =
    let w = text-written _ c.requires c.print.ensures c.in-Ok.is in
    record { wrote = w.0; prefix_len = w.1 }

pub returns-in-Err : goal.returns-in-Err
returns-in-Err c =
    let w = wrote-from (text-refused _ c.requires c.print.ensures c.in-Err.is) (rw c.into.ensures at c.refused_line.ensures) in
    record { wrote = w; prefix_len = counted w }
