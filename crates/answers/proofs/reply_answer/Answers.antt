-- `reply_answer` meets its contract: by what the reply comes to, and the row that it leaves. Assumes nothing.
use native.Mathlib.Omega.{arith}
use mathlib.Core.Path.{◌∙◌, ap}
use Rattle.std.specs.Prelude.{Ok}
use Rattle.answers.proofs.ReplyLaws.{reply-settled, reply-fails, reply-unsat, reply-refused}
use Rattle.answers.proofs.reply_answer.Goals as goal

pub fails_line-requires : goal.fails_line-requires
fails_line-requires c =
    (reply-settled _ _ c.reply_into.ensures (c.in-Ok-Fails.is ∙ ap Ok c.in-Ok-Fails.field-0-is) (λ j. omega (arith, c.type_inv.sheet j)), omega arith)

pub returns-in-Ok-Unsat : goal.returns-in-Ok-Unsat
returns-in-Ok-Unsat c = let w = reply-unsat _ _ c.reply_into.ensures (c.in-Ok-Unsat.is ∙ ap Ok c.in-Ok-Unsat.field-0-is) c.put.ensures in record { wrote_reply = w.0; prefix_len = w.1 }

pub returns-in-Ok-Fails : goal.returns-in-Ok-Fails
returns-in-Ok-Fails c = let w = reply-fails _ _ c.reply_into.ensures (c.in-Ok-Fails.is ∙ ap Ok c.in-Ok-Fails.field-0-is) c.fails_line.ensures in record { wrote_reply = w.0; prefix_len = w.1 }

pub returns-in-Err : goal.returns-in-Err
returns-in-Err c = let w = reply-refused _ _ c.reply_into.ensures c.in-Err.is (rw c.into.ensures at c.refused_line.ensures) in record { wrote_reply = w.0; prefix_len = w.1 }
