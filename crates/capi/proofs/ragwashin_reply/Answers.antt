-- `ragwashin_reply` meets its contract: the code of what `reply` answers. Assumes nothing.
use mathlib.Core.Path.{◌∙◌, ap, refl}
use Rattle.std.specs.Prelude.{Ok}
use Rattle.capi.proofs.ReplyLaws.{reply-code}
use Rattle.capi.proofs.ragwashin_reply.Goals as goal

pub returns-in-Ok-Unsat : goal.returns-in-Ok-Unsat
returns-in-Ok-Unsat c = reply-code c.reply.ensures (c.in-Ok-Unsat.is ∙ ap Ok c.in-Ok-Unsat.field-0-is) refl

pub returns-in-Ok-Fails : goal.returns-in-Ok-Fails
returns-in-Ok-Fails c = reply-code c.reply.ensures (c.in-Ok-Fails.is ∙ ap Ok c.in-Ok-Fails.field-0-is) refl

pub returns-in-Err : goal.returns-in-Err
returns-in-Err c = reply-code c.reply.ensures c.in-Err.is (rw c.told.ensures.0 at c.refusal_code.ensures)
