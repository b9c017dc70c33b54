-- `check_answer` meets its contract: by what the check says, and the row that it leaves. Assumes nothing.
use native.Mathlib.Omega.{arith}
use mathlib.Core.Path.{◌∙◌, ap}
use Rattle.std.specs.Prelude.{Ok}
use Rattle.room.proofs.RoomLaws.{wrote_as}
use Rattle.answers.proofs.AnswerLaws.{check-holds, check-refused, check-fails, settled}
use Rattle.answers.proofs.check_answer.Goals as goal

pub fails_line-requires : goal.fails_line-requires
fails_line-requires c =
    (settled _ c.check.ensures (c.in-Ok-Fails.is ∙ ap Ok c.in-Ok-Fails.field-0-is) (λ j. omega (arith, c.type_inv.sheet j)), omega arith)

pub returns-in-Ok-Holds : goal.returns-in-Ok-Holds
returns-in-Ok-Holds c =
    wrote_as c.put.ensures (check-holds _ c.check.ensures (c.in-Ok-Holds.is ∙ ap Ok c.in-Ok-Holds.field-0-is))

pub returns-in-Ok-Fails : goal.returns-in-Ok-Fails
returns-in-Ok-Fails c =
    wrote_as c.fails_line.ensures (check-fails _ c.check.ensures (c.in-Ok-Fails.is ∙ ap Ok c.in-Ok-Fails.field-0-is))

pub returns-in-Err : goal.returns-in-Err
returns-in-Err c =
    wrote_as (rw c.into.ensures at c.refused_line.ensures) (check-refused _ c.check.ensures c.in-Err.is)
