-- `ragwashin_check` meets its contract: the code of what `check` answers, the room as it leaves it. Assumes nothing.
use mathlib.Core.Path.{◌∙◌, ap, refl}
use native.Mathlib.Omega.{arith}
use Rattle.std.specs.Prelude.{Ok}
use Rattle.cases.specs.Checks.{checked_said}
use Rattle.capi.proofs.CaseCodes.{checked-code, checked-place}
use Rattle.capi.proofs.ragwashin_check.Goals as goal

pub refusal_code-requires : goal.refusal_code-requires
refusal_code-requires c = rw c.into.ensures (omega (arith, checked-place _ c.check.ensures c.in-Err.is))

pub returns-in-Ok-Holds : goal.returns-in-Ok-Holds
returns-in-Ok-Holds c = checked-code _ c.check.ensures (ap checked_said (c.in-Ok-Holds.is ∙ ap Ok c.in-Ok-Holds.field-0-is)) refl

pub returns-in-Ok-Fails : goal.returns-in-Ok-Fails
returns-in-Ok-Fails c = checked-code _ c.check.ensures (ap checked_said (c.in-Ok-Fails.is ∙ ap Ok c.in-Ok-Fails.field-0-is)) refl

pub returns-in-Err : goal.returns-in-Err
returns-in-Err c = checked-code _ c.check.ensures (ap checked_said c.in-Err.is) (rw c.into.ensures at c.refusal_code.ensures)
