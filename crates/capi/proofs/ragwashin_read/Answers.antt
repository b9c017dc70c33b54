-- `ragwashin_read` meets its contract: the code of what `read` answers. Assumes nothing.
use mathlib.Core.Path.{◌∙◌}
use native.Mathlib.Omega.{arith}
use Rattle.capi.proofs.CodeLaws.{accepted-code, refused-code, place-small}
use Rattle.capi.proofs.ragwashin_read.Goals as goal

pub refusal_code-requires : goal.refusal_code-requires
refusal_code-requires c = rw c.into.ensures (omega (arith, place-small _ c.read.ensures c.in-Err.is))

pub returns-in-Ok : goal.returns-in-Ok
returns-in-Ok c = accepted-code _ c.read.ensures c.in-Ok.is

pub returns-in-Err : goal.returns-in-Err
returns-in-Err c = (rw c.into.ensures at c.refusal_code.ensures) ∙ refused-code _ c.read.ensures c.in-Err.is
