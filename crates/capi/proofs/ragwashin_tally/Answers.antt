-- `ragwashin_tally` meets its contract: the code of what `tally` answers. Assumes nothing.
use mathlib.Core.Path.{◌∙◌}
use native.Mathlib.Omega.{arith}
use Rattle.capi.proofs.CaseCodes.{tally-place, tally-refused, tally-counted}
use Rattle.capi.proofs.ragwashin_tally.Goals as goal

pub refusal_code-requires : goal.refusal_code-requires
refusal_code-requires c = rw c.into.ensures (omega (arith, tally-place _ c.tally-tallied.ensures c.in-Err.is))

pub returns-in-Ok : goal.returns-in-Ok
returns-in-Ok c = tally-counted _ c.tally-tallied.ensures c.in-Ok.is

pub returns-in-Err : goal.returns-in-Err
returns-in-Err c = (rw c.into.ensures at c.refusal_code.ensures) ∙ tally-refused _ c.tally-tallied.ensures c.in-Err.is
