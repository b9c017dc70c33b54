-- `put_check` meets its contract: the two bytes of the content's check. Assumes nothing.
use mathlib.Core.Path.{refl, ap, ◌∙◌}
use native.Mathlib.Omega.{arith}
use Rattle.numbers.specs.Bytes.{pair}
use Rattle.sheets.specs.Laying.{with_check}
use Rattle.sheets.proofs.BitsLaws.{pair-is}
use Rattle.sheets.proofs.PutLaws.{written}
use Rattle.sheets.proofs.put_check.Goals as goal

pub returns : goal.returns
unfolding with_check
returns c = written c.put.ensures (pair-is c.to_le_bytes.ensures (omega arith) ∙ ap pair c.content_check-sum.ensures) refl
