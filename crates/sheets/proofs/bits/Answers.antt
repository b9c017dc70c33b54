-- `bits` meets its contract: the library's bits are those of two's complement. Assumes nothing.
use mathlib.Core.Path.{◌∙◌}
use Rattle.sheets.proofs.BitsLaws.{bits-are}
use Rattle.sheets.proofs.bits.Goals as goal

pub returns : goal.returns
returns c = c.cast_unsigned.ensures ∙ bits-are c.ranges.x
