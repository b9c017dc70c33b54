-- `printer::line_len` meets its contract: the line from its parts. Assumes nothing.
use mathlib.Core.Path.{sym, ap}
use native.Mathlib.Omega.{arith}
use lib.ListN.{length}
use Rattle.spelling.proofs.NumberLaws.{value-short}
use Rattle.reading.proofs.ReadLaws.{name_inside}
use Rattle.expressions.proofs.NameLaws.{name-short}
use Rattle.printer.proofs.LineLaws.{line-length}
use Rattle.printer.proofs.line_len.Goals as goal

pub u16_at-requires : goal.u16_at-requires
u16_at-requires c = omega (arith, name_inside _ (sym c.bytes-bytes.ensures.accepted) c.requires, c.variable_place-place.ensures, ap length c.bytes-bytes.ensures.same)

pub overflow_add-place : goal.overflow_add-place
overflow_add-place c = omega (arith, name_inside _ (sym c.bytes-bytes.ensures.accepted) c.requires, c.variable_place-place.ensures, ap length c.bytes-bytes.ensures.same)

pub u16_at-requires-2 : goal.u16_at-requires-2
u16_at-requires-2 c = omega (arith, name_inside _ (sym c.bytes-bytes.ensures.accepted) c.requires, c.variable_place-place.ensures, ap length c.bytes-bytes.ensures.same)

pub overflow_add-result : goal.overflow_add-result
overflow_add-result c = omega (arith, name-short _ _ c.bytes-bytes.ensures.accepted c.requires)

pub overflow_add-result-2 : goal.overflow_add-result-2
overflow_add-result-2 c = omega (arith, name-short _ _ c.bytes-bytes.ensures.accepted c.requires, value-short c.u16_at.result)

pub overflow_add-result-3 : goal.overflow_add-result-3
overflow_add-result-3 c = omega (arith, name-short _ _ c.bytes-bytes.ensures.accepted c.requires, value-short c.u16_at.result, value-short c.u16_at-2.result)

pub returns : goal.returns
returns c =
    omega (arith, line-length c.args.sheet.now c.args.n.0 c.variable_place-place.ensures (rw c.bytes-bytes.ensures.same at c.u16_at.ensures) (rw c.bytes-bytes.ensures.same at c.u16_at-2.ensures))
