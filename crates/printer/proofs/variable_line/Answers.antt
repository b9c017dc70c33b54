-- `printer::variable_line` meets its contract: the record has the bits of both ends. Assumes nothing.
use mathlib.Core.Path.{sym, ap}
use native.Mathlib.Omega.{arith}
use lib.ListN.{length}
use Rattle.room.proofs.RoomLaws.{wrote_as, chain}
use Rattle.reading.proofs.ReadLaws.{name_inside}
use Rattle.printer.proofs.LineLaws.{start-length, end-length, line-from, line-length}
use Rattle.printer.proofs.variable_line.Goals as goal

pub u16_at-low-requires : goal.u16_at-low-requires
u16_at-low-requires c = omega (arith, name_inside _ (sym c.bytes-bytes.ensures.accepted) c.requires.0, c.variable_place-place.ensures, ap length c.bytes-bytes.ensures.same)

pub overflow_add-place : goal.overflow_add-place
overflow_add-place c = omega (arith, name_inside _ (sym c.bytes-bytes.ensures.accepted) c.requires.0, c.variable_place-place.ensures, ap length c.bytes-bytes.ensures.same)

pub u16_at-high-requires : goal.u16_at-high-requires
u16_at-high-requires c = omega (arith, name_inside _ (sym c.bytes-bytes.ensures.accepted) c.requires.0, c.variable_place-place.ensures, ap length c.bytes-bytes.ensures.same)

pub named_start-next-requires : goal.named_start-next-requires
named_start-next-requires c =
    let s = c.args.sheet.now in
    let i = c.args.n.0 in
    (c.requires.0, omega (arith, start-length s i, line-length s i c.variable_place-place.ensures (rw c.bytes-bytes.ensures.same at c.u16_at-low.ensures) (rw c.bytes-bytes.ensures.same at c.u16_at-high.ensures)))

pub line_end-requires : goal.line_end-requires
line_end-requires c =
    let s = c.args.sheet.now in
    let i = c.args.n.0 in
    omega (arith, start-length s i, end-length c.u16_at-low.result c.u16_at-high.result, line-length s i c.variable_place-place.ensures (rw c.bytes-bytes.ensures.same at c.u16_at-low.ensures) (rw c.bytes-bytes.ensures.same at c.u16_at-high.ensures))

pub returns : goal.returns
returns c =
    let s = c.args.sheet.now in
    let i = c.args.n.0 in
    wrote_as (chain (omega (arith, start-length s i, line-length s i c.variable_place-place.ensures (rw c.bytes-bytes.ensures.same at c.u16_at-low.ensures) (rw c.bytes-bytes.ensures.same at c.u16_at-high.ensures))) c.named_start-next.ensures c.line_end.ensures)
    (line-from s i c.variable_place-place.ensures (rw c.bytes-bytes.ensures.same at c.u16_at-low.ensures) (rw c.bytes-bytes.ensures.same at c.u16_at-high.ensures))
