-- `lines::range_line` meets its contract: the record has the bits of both ends. Assumes nothing.
use native.Mathlib.Omega.{arith}
use Rattle.room.proofs.RoomLaws.{wrote_as, chain}
use Rattle.lines.proofs.LineLaws.{start-length, range-from}
use Rattle.lines.proofs.range_line.Goals as goal

pub range_end-requires : goal.range_end-requires
range_end-requires c =
    omega (arith, start-length c.u16_at-low.result c.args.n.0)

pub returns : goal.returns
returns c =
    wrote_as (chain (omega (arith, start-length c.u16_at-low.result c.args.n.0)) c.range_start-next.ensures c.range_end.ensures)
    (range-from _ (λ i. omega (arith, c.type_inv.sheet i)) _ c.variable_place-place.ensures c.u16_at-low.ensures c.u16_at-high.ensures)
