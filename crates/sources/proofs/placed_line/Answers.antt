-- `placed_line` meets its contract: the refusal, the line and the column in order. Assumes nothing.
use native.Mathlib.Omega.{arith}
use Rattle.room.proofs.RoomLaws.{chain, wrote_as}
use Rattle.sources.proofs.SourceLaws.{placed-from}
use Rattle.sources.proofs.placed_line.Goals as goal

pub returns : goal.returns
returns c =
    let told = c.put_numbers-told.ensures in
    let placed = c.put_numbers-next.ensures in
    wrote_as
    (chain (omega (arith, told.1, told.0.place)) told.0 (chain (omega (arith, placed.1, placed.0.place)) placed.0 c.put.ensures))
    (placed-from _ _ _ c.line_of-row.ensures c.column_of-column.ensures)
