-- `printer::line_end` meets its contract: both numbers, and the line feed. Assumes nothing.
use native.Mathlib.Omega.{arith}
use Rattle.room.proofs.RoomLaws.{wrote_as, chain3}
use Rattle.printer.proofs.LineLaws.{end-length, end-from}
use Rattle.printer.proofs.line_end.Goals as goal

pub spaced_value-p-requires : goal.spaced_value-p-requires
spaced_value-p-requires c = let a = c.args in omega (arith, end-length a.low a.high)

pub spaced_value-q-requires : goal.spaced_value-q-requires
spaced_value-q-requires c = let a = c.args in omega (arith, end-length a.low a.high)

pub put-requires : goal.put-requires
put-requires c = let a = c.args in omega (arith, end-length a.low a.high)

pub returns : goal.returns
returns c =
    let a = c.args in
    wrote_as (chain3 (omega (arith, end-length a.low a.high)) c.spaced_value-p.ensures c.spaced_value-q.ensures c.put.ensures) (end-from a.low a.high)
