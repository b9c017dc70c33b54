-- `lines::values_line` meets its contract: nothing, or the line from its four pieces. Assumes nothing.
use native.Mathlib.Omega.{arith}
use Rattle.room.proofs.RoomLaws.{wrote_none, wrote_as, chain4}
use Rattle.lines.proofs.LineLaws.{values-none, values_length, values-from}
use Rattle.lines.proofs.values_line.Goals as goal

pub returns-then-count-eq0 : goal.returns-then-count-eq0
returns-then-count-eq0 c = wrote_as (wrote_none _ _) (values-none (omega arith))

pub put-p-requires : goal.put-p-requires
put-p-requires c = omega (arith, values_length c.args.count (omega arith))

pub symbol-q-requires : goal.symbol-q-requires
symbol-q-requires c = (omega arith, omega (arith, values_length c.args.count (omega arith)))

pub further_symbols-r-requires : goal.further_symbols-r-requires
further_symbols-r-requires c =
    (omega arith, omega (arith, values_length c.args.count (omega arith)))

pub put-requires : goal.put-requires
put-requires c =
    omega (arith, values_length c.args.count (omega arith))

pub returns : goal.returns
returns c =
    wrote_as (chain4 (omega (arith, values_length c.args.count (omega arith))) c.put-p.ensures c.symbol-q.ensures c.further_symbols-r.ensures c.put.ensures) (values-from _ (omega arith))
