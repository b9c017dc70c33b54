-- `writer::ending` meets its contract: the lines from their two pieces. Assumes nothing.
use native.Mathlib.Omega.{arith}
use Rattle.room.proofs.RoomLaws.{wrote_as, chain}
use Rattle.writer.proofs.ScriptLaws.{ending-length, ending-from}
use Rattle.writer.proofs.ending.Goals as goal

pub asked_values-next-requires : goal.asked_values-next-requires
asked_values-next-requires c = let a = c.args in (omega arith, omega (arith, ending-length a.form.models a.count))

pub put-requires : goal.put-requires
put-requires c = let a = c.args in omega (arith, ending-length a.form.models a.count)

pub returns : goal.returns
returns c =
    let a = c.args in
    wrote_as (chain (omega (arith, ending-length a.form.models a.count)) c.asked_values-next.ensures c.put.ensures) (ending-from _ _)
