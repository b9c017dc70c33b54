-- `writer::opening` meets its contract: the lines from their three pieces. Assumes nothing.
use native.Mathlib.Omega.{arith}
use Rattle.room.proofs.RoomLaws.{wrote_as, chain3}
use Rattle.writer.proofs.ScriptLaws.{opening-length, opening-from}
use Rattle.writer.proofs.opening.Goals as goal

pub models_line-p-requires : goal.models_line-p-requires
models_line-p-requires c = let a = c.args in omega (arith, opening-length a.form.models a.count)

pub put-q-requires : goal.put-q-requires
put-q-requires c = let a = c.args in omega (arith, opening-length a.form.models a.count)

pub declarations-requires : goal.declarations-requires
declarations-requires c = let a = c.args in (omega arith, omega (arith, opening-length a.form.models a.count))

pub returns : goal.returns
returns c =
    let a = c.args in
    wrote_as (chain3 (omega (arith, opening-length a.form.models a.count)) c.models_line-p.ensures c.put-q.ensures c.declarations.ensures) (opening-from _ _)
