-- `writer::models_line` meets its contract: the line with models, nothing without. Assumes nothing.
use mathlib.Core.Path.{ap}
use native.Mathlib.Omega.{arith}
use lib.ListN.{length}
use Rattle.room.proofs.RoomLaws.{wrote_none, wrote_as}
use Rattle.writer.specs.Frame.{produce_models}
use Rattle.writer.proofs.ScriptLaws.{only-with, only-without}
use Rattle.writer.proofs.models_line.Goals as goal

pub put-requires : goal.put-requires
put-requires c = omega (arith, ap length (only-with produce_models c.if-form.true))

pub returns-then-form : goal.returns-then-form
returns-then-form c = wrote_as c.put.ensures (only-with produce_models c.if-form.true)

pub returns-else-form : goal.returns-else-form
returns-else-form c = wrote_as (wrote_none _ 0) (only-without produce_models c.if-form.false)
