-- `writer::asked_values` meets its contract: the line with models, nothing without. Assumes nothing.
use mathlib.Core.Path.{ap}
use native.Mathlib.Omega.{arith}
use lib.ListN.{length}
use Rattle.lines.specs.Lines.{values_line}
use Rattle.room.proofs.RoomLaws.{wrote_none, wrote_as}
use Rattle.writer.proofs.ScriptLaws.{only-with, only-without}
use Rattle.writer.proofs.asked_values.Goals as goal

pub values_line-requires : goal.values_line-requires
values_line-requires c = (omega arith, omega (arith, ap length (only-with (values_line c.args.count) c.if-form.true)))

pub returns-then-form : goal.returns-then-form
returns-then-form c = wrote_as c.values_line.ensures (only-with _ c.if-form.true)

pub returns-else-form : goal.returns-else-form
returns-else-form c = wrote_as (wrote_none _ _) (only-without _ c.if-form.false)
