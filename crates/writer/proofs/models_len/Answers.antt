-- `writer::models_len` meets its contract: both lines with models, nothing without. Assumes nothing.
use mathlib.Core.Path.{ap}
use native.Mathlib.Omega.{arith}
use lib.ListN.{length}
use Rattle.lines.specs.Lines.{values_line}
use Rattle.lines.proofs.LineLaws.{values-short}
use Rattle.writer.specs.Frame.{produce_models}
use Rattle.writer.proofs.ScriptLaws.{only-with, only-without}
use Rattle.writer.proofs.models_len.Goals as goal

pub overflow_add-result : goal.overflow_add-result
overflow_add-result c = omega (arith, values-short c.args.count)

pub returns-then-form : goal.returns-then-form
returns-then-form c = let h = c.if-form.true in omega (arith, ap length (only-with produce_models h), ap length (only-with (values_line c.args.count) h))

pub returns-else-form : goal.returns-else-form
returns-else-form c = let h = c.if-form.false in omega (arith, ap length (only-without produce_models h), ap length (only-without (values_line c.args.count) h))
