-- `printer::variable_lines` meets its contract: after i turns the room has the lines of the first i variables in it. Assumes nothing.
use mathlib.Core.Path.{◌≡◌, ap}
use native.Mathlib.Omega.{arith}
use Rattle.lists.specs.Joined.{joined_below}
use Rattle.lists.proofs.JoinedLaws.{length-within}
use Rattle.layout.specs.Parts.{variable_count}
use Rattle.room.proofs.RoomLaws.{wrote_as, wrote-more, wrote-no-texts}
use Rattle.printer.specs.Lines.{line_at}
use Rattle.printer.proofs.variable_lines.Goals as goal

pub loop-variable-init : goal.loop-variable-init
loop-variable-init c = (omega arith, wrote-no-texts _ _ _)

pub variable_line-next-requires : goal.variable_line-next-requires
variable_line-next-requires c =
    (omega arith, omega (arith, length-within (line_at c.args.sheet.now) {n = c.loop-variable.variable} {m = variable_count c.args.sheet.now} (omega arith)))

pub loop-variable-preserved : goal.loop-variable-preserved
loop-variable-preserved c =
    (omega arith, wrote-more (line_at c.args.sheet.now) {m = variable_count c.args.sheet.now} (omega arith) (omega arith) c.loop-variable.invariant.1 c.variable_line-next.ensures)

pub shape_of-room : goal.shape_of-room
shape_of-room c = omega arith

pub returns : goal.returns
returns c = let e : c.loop-variable.variable ≡ variable_count c.args.sheet.now = omega arith in wrote_as c.loop-variable.invariant.1 (ap (joined_below (line_at c.args.sheet.now)) e)
