-- `lines::range_lines` meets its contract: after i turns the room has the lines of the first i variables in it. Assumes nothing.
use native.Mathlib.Omega.{arith}
use Rattle.lists.proofs.JoinedLaws.{length-within}
use Rattle.lines.specs.Lines.{range_line}
use Rattle.room.proofs.RoomLaws.{wrote-more, wrote-no-texts}
use Rattle.lines.proofs.LineLaws.{range_length}
use Rattle.lines.proofs.range_lines.Goals as goal

pub loop-variable-init : goal.loop-variable-init
loop-variable-init c = wrote-no-texts _ _ _

pub range_line-next-requires : goal.range_line-next-requires
range_line-next-requires c =
    (omega arith, omega arith, omega (arith, length-within (range_line c.args.sheet.now) {n = c.loop-variable.variable} {m = c.args.count} (omega arith), range_length c.args.sheet.now c.loop-variable.variable))

pub loop-variable-preserved : goal.loop-variable-preserved
loop-variable-preserved c = wrote-more (range_line c.args.sheet.now) {m = c.args.count} (omega arith) (omega arith) c.loop-variable.invariant c.range_line-next.ensures
