-- `lines::declarations` meets its contract: after i turns the room has the lines of the first i variables in it. Assumes nothing.
use native.Mathlib.Omega.{arith}
use Rattle.lists.proofs.JoinedLaws.{length-within}
use Rattle.lines.specs.Lines.{declaration_line}
use Rattle.room.proofs.RoomLaws.{wrote-more, wrote-no-texts}
use Rattle.lines.proofs.LineLaws.{declaration-length}
use Rattle.lines.proofs.declarations.Goals as goal

pub loop-i-init : goal.loop-i-init
loop-i-init c = wrote-no-texts _ _ _

pub declaration-next-requires : goal.declaration-next-requires
declaration-next-requires c =
    (omega arith, omega (arith, length-within declaration_line {n = c.loop-i.i} {m = c.args.count} (omega arith), declaration-length c.loop-i.i))

pub loop-i-preserved : goal.loop-i-preserved
loop-i-preserved c = wrote-more declaration_line {m = c.args.count} (omega arith) (omega arith) c.loop-i.invariant c.declaration-next.ensures
