-- `lines::further_symbols` meets its contract: after i turns the room has the symbols of i variables behind the first in it. Assumes nothing.
use native.Mathlib.Omega.{arith}
use Rattle.lists.proofs.JoinedLaws.{length-within}
use Rattle.lines.specs.Lines.{further_symbol}
use Rattle.room.proofs.RoomLaws.{wrote-more, wrote-no-texts}
use Rattle.lines.proofs.LineLaws.{further-length}
use Rattle.lines.proofs.further_symbols.Goals as goal

pub loop-i-init : goal.loop-i-init
loop-i-init c = wrote-no-texts _ _ _

pub spaced_symbol-next-requires : goal.spaced_symbol-next-requires
spaced_symbol-next-requires c =
    (omega arith, omega (arith, length-within further_symbol {n = c.loop-i.i} {m = c.args.others} (omega arith), further-length c.loop-i.i))

pub loop-i-preserved : goal.loop-i-preserved
loop-i-preserved c = wrote-more further_symbol {m = c.args.others} (omega arith) (omega arith) c.loop-i.invariant c.spaced_symbol-next.ensures
