-- `lines::further_symbols` meets its contract: after i turns the room has the symbols of i variables behind the first in it. Assumes nothing.
use Rattle.lists.specs.Joined.{joined_below}
use Rattle.room.specs.Room.{Wrote}
use Rattle.lines.specs.Lines.{further_symbol}
use Rattle.lines.proofs.further_symbols.Given as goal

abbrev pub invariant-loop-i : goal.invariant-loop-i
invariant-loop-i l = Wrote (joined_below further_symbol l.i) l.initial.room l.room l.at l.next
