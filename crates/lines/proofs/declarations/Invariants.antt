-- `lines::declarations` meets its contract: after i turns the room has the lines of the first i variables in it. Assumes nothing.
use Rattle.lists.specs.Joined.{joined_below}
use Rattle.room.specs.Room.{Wrote}
use Rattle.lines.specs.Lines.{declaration_line}
use Rattle.lines.proofs.declarations.Given as goal

abbrev pub invariant-loop-i : goal.invariant-loop-i
invariant-loop-i l = Wrote (joined_below declaration_line l.i) l.initial.room l.room l.at l.next
