-- `lines::range_lines` meets its contract: after i turns the room has the lines of the first i variables in it. Assumes nothing.
use Rattle.lists.specs.Joined.{joined_below}
use Rattle.room.specs.Room.{Wrote}
use Rattle.lines.specs.Lines.{range_line}
use Rattle.lines.proofs.range_lines.Given as goal

abbrev pub invariant-loop-variable : goal.invariant-loop-variable
invariant-loop-variable l = Wrote (joined_below (range_line l.sheet) l.variable) l.initial.room l.room l.at l.next
