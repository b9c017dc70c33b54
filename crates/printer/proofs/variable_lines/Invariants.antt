-- `printer::variable_lines` meets its contract: after i turns the room has the lines of the first i variables in it. Assumes nothing.
use mathlib.Core.Path.{◌≡◌}
use lib.ListN.{length}
use Rattle.lists.specs.Joined.{joined_below}
use Rattle.room.specs.Room.{Wrote}
use Rattle.printer.specs.Lines.{line_at}
use Rattle.printer.proofs.variable_lines.Given as goal

abbrev pub invariant-loop-variable : goal.invariant-loop-variable
invariant-loop-variable l = (length l.room ≡ length l.initial.room) × Wrote (joined_below (line_at l.sheet) l.variable) l.initial.room l.room 0 l.next
