-- `put_name_values` meets its contract: after i turns the room has the first i variables in it, none of them longer than the longest. Assumes nothing.
use Prim.Native.Nat.{◌+◌, ◌*◌, ◌≤◌}
use Rattle.room.specs.Room.{Wrote}
use Rattle.phrases.specs.Sizes.{longest_name_value}
use Rattle.phrases.specs.Pieces.{name_values_at}
use Rattle.phrases.proofs.put_name_values.Given as goal

abbrev pub invariant-loop-i : goal.invariant-loop-i
invariant-loop-i l = (l.next ≤ l.at + longest_name_value * l.i) × Wrote (name_values_at l.sheet l.row l.i) l.initial.room l.room l.at l.next
