-- `room::put` meets its contract: after i bytes the room has the text's first i in it. Assumes nothing.
use mathlib.Core.Path.{◌≡◌}
use lib.ListN.{length, take}
use Rattle.room.specs.Room.{within}
use Rattle.room.proofs.put.Given as goal

abbrev pub invariant-loop-i : goal.invariant-loop-i
invariant-loop-i l = (length l.room ≡ length l.initial.room) × (l.room ≡ within (take l.i l.text) l.at l.initial.room)
