-- What is left of the text falls, also from a kind to its first operand. Assumes nothing.
use Prim.Native.Nat.{◌+◌, ◌-◌, ◌*◌}
use lib.ListN.{length}
use Rattle.building.proofs.+build_one_three_two.Given as goal

abbrev pub decreases-build : goal.decreases-build
decreases-build l = 2 * (length l.text.now - l.at)

abbrev pub decreases-one : goal.decreases-one
decreases-one l = 2 * (length l.text.now - l.at) + 1

abbrev pub decreases-three : goal.decreases-three
decreases-three l = 2 * (length l.text.now - l.at) + 1

abbrev pub decreases-two : goal.decreases-two
decreases-two l = 2 * (length l.text.now - l.at) + 1
