-- `outside_clear` meets its contract. The loop's invariant: the tails of the blocks passed are zero. Assumes nothing.

use mathlib.Core.Path.{◌≡◌}
use mathlib.Core.Bool.{true}
use Rattle.lists.specs.Places.{all_below}
use Rattle.header.specs.Header.{tail_clear}
use Rattle.header.proofs.outside_clear.Given as goal

abbrev pub invariant-loop-k : goal.invariant-loop-k
invariant-loop-k l = all_below (tail_clear l.sheet) l.k ≡ true
