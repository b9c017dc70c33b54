-- `word_of` meets its contract. Invariant: the node is among those of the expressions that stand at `at`, of which the first has number `first`. Assumes nothing.
use Prim.Native.Nat.{◌-◌}
use lib.ListN.{length}
use Rattle.pointing.proofs.SpanLaws.{Hunting}
use Rattle.pointing.proofs.word_of.Given as goal

abbrev pub invariant-loop-here : goal.invariant-loop-here
invariant-loop-here l = Hunting l.text l.start l.n l.at l.first

abbrev pub decreases-loop-here : goal.decreases-loop-here
decreases-loop-here l = length l.text - l.at
