-- `nodes::read_nodes` meets its contract: the loop's invariant is `Going`. Assumes nothing.
use Rattle.nodes.proofs.LoopLaws.{Going}
use Rattle.nodes.proofs.read_nodes.Given as goal

abbrev pub invariant-loop-i : goal.invariant-loop-i
invariant-loop-i l = Going l.sheet l.n l.v l.starts l.findings l.i
