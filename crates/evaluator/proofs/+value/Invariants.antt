-- `value` calls itself on its operands, whose numbers are smaller. Assumes nothing.
use Rattle.evaluator.proofs.+value.Given as goal

-- the node's number
abbrev pub decreases-value : goal.decreases-value
decreases-value l = l.node.0
