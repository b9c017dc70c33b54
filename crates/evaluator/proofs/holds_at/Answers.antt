-- `holds_at` meets its contract: the last node is the goal, whose number stands for whether the rule holds. Assumes nothing.
use native.Mathlib.Omega.{arith}
use Rattle.header.proofs.HeaderLaws.{block_inside}
use Rattle.evaluator.proofs.StandingLaws.{counted, goal-holds}
use Rattle.evaluator.proofs.holds_at.Goals as goal

pub node_count-goal-requires : goal.node_count-goal-requires
node_count-goal-requires c = block_inside (counted c.requires)

pub overflow_sub-goal : goal.overflow_sub-goal
overflow_sub-goal c = omega (arith, c.node_count-goal.ensures, (counted c.requires).some-node)

pub value-requires : goal.value-requires
value-requires c = (c.requires, omega (arith, c.node_count-goal.ensures, (counted c.requires).some-node))

pub returns : goal.returns
returns c = goal-holds c.requires c.node_count-goal.ensures c.value.ensures
