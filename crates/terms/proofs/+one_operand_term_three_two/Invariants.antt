-- `terms::term` and the functions that it calls on its operands meet their contracts: the node's number falls. Assumes nothing.
use Prim.Native.Nat.{◌+◌, ◌*◌, max}
use Rattle.terms.proofs.+one_operand_term_three_two.Given as goal

abbrev pub decreases-one : goal.decreases-one
decreases-one l = 5 * l.fields.a + 2

abbrev pub decreases-operand : goal.decreases-operand
decreases-operand l = 5 * l.node.0 + 1

abbrev pub decreases-term : goal.decreases-term
decreases-term l = 5 * l.node.0

abbrev pub decreases-three : goal.decreases-three
decreases-three l = 5 * max l.fields.a (max l.fields.b l.fields.c) + 4

abbrev pub decreases-two : goal.decreases-two
decreases-two l = 5 * max l.fields.a l.fields.b + 3
