-- `from_operand` meets its contract: a word has at most three operands, so that their count has room. Assumes nothing.
use Rattle.scan.proofs.Leading.{left-fits}
use Rattle.scan.proofs.from_operand.Goals as goal

pub overflow_add-left : goal.overflow_add-left
overflow_add-left c = left-fits _ _ _ _ _ c.in_ok-left.ensures c.requires.0 c.requires.1 c.well_formed.0.1
