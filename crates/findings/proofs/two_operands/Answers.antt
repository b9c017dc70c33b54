-- `two_operands` meets its contract: the range of an operand that fits has 16 bits. Assumes nothing.
use Rattle.findings.proofs.FindingLaws.{operand-fits}
use Rattle.findings.proofs.two_operands.Goals as goal

pub narrow_result-requires : goal.narrow_result-requires
narrow_result-requires c = (operand-fits c.args.f c.args.s c.in_ok-p.ensures c.requires.0, operand-fits c.args.g c.args.t c.in_ok-q.ensures c.requires.1)
