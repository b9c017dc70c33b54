-- `one_operand` meets its contract: the range of an operand that fits has 16 bits. Assumes nothing.
use Rattle.findings.proofs.FindingLaws.{operand-fits}
use Rattle.findings.proofs.one_operand.Goals as goal

pub from_one-requires : goal.from_one-requires
from_one-requires c = operand-fits c.args.f c.args.s c.in_ok-p.ensures c.requires
