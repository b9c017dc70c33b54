-- `ragwashin_block` meets its contract: the length of the part that `block` hands back. Assumes nothing.
use Rattle.capi.proofs.CodeLaws.{block-tells}
use Rattle.capi.proofs.ragwashin_block.Goals as goal

pub returns : goal.returns
returns c = (block-tells c.args.k c.block.ensures).0
