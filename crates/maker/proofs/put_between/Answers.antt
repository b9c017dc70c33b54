-- `maker::put_between` meets its contract: the name as it stands, and the numbers as the machine keeps them. Assumes nothing.
use Rattle.maker.proofs.LineLaws.{numbers-kept}
use Rattle.maker.proofs.put_between.Goals as goal

pub returns : goal.returns
returns c = numbers-kept c.requires c.number_of-low.ensures c.number_of-high.ensures _ c.put_variable.ensures
