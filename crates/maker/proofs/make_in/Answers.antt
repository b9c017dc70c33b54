-- `maker::make_in` meets its contract: the sheet that is laid is the draft's, and is delivered. Assumes nothing.
use Rattle.maker.proofs.MakeLaws.{sheet-makes}
use Rattle.maker.proofs.make_in.Goals as goal

pub returns : goal.returns
returns c = sheet-makes c.requires.0 c.requires.1 c.lay.ensures c.deliver.ensures
