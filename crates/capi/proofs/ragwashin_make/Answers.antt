-- `ragwashin_make` meets its contract: the code of what `make` answers, the room as it leaves it. Assumes nothing.
use Rattle.capi.proofs.MadeCodes.{make-code}
use Rattle.capi.proofs.ragwashin_make.Goals as goal

pub returns : goal.returns
returns c = make-code c.make.ensures c.written_code.ensures
