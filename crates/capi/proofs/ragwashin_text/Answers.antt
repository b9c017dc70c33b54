-- `ragwashin_text` meets its contract: the code of what `print` answers, the room as it leaves it. Assumes nothing.
use Rattle.capi.proofs.PrintedCodes.{text-code}
use Rattle.capi.proofs.ragwashin_text.Goals as goal

pub returns : goal.returns
returns c = text-code c.print.ensures c.written_code.ensures
