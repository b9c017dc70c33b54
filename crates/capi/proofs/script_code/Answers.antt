-- `script_code` meets its contract: the code of what `write_script` answers, the room as it leaves it. Assumes nothing.
use Rattle.capi.proofs.WrittenCodes.{script-code}
use Rattle.capi.proofs.script_code.Goals as goal

pub returns : goal.returns
returns c = script-code _ _ c.write_script.ensures c.written_code.ensures
