-- `sheets::put_checks` meets its contract: after k turns the checks of the blocks below k are put. Assumes nothing.
use Rattle.sheets.proofs.PutLaws.{checks-none, checks-turn}
use Rattle.sheets.proofs.put_checks.Goals as goal

pub loop-k-init : goal.loop-k-init
loop-k-init c = checks-none _

pub loop-k-preserved : goal.loop-k-preserved
loop-k-preserved c = checks-turn _ _ c.loop-k.invariant c.put_check.ensures
