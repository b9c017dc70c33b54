-- `difference` meets its contract: differences of narrow numbers fit an i32. Assumes nothing.
use Rattle.numbers.proofs.Fit.{fit}
use Rattle.numbers.proofs.difference.Goals as goal

pub returns : goal.returns
returns c = search fit
