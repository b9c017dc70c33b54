-- `sum` meets its contract: sums of narrow numbers fit an i32. Assumes nothing.
use Rattle.numbers.proofs.Fit.{fit}
use Rattle.numbers.proofs.sum.Goals as goal

pub returns : goal.returns
returns c = search fit
