-- `apply` meets its contract: a product of narrow numbers fits an i32. Assumes nothing.
use Rattle.numbers.proofs.Fit.{fit}
use Rattle.evaluator.proofs.apply.Goals as goal

pub overflow_mul-result : goal.overflow_mul-result
overflow_mul-result c = search fit

pub returns-in-Product : goal.returns-in-Product
returns-in-Product c = rw c.in-Product.is (search fit)
