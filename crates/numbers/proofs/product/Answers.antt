-- `product` meets its contract: products of narrow numbers fit an i32, and `span` takes the least and the greatest of the four. Assumes nothing.
use mathlib.Core.Path.{◌∙◌}
use Rattle.numbers.proofs.Fit.{fit}
use Rattle.numbers.proofs.product.Goals as goal

pub overflow_mul-a : goal.overflow_mul-a
overflow_mul-a c = search fit

pub overflow_mul-a-2 : goal.overflow_mul-a-2
overflow_mul-a-2 c = search fit

pub overflow_mul-a-3 : goal.overflow_mul-a-3
overflow_mul-a-3 c = search fit

pub overflow_mul-a-4 : goal.overflow_mul-a-4
overflow_mul-a-4 c = search fit

pub returns : goal.returns
returns c = c.span.ensures ∙ search fit
