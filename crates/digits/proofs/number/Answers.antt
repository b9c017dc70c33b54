-- `digits::number` meets its contract. Assumes nothing.
use native.Mathlib.Omega.{arith}
use Rattle.digits.proofs.NumberLaws.{summing-fits}
use Rattle.digits.proofs.number.Goals as goal

pub overflow_mul-n : goal.overflow_mul-n
overflow_mul-n c = record { fits = omega (arith, summing-fits c.loop-digit.invariant c.requires c.loop-digit-test.true) }

pub overflow_add-n : goal.overflow_add-n
overflow_add-n c = record { fits = omega (arith, c.digit.ensures, summing-fits c.loop-digit.invariant c.requires c.loop-digit-test.true) }
