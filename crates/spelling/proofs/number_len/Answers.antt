-- `spelling::number_len` meets its contract: the digits, and a sign below zero. Assumes nothing.
use native.Mathlib.Omega.{arith}
use Rattle.spelling.proofs.DigitLaws.{decimal-short}
use Rattle.spelling.proofs.NumberLaws.{minus-length, plain-length}
use Rattle.spelling.proofs.number_len.Goals as goal

pub overflow_add-result : goal.overflow_add-result
overflow_add-result c = omega (arith, decimal-short 4 c.unsigned_abs.result (omega arith))

pub returns-then-z-lt0 : goal.returns-then-z-lt0
returns-then-z-lt0 c = omega (arith, minus-length c.ranges.z c.unsigned_abs.ensures.value c.if-z-lt0.true)

pub returns-else-z-lt0 : goal.returns-else-z-lt0
returns-else-z-lt0 c = omega (arith, plain-length c.ranges.z c.unsigned_abs.ensures.value c.if-z-lt0.false)
