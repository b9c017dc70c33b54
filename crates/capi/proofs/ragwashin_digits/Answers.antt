-- `ragwashin_digits` meets its contract: the code of the digits' span, as far as 48 bits hold its start. Assumes nothing.
use native.Mathlib.Omega.{arith}
use Rattle.capi.proofs.ReplyLaws.{digits-code, digits-size, digits-beyond}
use Rattle.capi.proofs.ragwashin_digits.Goals as goal

pub overflow_add-result : goal.overflow_add-result
overflow_add-result c = omega (arith, digits-size c.digits_span-span.ensures)

pub returns-then-start-lt-NUMBER : goal.returns-then-start-lt-NUMBER
returns-then-start-lt-NUMBER c = digits-code c.digits_span-span.ensures c.if-start-lt-NUMBER.true

pub returns : goal.returns
returns c = digits-beyond c.digits_span-span.ensures (omega (arith, c.if-start-lt-NUMBER.false))
