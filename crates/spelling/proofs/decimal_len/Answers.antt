-- `spelling::decimal_len` meets its contract: one digit below 10, and so on to five. Assumes nothing.
use native.Mathlib.Omega.{arith}
use Rattle.spelling.proofs.DigitLaws.{decimal-length}
use Rattle.spelling.proofs.decimal_len.Goals as goal

pub returns-in-0-to-9 : goal.returns-in-0-to-9
returns-in-0-to-9 c = decimal-length 0 c.args.n (omega arith) (λ z. omega arith)

pub returns-in-10-to-99 : goal.returns-in-10-to-99
returns-in-10-to-99 c = decimal-length 1 c.args.n (omega arith) (λ z. omega arith)

pub returns-in-100-to-999 : goal.returns-in-100-to-999
returns-in-100-to-999 c = decimal-length 2 c.args.n (omega arith) (λ z. omega arith)

pub returns-in-1000-to-9999 : goal.returns-in-1000-to-9999
returns-in-1000-to-9999 c = decimal-length 3 c.args.n (omega arith) (λ z. omega arith)

pub returns-in_default : goal.returns-in_default
returns-in_default c = decimal-length 4 c.args.n (omega arith) (λ z. omega arith)
