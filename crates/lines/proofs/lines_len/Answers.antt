-- `lines::lines_len` meets its contract: a symbol is short, so that the sum is. Assumes nothing.
use native.Mathlib.Omega.{arith}
use Rattle.pieces.proofs.PieceLaws.{symbol-short}
use Rattle.lines.proofs.lines_len.Goals as goal

pub overflow_mul-result : goal.overflow_mul-result
overflow_mul-result c = omega (arith, symbol-short c.args.n.0)

pub overflow_add-result : goal.overflow_add-result
overflow_add-result c = omega (arith, symbol-short c.args.n.0)

pub returns : goal.returns
returns c = (omega arith, omega (arith, symbol-short c.args.n.0))
