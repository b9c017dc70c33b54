-- `lines::values_len` meets its contract: the line from its parts, where there is one. Assumes nothing.
use mathlib.Core.Path.{ap}
use native.Mathlib.Omega.{arith}
use lib.ListN.{length}
use Rattle.pieces.proofs.PieceLaws.{symbol-short}
use Rattle.lines.proofs.LineLaws.{values-none, values_length, values-short}
use Rattle.lines.proofs.values_len.Goals as goal

pub returns-then-count-eq0 : goal.returns-then-count-eq0
returns-then-count-eq0 c = ap length (values-none (omega arith))

pub overflow_add-result : goal.overflow_add-result
overflow_add-result c = omega (arith, symbol-short 0)

pub overflow_add-result-2 : goal.overflow_add-result-2
overflow_add-result-2 c = let n = c.args.count in omega (arith, values_length n (omega arith), values-short n)

pub returns : goal.returns
returns c = omega (arith, values_length c.args.count (omega arith))
