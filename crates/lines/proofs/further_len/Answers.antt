-- `lines::further_len` meets its contract: after i turns the symbols of i variables behind the first are counted. Assumes nothing.
use Prim.Native.Nat.{◌+◌}
use mathlib.Core.Path.{sym, ap}
use native.Mathlib.Omega.{arith}
use lib.ListN.{length}
use Rattle.pieces.proofs.PieceLaws.{symbol-short}
use Rattle.lists.proofs.JoinedLaws.{joined-none, length_more}
use Rattle.lines.specs.Lines.{further_symbol}
use Rattle.lines.proofs.LineLaws.{further-length, further-short}
use Rattle.lines.proofs.further_len.Goals as goal

pub loop-i-init : goal.loop-i-init
loop-i-init c = sym (ap length (joined-none further_symbol))

pub overflow_add-size : goal.overflow_add-size
overflow_add-size c = omega (arith, symbol-short (c.loop-i.i + 1))

pub overflow_add-size-in-loop-i : goal.overflow_add-size-in-loop-i
overflow_add-size-in-loop-i c = let i = c.loop-i.i in omega (arith, further-short i, symbol-short (i + 1))

pub loop-i-preserved : goal.loop-i-preserved
loop-i-preserved c = let i = c.loop-i.i in omega (arith, length_more further_symbol i, further-length i)
