-- `lines::further_len` meets its contract: after i turns the symbols of i variables behind the first are counted. Assumes nothing.
use mathlib.Core.Path.{◌≡◌}
use lib.ListN.{length}
use Rattle.lists.specs.Joined.{joined_below}
use Rattle.lines.specs.Lines.{further_symbol}
use Rattle.lines.proofs.further_len.Given as goal

abbrev pub invariant-loop-i : goal.invariant-loop-i
invariant-loop-i l = l.size ≡ length (joined_below further_symbol l.i)
