-- `expressions::words_len` meets its contract: after i turns the words of the first i nodes are counted. Assumes nothing.
use mathlib.Core.Path.{◌≡◌}
use Rattle.expressions.specs.Phrases.{words_bytes}
use Rattle.expressions.proofs.words_len.Given as goal

abbrev pub invariant-loop-i : goal.invariant-loop-i
invariant-loop-i l = l.size ≡ words_bytes l.sheet l.i
