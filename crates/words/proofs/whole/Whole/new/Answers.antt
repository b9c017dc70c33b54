-- `Whole::new` meets its contract: the count is of the text's line feeds, the last of which is the goal's. Assumes nothing.
use native.Mathlib.Omega.{arith}
use Rattle.texts.proofs.CountLaws.{line-feeds}
use Rattle.words.proofs.whole.Whole.new.Goals as goal

pub overflow_sub-result : goal.overflow_sub-result
overflow_sub-result c = omega (arith, c.occurrences.ensures, line-feeds c.requires.says)

pub invariant_of-result : goal.invariant_of-result
invariant_of-result c = (c.requires, omega (arith, c.occurrences.ensures, line-feeds c.requires.says))
