-- `Whole::variable_count` meets its contract: a line feed for each variable, and one for the goal. Assumes nothing.
use native.Mathlib.Omega.{arith}
use Rattle.texts.proofs.CountLaws.{line-feeds}
use Rattle.words.proofs.whole.Whole.variable_count.Goals as goal

pub returns-clause-count : goal.returns-clause-count
returns-clause-count c = λ d h. omega (arith, c.self.invariant.1, line-feeds (rw (← c.self.view_is) at h))
