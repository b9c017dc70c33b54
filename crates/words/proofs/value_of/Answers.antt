-- `value_of` meets its contract. Invariant: the whole is what the digits from the index on make of n. Assumes nothing.
use borrow.Author.Rules.{rules}
use Rattle.words.proofs.Summing.{summing-begin, summing-fits, summing-turn}
use Rattle.words.proofs.value_of.Goals as goal

pub loop-c-init : goal.loop-c-init
loop-c-init c = summing-begin _ (search rules)

pub with_digit-n-requires : goal.with_digit-n-requires
with_digit-n-requires c = summing-fits c.loop-c.invariant c.loop-c-test.true

pub loop-c-preserved : goal.loop-c-preserved
loop-c-preserved c = summing-turn c.loop-c.invariant c.loop-c-test.true c.with_digit-n.ensures
