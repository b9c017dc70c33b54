-- `at_most` meets its contract. Invariant: the test is that of the digits from the index on, behind n. Assumes nothing.
use borrow.Author.Rules.{rules}
use Rattle.words.proofs.Summing.{bounding-fits, bounding-none, bounding-over, bounding-turn, bounding-end}
use Rattle.words.proofs.at_most.Goals as goal

pub returns-then-not-is_ascii_digit : goal.returns-then-not-is_ascii_digit
returns-then-not-is_ascii_digit c =
    bounding-none c.loop-c.invariant c.loop-c-test.true c.is_ascii_digit.ensures.value c.if-not-is_ascii_digit.true

pub with_digit-n-requires : goal.with_digit-n-requires
with_digit-n-requires c =
    bounding-fits c.loop-c.invariant c.loop-c-test.true c.is_ascii_digit.ensures.value (search rules) c.if-not-is_ascii_digit.false

pub returns-then-most-n : goal.returns-then-most-n
returns-then-most-n c =
    bounding-over c.loop-c.invariant c.loop-c-test.true c.is_ascii_digit.ensures.value c.if-not-is_ascii_digit.false c.with_digit-n.ensures c.if-most-n.true

pub loop-c-preserved : goal.loop-c-preserved
loop-c-preserved c =
    bounding-turn c.loop-c.invariant c.loop-c-test.true c.is_ascii_digit.ensures.value c.if-not-is_ascii_digit.false c.with_digit-n.ensures c.if-most-n.false

pub returns : goal.returns
returns c = bounding-end c.loop-c.invariant c.loop-c-test.false
