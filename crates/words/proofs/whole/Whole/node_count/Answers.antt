-- `Whole::node_count` meets its contract: a space before each node's word, and three in each variable's line. Assumes nothing.
use borrow.Author.Rules.{rules}
use native.Mathlib.Omega.{arith}
use Rattle.texts.proofs.CountLaws.{line-feeds, spaces}
use Rattle.words.proofs.whole.Whole.node_count.Goals as goal

pub overflow_mul-result : goal.overflow_mul-result
overflow_mul-result c =
    let o = c.occurrences in
    let t = c.self.invariant.0 in
    let v = c.self.invariant.1 in
    let l = line-feeds t.says in
    let n = spaces t.says in
    search rules

pub overflow_sub-result : goal.overflow_sub-result
overflow_sub-result c =
    let t = c.self.invariant.0 in
    omega (arith, c.occurrences.ensures, c.self.invariant.1, line-feeds t.says, spaces t.says)

pub returns-clause-count : goal.returns-clause-count
returns-clause-count c = λ d h.
    let s = rw (← c.self.view_is) at h in
    omega (arith, c.occurrences.ensures, c.self.invariant.1, line-feeds s, spaces s)
