-- `extent_at` meets its contract. Invariant: so many expressions are to come, and so many nodes are passed. Assumes nothing.
use native.Mathlib.Omega.{arith}
use borrow.Author.Rules.{rules}
use Rattle.pointing.proofs.SpanLaws.{coming-turn, coming-end}
use Rattle.pointing.proofs.extent_at.Goals as goal

pub operands_at-requires : goal.operands_at-requires
operands_at-requires c =
    let b = c.requires in
    (c.loop-pending.invariant b.variables b.expression b.stand).stand.inside

pub overflow_add-pending : goal.overflow_add-pending
overflow_add-pending c =
    let b = c.requires in
    let r = (coming-turn (c.loop-pending.invariant b.variables b.expression b.stand) c.loop-pending-test.true).room in
    let o = c.operands_at.ensures in
    search rules

pub behind-k-requires : goal.behind-k-requires
behind-k-requires c =
    let b = c.requires in
    (coming-turn (c.loop-pending.invariant b.variables b.expression b.stand) c.loop-pending-test.true).fits

pub overflow_add-nodes : goal.overflow_add-nodes
overflow_add-nodes c =
    let b = c.requires in
    let x = c.loop-pending.invariant b.variables b.expression b.stand in
    let f = x.few in
    let i = x.stand.inside in
    search rules

pub loop-pending-smaller : goal.loop-pending-smaller
loop-pending-smaller c =
    let b = c.requires in
    omega (arith, (coming-turn (c.loop-pending.invariant b.variables b.expression b.stand) c.loop-pending-test.true).fits, c.behind-k.ensures)

pub loop-pending-preserved : goal.loop-pending-preserved
loop-pending-preserved c = λ vs e h. (coming-turn (c.loop-pending.invariant vs e h) c.loop-pending-test.true).next c.operands_at.ensures c.behind-k.ensures

pub returns : goal.returns
returns c = λ vs e h. coming-end (c.loop-pending.invariant vs e h) c.loop-pending-test.false
