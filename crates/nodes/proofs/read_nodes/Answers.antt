-- `nodes::read_nodes` meets its contract: the loop's invariant is `Going`. Assumes nothing.
use borrow.Author.Rules.{rules}
use Rattle.std.proofs.iter.Serving.{serving}
use mathlib.Core.Path.{◌≡◌, ◌∙◌}
use native.Mathlib.Omega.{arith}
use Rattle.nodes.proofs.LoopLaws.{begin, falling, misplaced, start-ready, step-ready, good-fits, refused, turn, finish, was_ok, was_err}
use Rattle.std.proofs.lemmas.Result.{err_from_is_err_and}
use Rattle.nodes.proofs.read_nodes.Goals as goal

pub loop-i-init : goal.loop-i-init
loop-i-init c = begin c.requires c.node_count-n.ensures c.variable_count-v.ensures

pub right_place-requires : goal.right_place-requires
right_place-requires c =
    let g = c.loop-i.invariant in
    (omega (arith, g.counted.most, g.nodes-are), falling g)

pub returns-then-not-right_place : goal.returns-then-not-right_place
returns-then-not-right_place c = misplaced c.loop-i.invariant c.loop-i-test.true c.record_at-r.ensures c.right_place.ensures c.if-not-right_place.true

pub node_step-requires : goal.node_step-requires
node_step-requires c =
    step-ready c.loop-i.invariant c.loop-i-test.true c.record_at-r.ensures c.right_place.ensures c.if-not-right_place.false

pub returns-in_err-finding : goal.returns-in_err-finding
returns-in_err-finding c =
    let w = was_err c.node_step.result _ c.map_err.ensures.cases c.map_err.ensures.variant c.in_err-finding.was in
    let p = err_from_is_err_and c.from_residual.result c.from_residual.ensures.1 in
    let e : c.in_err-finding.field-0.0 ≡ record { cause = w.0; place = c.loop-i.i } = (let h = w.2 in search (rules, serving)) in
    rw (p.1, p.2, e) (refused c.loop-i.invariant c.loop-i-test.true c.record_at-r.ensures c.right_place.ensures c.if-not-right_place.false c.node_step.ensures w.1)

pub start-requires : goal.start-requires
start-requires c =
    start-ready c.loop-i.invariant c.loop-i-test.true c.record_at-r.ensures c.right_place.ensures c.if-not-right_place.false

pub packed-requires : goal.packed-requires
packed-requires c =
    good-fits c.loop-i.invariant c.loop-i-test.true c.record_at-r.ensures c.right_place.ensures c.if-not-right_place.false c.node_step.ensures (was_ok c.node_step.result _ c.map_err.ensures.cases c.map_err.ensures.variant c.in_ok-finding.was)

pub loop-i-preserved : goal.loop-i-preserved
loop-i-preserved c =
    turn c.loop-i.invariant c.loop-i-test.true c.record_at-r.ensures c.right_place.ensures c.if-not-right_place.false c.node_step.ensures (was_ok c.node_step.result _ c.map_err.ensures.cases c.map_err.ensures.variant c.in_ok-finding.was) c.start.ensures c.packed.ensures

pub returns : goal.returns
returns c = c.read_goal.ensures ∙ finish c.loop-i.invariant c.loop-i-test.false c.start_of-start.ensures c.finding_at.ensures.0
