-- `printer::goal_line` meets its contract: the last node's text behind `goal`. Assumes nothing.
use mathlib.Core.Path.{ap}
use native.Mathlib.Omega.{arith}
use lib.ListN.{length}
use Rattle.room.proofs.RoomLaws.{wrote_as, chain3}
use Rattle.expressions.specs.Phrases.{phrase_at}
use Rattle.printer.proofs.TextLaws.{goal-length, goal-from}
use Rattle.printer.proofs.goal_line.Goals as goal

pub put-p-requires : goal.put-p-requires
put-p-requires c = omega (arith, goal-length _ c.goal-goal.ensures.accepted)

pub operand-q-requires : goal.operand-q-requires
operand-q-requires c = (c.goal-goal.ensures.below, omega (arith, goal-length _ c.goal-goal.ensures.accepted, ap (λ n. length (phrase_at c.args.sheet.now n)) c.goal-goal.ensures.node))

pub put-requires : goal.put-requires
put-requires c =
    omega (arith, goal-length _ c.goal-goal.ensures.accepted, ap (λ n. length (phrase_at c.args.sheet.now n)) c.goal-goal.ensures.node)

pub returns : goal.returns
returns c =
    wrote_as (chain3 (omega (arith, goal-length _ c.goal-goal.ensures.accepted, ap (λ n. length (phrase_at c.args.sheet.now n)) c.goal-goal.ensures.node)) c.put-p.ensures c.operand-q.ensures c.put.ensures) (goal-from _ c.goal-goal.ensures.accepted c.goal-goal.ensures.node)
