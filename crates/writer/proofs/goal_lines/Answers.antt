-- `writer::goal_lines` meets its contract: the lines from their three pieces. Assumes nothing.
use mathlib.Core.Path.{refl}
use native.Mathlib.Omega.{arith}
use Rattle.room.proofs.RoomLaws.{wrote_as, chain3}
use Rattle.writer.proofs.ScriptLaws.{goal-length, goal-from}
use Rattle.writer.proofs.goal_lines.Goals as goal

pub put-p-requires : goal.put-p-requires
put-p-requires c = omega (arith, goal-length _ c.goal-goal.ensures.accepted refl)

pub operand-q-requires : goal.operand-q-requires
operand-q-requires c = (c.goal-goal.ensures.below, omega (arith, goal-length _ c.goal-goal.ensures.accepted c.goal-goal.ensures.node))

pub put-requires : goal.put-requires
put-requires c = omega (arith, goal-length _ c.goal-goal.ensures.accepted c.goal-goal.ensures.node)

pub returns : goal.returns
returns c =
    wrote_as (chain3 (omega (arith, goal-length _ c.goal-goal.ensures.accepted c.goal-goal.ensures.node)) c.put-p.ensures c.operand-q.ensures c.put.ensures) (goal-from _ c.goal-goal.ensures.node)
