-- `word_pointed` meets its contract. Assumes nothing.
use native.Mathlib.Omega.{arith}
use Rattle.pointing.proofs.PlaceLaws.{no_word}
use Rattle.pointing.proofs.LineLaws.{goal-reaches, goal-found}
use Rattle.pointing.proofs.word_pointed.Goals as goal

pub word_of-requires : goal.word_of-requires
word_of-requires c =
    let t = c.node_count.ensures.text in
    goal-reaches (rw (← c.bytes.ensures.same) at t.says) (c.goal_start.ensures t.draft t.says) (omega (arith, c.if-n-node_count.true, c.node_count.ensures.count t.draft t.says))

pub returns-then-n-node_count : goal.returns-then-n-node_count
returns-then-n-node_count c = λ d h.
    goal-found (rw (← c.bytes.ensures.same) at h) (c.goal_start.ensures d h) c.word_of.ensures (omega (arith, c.if-n-node_count.true, c.node_count.ensures.count d h))

pub returns-else-n-node_count : goal.returns-else-n-node_count
returns-else-n-node_count c = λ d h. no_word d.variables d.goal _ _ (c.node_count.ensures.count d h) c.if-n-node_count.false
