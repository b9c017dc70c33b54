-- `outside_clear` meets its contract. The loop's invariant: the tails of the blocks passed are zero. Assumes nothing.
use mathlib.Core.Path.{sym, ◌∙◌}
use native.Mathlib.Omega.{arith}
use Rattle.lists.proofs.TestLaws.{all_of}
use Rattle.lists.proofs.BelowLaws.{all_pass}
use Rattle.header.proofs.HeaderLaws.{outside-gap, outside-tail, outside-all}
use Rattle.header.proofs.outside_clear.Goals as goal

pub returns-then-not-clear : goal.returns-then-not-clear
returns-then-not-clear c = sym (outside-gap _ (sym c.clear.ensures ∙ c.if-not-clear.true))

pub loop-k-init : goal.loop-k-init
loop-k-init c = all_of _ _ (λ j h. absurd (omega arith))

pub returns-then-not-tail_clear : goal.returns-then-not-tail_clear
returns-then-not-tail_clear c = sym (outside-tail _ (omega arith) (sym c.tail_clear.ensures ∙ c.if-not-tail_clear.true))

pub loop-k-preserved : goal.loop-k-preserved
loop-k-preserved c =
    all_pass _ _ c.loop-k.invariant (sym c.tail_clear.ensures ∙ c.if-not-tail_clear.false)

pub returns : goal.returns
returns c =
    sym (outside-all _ (sym c.clear.ensures ∙ c.if-not-clear.false) c.loop-k.invariant (omega arith))
