-- `checks` meets its contract. The loop's invariant: the first refusal is the first of the blocks that are left. Assumes nothing.
use mathlib.Core.Path.{◌∙◌, sym}
use native.Mathlib.Nat.{sub-zero}
use Rattle.lists.proofs.FirstLaws.{left-pass, left-stop, left-done}
use Rattle.refusals.proofs.SaidLaws.{unless-true, unless-false}
use Rattle.blocks.proofs.checks.Goals as goal

pub loop-k-init : goal.loop-k-init
loop-k-init c = rw sub-zero

pub returns-then-not-block_right : goal.returns-then-not-block_right
returns-then-not-block_right c =
    sym (c.loop-k.invariant ∙ left-stop _ c.loop-k-test.true (unless-false _ _ (sym c.block_right.ensures ∙ c.if-not-block_right.true)))

pub loop-k-preserved : goal.loop-k-preserved
loop-k-preserved c =
    c.loop-k.invariant ∙ left-pass _ c.loop-k-test.true (unless-true _ _ (sym c.block_right.ensures ∙ c.if-not-block_right.false))

pub returns : goal.returns
returns c = sym (c.loop-k.invariant ∙ left-done _ c.loop-k-test.false)
