-- `read_variables` meets its contract. The loop's invariant: the answer over all variables is the answer over those from i on. Assumes nothing.
use mathlib.Core.Path.{sym, ◌∙◌}
use native.Mathlib.Nat.{sub-zero}
use Rattle.lists.proofs.FirstLaws.{left-pass, left-stop, left-done}
use Rattle.refusals.proofs.SaidLaws.{unless-true, unless-false}
use Rattle.records.proofs.read_variables.Goals as goal

pub loop-i-init : goal.loop-i-init
loop-i-init c = rw (sub-zero, c.variable_count-v.ensures)

pub returns-then-not-variable_kept : goal.returns-then-not-variable_kept
returns-then-not-variable_kept c =
    sym (c.loop-i.invariant ∙ left-stop _ c.loop-i-test.true (unless-false 5 _ (sym c.variable_kept.ensures ∙ c.if-not-variable_kept.true)))

pub loop-i-preserved : goal.loop-i-preserved
loop-i-preserved c =
    c.loop-i.invariant ∙ left-pass _ c.loop-i-test.true (unless-true 5 _ (sym c.variable_kept.ensures ∙ c.if-not-variable_kept.false))

pub returns : goal.returns
returns c = sym (c.loop-i.invariant ∙ left-done _ c.loop-i-test.false)
