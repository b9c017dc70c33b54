-- `printer::read_names` meets its contract: the loop's invariant is that the answer over all variables is the answer over those not yet checked. Assumes nothing.
use mathlib.Core.Path.{sym, ◌∙◌}
use native.Mathlib.Nat.{sub-zero}
use native.Mathlib.Omega.{arith}
use Rattle.lists.proofs.FirstLaws.{left-pass, left-stop, left-done}
use Rattle.refusals.proofs.SaidLaws.{unless-true, unless-false}
use Rattle.printer.proofs.PrintLaws.{plain-is}
use Rattle.printer.proofs.read_names.Goals as goal

pub loop-checked-init : goal.loop-checked-init
loop-checked-init c = rw (sub-zero, c.variable_count-count.ensures.count)

pub name-requires : goal.name-requires
name-requires c = omega (arith, c.variable_count-count.ensures.count)

pub returns-then-not-is_plain_name-clause-said : goal.returns-then-not-is_plain_name-clause-said
returns-then-not-is_plain_name-clause-said c =
    sym (c.loop-checked.invariant ∙ left-stop _ c.loop-checked-test.true (unless-false 19 _ (sym (plain-is _ _ c.variable_count-count.ensures.accepted (omega (arith, c.variable_count-count.ensures.count)) c.name.ensures.name c.is_plain_name.ensures) ∙ c.if-not-is_plain_name.true)))

pub loop-checked-preserved : goal.loop-checked-preserved
loop-checked-preserved c =
    c.loop-checked.invariant ∙ left-pass _ c.loop-checked-test.true (unless-true 19 _ (sym (plain-is _ _ c.variable_count-count.ensures.accepted (omega (arith, c.variable_count-count.ensures.count)) c.name.ensures.name c.is_plain_name.ensures) ∙ c.if-not-is_plain_name.false))

pub returns-clause-said : goal.returns-clause-said
returns-clause-said c = sym (c.loop-checked.invariant ∙ left-done _ c.loop-checked-test.false)
