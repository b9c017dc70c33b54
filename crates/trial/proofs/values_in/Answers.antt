-- `trial::values_in` meets its contract. Invariant: the answer over all variables is the answer over those from i on. Assumes nothing.
use mathlib.Core.Path.{sym, ◌∙◌}
use native.Mathlib.Nat.{sub-zero}
use native.Mathlib.Omega.{arith}
use borrow.Author.Rules.{rules}
use mir.Facts.{to_z-of_z}
use Rattle.lists.proofs.FirstLaws.{left-pass, left-stop, left-done}
use Rattle.refusals.proofs.SaidLaws.{unless-true, unless-false}
use Rattle.trial.specs.Trying.{values_refusal}
use Rattle.trial.proofs.TryLaws.{value-test}
use mir.Syntax.{w32}
use Rattle.trial.proofs.values_in.Goals as goal

pub loop-i-init : goal.loop-i-init
unfolding values_refusal
loop-i-init c = rw (sub-zero, c.variable_count-v.ensures)

pub returns-then-not-inside : goal.returns-then-not-inside
returns-then-not-inside c =
    let a = c.args in
    let t = value-test a.sheet.now a.case.now (omega (arith, c.variable_count-v.ensures, c.loop-i-test.true)) c.domain.ensures (to_z-of_z {w = w32} (search rules)) c.inside.ensures in
    sym (c.loop-i.invariant ∙ left-stop _ c.loop-i-test.true (unless-false 12 _ (sym t ∙ c.if-not-inside.true)))

pub loop-i-preserved : goal.loop-i-preserved
loop-i-preserved c =
    let a = c.args in
    let t = value-test a.sheet.now a.case.now (omega (arith, c.variable_count-v.ensures, c.loop-i-test.true)) c.domain.ensures (to_z-of_z {w = w32} (search rules)) c.inside.ensures in
    c.loop-i.invariant ∙ left-pass _ c.loop-i-test.true (unless-true 12 _ (sym t ∙ c.if-not-inside.false))

pub returns : goal.returns
returns c = sym (c.loop-i.invariant ∙ left-done _ c.loop-i-test.false)
