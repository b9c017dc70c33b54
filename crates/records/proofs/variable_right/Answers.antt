-- `variable_right` meets its contract: a test that fails breaks a rule, and the last test decides what is left. Assumes nothing.
use mathlib.Core.Path.{sym, ◌∙◌}
use mathlib.Core.Bool.{true≢false}
use native.Mathlib.Omega.{arith}
use Rattle.numbers.proofs.OrderTests.{le-le_z}
use Rattle.records.proofs.NameLaws.{name-decided}
use Rattle.records.proofs.StepLaws.{variable-wrong, variable-left}
use Rattle.records.proofs.variable_right.Goals as goal

pub returns-then-not-ordered : goal.returns-then-not-ordered
returns-then-not-ordered c =
    sym (variable-wrong _ _ (λ v. true≢false (sym (le-le_z v.order) ∙ sym c.ordered.ensures ∙ c.if-not-ordered.true)))

pub returns-then-size-lt1 : goal.returns-then-size-lt1
returns-then-size-lt1 c = sym (variable-wrong _ _ (λ v. omega (arith, v.long, c.byte_at-size.ensures)))

pub returns-then-size-gt-MOST_NAME_BYTES : goal.returns-then-size-gt-MOST_NAME_BYTES
returns-then-size-gt-MOST_NAME_BYTES c = sym (variable-wrong _ _ (λ v. omega (arith, v.short, c.byte_at-size.ensures)))

pub returns-then-zero_byte-ne0 : goal.returns-then-zero_byte-ne0
returns-then-zero_byte-ne0 c = sym (variable-wrong _ _ (λ v. c.if-zero_byte-ne0.true (c.zero_byte.ensures ∙ v.gap)))

pub returns-then-not-name_right : goal.returns-then-not-name_right
returns-then-not-name_right c =
    let wrong = sym (rw c.name_in.ensures.bytes at c.name_right.ensures) ∙ c.if-not-name_right.true in
    sym (variable-wrong _ _ (λ v. true≢false (sym ((name-decided _).1 v.name) ∙ wrong)))

pub returns : goal.returns
returns c =
    let order = sym c.ordered.ensures ∙ c.if-not-ordered.false in
    let name = sym (rw c.name_in.ensures.bytes at c.name_right.ensures) ∙ c.if-not-name_right.false in
    let size = c.byte_at-size.ensures in
    rw size.0 at c.clear.ensures ∙ sym (variable-left _ _ order (omega (arith, size)) (omega (arith, size)) (sym c.zero_byte.ensures ∙ c.if-zero_byte-ne0.false) name)
