-- `operands_of` meets its contract, by what the word is. Assumes nothing.
use mathlib.Core.Path.{sym, ap, ◌∙◌}
use Rattle.kinds.specs.declared.Kind.{Kind}
use Rattle.kinds.specs.Kinds.{row}
use Rattle.texts.specs.Texts.{operands_behind}
use Rattle.scan.proofs.Leading.{operands-kind, operands-number, operands-declared, operands-none}
use Rattle.scan.proofs.operands_of.Goals.{then-is_number-via-then-is_number, then-is_number-via-else-is_number+then-variable_named-declared}
use Rattle.scan.proofs.operands_of.Goals as goal

pub returns-then-is_some : goal.returns-then-is_some
returns-then-is_some c = operands-kind _ _ _ _ (c.operands_behind-behind.ensures ∙ ap (λ (k : Kind). operands_behind (row k).shape) c.kind_named.ensures) (sym c.is_some.ensures ∙ c.if-is_some.true)

pub returns-then-is_number : goal.returns-then-is_number
returns-then-is_number c =
    elim c.then-is_number.branch [
      | then-is_number-via-then-is_number w ↦ operands-number _ _ _ _ (c.operands_behind-behind.ensures ∙ ap (λ (k : Kind). operands_behind (row k).shape) c.kind_named.ensures) (sym c.is_some.ensures ∙ c.if-is_some.false) c.is_number.ensures w.if-is_number.true
      | then-is_number-via-else-is_number+then-variable_named-declared w ↦ operands-declared _ _ _ _ (c.operands_behind-behind.ensures ∙ ap (λ (k : Kind). operands_behind (row k).shape) c.kind_named.ensures) (sym c.is_some.ensures ∙ c.if-is_some.false) c.is_number.ensures w.variable_named.ensures w.if-is_number.false w.if-variable_named-declared.true
    ]

pub returns : goal.returns
returns c = operands-none _ _ _ _ (c.operands_behind-behind.ensures ∙ ap (λ (k : Kind). operands_behind (row k).shape) c.kind_named.ensures) (sym c.is_some.ensures ∙ c.if-is_some.false) c.is_number.ensures c.variable_named.ensures c.if-is_number.false c.if-variable_named-declared.false
