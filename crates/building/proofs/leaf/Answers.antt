-- `building::leaf` meets its contract: by the test of a number. Assumes nothing.
use mathlib.Core.Path.{sym, ◌∙◌}
use native.Mathlib.Omega.{arith}
use Rattle.building.proofs.LeafLaws.{index-most, leaf-number, leaf-name}
use Rattle.building.proofs.leaf.Goals as goal

pub operator-requires : goal.operator-requires
operator-requires c = let a = c.args in (omega (arith, index-most a.count a.text.now a.word.now, c.variable_named.ensures), omega arith, omega arith)

pub returns-then-is_number : goal.returns-then-is_number
returns-then-is_number c = leaf-number _ _ (sym c.is_number.ensures ∙ c.if-is_number.true) c.constant.ensures

pub returns-else-is_number : goal.returns-else-is_number
returns-else-is_number c = leaf-name _ _ (sym c.is_number.ensures ∙ c.if-is_number.false) c.variable_named.ensures c.operator.ensures
