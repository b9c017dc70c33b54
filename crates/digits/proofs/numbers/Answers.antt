-- `digits::numbers` meets its contract. Assumes nothing.
use mathlib.Core.Path.{◌≡◌, ◌∙◌}
use native.Mathlib.Omega.{arith}
use lib.ListN.{length, length-take}
use borrow.Author.Rules.{rules}
use mir.Facts.{to_z-of_z}
use mir.Syntax.{w32}
use Rattle.digits.proofs.NumberLaws.{filling-based, filling-turn, filling-end}
use Rattle.digits.proofs.numbers.Goals as goal

pub value_at-requires : goal.value_at-requires
value_at-requires c = filling-based c.loop-value.invariant c.requires (omega (arith, length-take c.args.count c.args.row.now)) c.behind-p.ensures

pub loop-value-preserved : goal.loop-value-preserved
loop-value-preserved c = filling-turn c.loop-value.invariant (omega (arith, length-take c.args.count c.args.row.now)) (omega arith) c.behind-p.ensures (to_z-of_z {w = w32} (search rules) ∙ c.value_at.ensures)

pub returns : goal.returns
returns c =
    let h = c.requires.few in
    let l : length c.loop-value.value-items ≡ c.args.count = omega (arith, length-take c.args.count c.args.row.now) in
    filling-end c.loop-value.invariant c.requires (omega arith) l c.args.row.now
