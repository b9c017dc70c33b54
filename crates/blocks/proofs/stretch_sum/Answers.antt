-- `stretch_sum` meets its contract. The loop's invariant: the sum is what the bytes passed add to those before the stretch. Assumes nothing.
use borrow.Author.Rules.{rules}
use mathlib.Core.Path.{◌≡◌}
use Prim.Native.Nat.{◌+◌}
use native.Mathlib.Nat.{add-zero}
use native.Mathlib.Omega.{arith}
use lib.ListN.{take}
use Rattle.layout.specs.Checks.{weighted}
use Rattle.blocks.proofs.CheckLaws.{sum-next, sum_fits}
use Rattle.blocks.proofs.stretch_sum.Goals as goal

pub loop-i-init : goal.loop-i-init
loop-i-init c = add-zero _

pub overflow_add-sum : goal.overflow_add-sum
overflow_add-sum c =
    let next : weighted 1 (take c.args.from c.args.content.now) + (c.loop-i.sum + c.weighed-sum.result) ≡ weighted 1 (take (c.loop-i.i + 1) c.args.content.now) = sum-next _ _ _ _ c.loop-i.invariant c.weighed-sum.ensures (search rules) in
    omega
    (arith, sum_fits _ (c.loop-i.i + 1) (next) (λ j. (c.type_inv.content j).fits) (search rules))

pub loop-i-preserved : goal.loop-i-preserved
loop-i-preserved c = sum-next _ _ _ _ c.loop-i.invariant c.weighed-sum.ensures (search rules)

pub returns : goal.returns
returns c =
    let last : c.loop-i.i ≡ c.args.end = omega (arith, c.loop-i.auto.i-end) in
    rw last at c.loop-i.invariant
