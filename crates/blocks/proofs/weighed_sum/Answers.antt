-- `weighed_sum` meets its contract. The loop's invariant: the sum is that of the stretches passed. Assumes nothing.
use mathlib.Core.Path.{◌≡◌, refl}
use Prim.Native.Nat.{ℕ, ◌+◌, ◌*◌, ◌/◌}
use native.Mathlib.Omega.{arith}
use lib.ListN.{take}
use Rattle.layout.specs.Limits.{content_bytes}
use Rattle.layout.specs.Checks.{weighted}
use Rattle.blocks.proofs.CheckLaws.{sum_fits}
use Rattle.blocks.proofs.weighed_sum.Goals as goal

abbrev stretch_bytes : ℕ
stretch_bytes = content_bytes / 5

pub loop-stretch-init : goal.loop-stretch-init
unfolding weighted
loop-stretch-init c = refl

pub overflow_add-sum : goal.overflow_add-sum
overflow_add-sum c =
    let next : c.loop-stretch.sum + c.stretch_sum-sum.result ≡ weighted 1 (take (stretch_bytes * c.loop-stretch.stretch + stretch_bytes) c.args.content.now) = rw c.loop-stretch.invariant c.stretch_sum-sum.ensures in
    omega
    (arith, sum_fits _ (stretch_bytes * c.loop-stretch.stretch + stretch_bytes) next (λ j. (c.type_inv.content j).fits) (omega arith))
