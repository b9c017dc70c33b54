-- `weighed_sum` meets its contract. The loop's invariant: the sum is that of the stretches passed. Assumes nothing.
use mathlib.Core.Path.{◌≡◌}
use Prim.Native.Nat.{ℕ, ◌*◌, ◌/◌}
use lib.ListN.{take}
use Rattle.layout.specs.Limits.{content_bytes}
use Rattle.layout.specs.Checks.{weighted}
use Rattle.blocks.proofs.weighed_sum.Given as goal

abbrev stretch_bytes : ℕ
stretch_bytes = content_bytes / 5

abbrev pub invariant-loop-stretch : goal.invariant-loop-stretch
invariant-loop-stretch l = l.sum ≡ weighted 1 (take (stretch_bytes * l.stretch) l.content)
