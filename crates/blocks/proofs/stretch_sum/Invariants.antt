-- `stretch_sum` meets its contract. The loop's invariant: the sum is what the bytes passed add to those before the stretch. Assumes nothing.
use mathlib.Core.Path.{◌≡◌}
use Prim.Native.Nat.{◌+◌}
use lib.ListN.{take}
use Rattle.layout.specs.Checks.{weighted}
use Rattle.blocks.proofs.stretch_sum.Given as goal

abbrev pub invariant-loop-i : goal.invariant-loop-i
invariant-loop-i l =
    weighted 1 (take l.from l.content) + l.sum ≡ weighted 1 (take l.i l.content)
