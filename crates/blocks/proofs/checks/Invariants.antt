-- `checks` meets its contract. The loop's invariant: the first refusal is the first of the blocks that are left. Assumes nothing.
use mathlib.Core.Path.{◌≡◌}
use Prim.Native.Nat.{◌-◌, ◌/◌}
use lib.ListN.{length}
use Rattle.lists.specs.First.{first}
use Rattle.layout.specs.Limits.{block_bytes}
use Rattle.blocks.specs.Early.{block_refusal}
use Rattle.blocks.proofs.checks.Given as goal

abbrev pub invariant-loop-k : goal.invariant-loop-k
invariant-loop-k l =
    first (block_refusal l.sheet) 0 (length l.sheet / block_bytes) ≡ first (block_refusal l.sheet) l.k (length l.sheet / block_bytes - l.k)
