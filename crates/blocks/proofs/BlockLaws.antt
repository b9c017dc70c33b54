-- When a block is given, and what the tests of it decide. Assumes nothing.
use mathlib.Core.Path.{◌≡◌}
use mathlib.Core.Bool.{true, false, ◌&&◌}
use mathlib.Core.List.{List}
use Prim.Native.Nat.{ℕ, ◌+◌, ◌*◌, ◌/◌, ◌≤◌}
use native.Mathlib.Omega.{arith}
use lib.Dec.{leb}
use lib.ListN.{length}
use Rattle.lists.proofs.Decided.{Decides, denied, decides_and, decides-le, decides_eq}
use Rattle.layout.specs.Limits.{block_bytes}
use Rattle.layout.specs.Checks.{check_of, content, stored_check, block_right, Inside}
use Rattle.blocks.specs.Block.{BlockGiven}

module _ (s : List ℕ) (k : ℕ) where
  pub check-decided : Decides (block_right s k) (check_of k (content s k) ≡ stored_check s k)
  unfolding block_right
  check-decided = decides_eq (check_of k (content s k)) (stored_check s k)

  pub given-decided : Decides (leb (block_bytes * k + block_bytes) (length s) && block_right s k) (BlockGiven s k)
  given-decided = decides_and (decides-le (block_bytes * k + block_bytes) (length s)) check-decided

  pub given_out : length s / block_bytes ≤ k → BlockGiven s k → ⊥
  given_out h g = omega (arith, g.0)

  pub given-wrong : block_right s k ≡ false → BlockGiven s k → ⊥
  given-wrong e g = (denied check-decided).0 e g.1

  pub given-right : Inside s k → block_right s k ≡ true → BlockGiven s k
  given-right h e = (h, check-decided.0 e)
