-- Bytes in blocks whose checks are right are the blocks' contents, sealed. Assumes nothing.
use Prim.Native.Nat.{ℕ, zero, suc, ◌+◌, ◌*◌, ◌≤◌, ◌<◌}
use mathlib.Core.Path.{◌≡◌, refl, sym}
use mathlib.Core.Bool.{true}
use mathlib.Core.List.{List}
use native.Mathlib.Nat.{zero-add}
use native.Mathlib.Omega.{arith}
use borrow.Author.Tests.{eqb-true}
use lib.ListN.{length}
use Rattle.lists.specs.Places.{from}
use Rattle.lists.specs.Run.{Run}
use Rattle.lists.proofs.RunLaws.{run-append, run-part, run_is, part-is, shift}
use Rattle.numbers.specs.Bytes.{byte_at, u16_at, pair, Bytes}
use Rattle.numbers.proofs.Bytes16.{stands-of-u16}
use Rattle.layout.specs.Limits.{block_bytes, content_bytes}
use Rattle.layout.specs.Checks.{check_of, content, stored_check, block_right, sealed}

-- two bytes in a run are a pair
pub run-pair : (s : List ℕ) → Bytes s → (i x : ℕ) → u16_at s i ≡ x → Run (byte_at s) i (pair x) (i + 2)
run-pair s b i x e = record { each = stands-of-u16 s b i x e; end = refl }

-- what stands in a block is its content
pub content-is : (s : List ℕ) (k : ℕ) {l : List ℕ} → Run (byte_at s) (block_bytes * k) l (block_bytes * k + content_bytes) → block_bytes * k + content_bytes ≤ length s → content s k ≡ l
content-is s k {l} r h =
    let e : length l ≡ content_bytes = omega (arith, r.end) in
    rw (← e) (part-is s 0 r h)

module _ (s : List ℕ) (bytes : Bytes s) where
  run-sealed : (m k : ℕ) → block_bytes * (k + m) ≤ length s → ((j : ℕ) → j < k + m → block_right s j ≡ true) → Run (byte_at s) (block_bytes * k) (sealed k (from (content s) k m)) (block_bytes * (k + m))
  unfolding sealed block_right
  run-sealed zero k h right = record { each = tt; end = omega arith }
  run-sealed (suc m) k h right =
      let c = run-part s 0 (block_bytes * k) content_bytes (omega arith) in
      let e = eqb-true (check_of k (content s k)) (stored_check s k) (right k (omega arith)) in
      let p = run-append (byte_at s) c (run-pair s bytes (block_bytes * k + content_bytes) (check_of k (content s k)) (sym e)) in
      let w : suc k + m ≡ k + suc m = omega arith in
      rw (← w) (run-append (byte_at s) (shift p refl (omega arith)) (run-sealed m (suc k) (rw w h) (rw w right)))

  -- the whole
  pub sealed-is : (n : ℕ) → length s ≡ block_bytes * n → ((j : ℕ) → j < n → block_right s j ≡ true) → sealed 0 (from (content s) 0 n) ≡ s
  sealed-is n e right = run_is s 0 (rw (zero-add, ← e) at (run-sealed n 0 (rw zero-add (omega (arith, e))) (rw zero-add right)))
