-- Follows the code: refusals 1 and 2 as tests, the length, then the lowest block whose check is wrong. `limit` is the most nodes that a sheet may have.
use Rattle.std.specs.Prelude.{ℕ, ◌/◌, ◌%◌, Bool, not, ◌&&◌, List, eqb, leb, length}
use Rattle.std.proofs.Math.Option.{Option}
use Rattle.lists.specs.First.{◌otherwise◌, first}
use Rattle.refusals.specs.declared.Refusal.{Refusal}
use Rattle.layout.specs.Limits.{block_bytes, sheet_bytes}
use Rattle.layout.specs.Checks.{block_right}
use Rattle.refusals.specs.Said.{unless}

-- some bytes, in whole blocks, and no more than the longest sheet has
unfoldable pub length_right : ℕ → ℕ → Bool
length_right limit n = not (eqb n 0) && eqb (n % block_bytes) 0 && leb n (sheet_bytes limit)

-- refusal 2 at block k
abbrev pub block_refusal : List ℕ → ℕ → Option Refusal
block_refusal s k = unless (block_right s k) 2 k

-- refusal 2 at the lowest block, of all whole blocks
abbrev pub checks_refusal : List ℕ → Option Refusal
checks_refusal s = first (block_refusal s) 0 (length s / block_bytes)

unfoldable pub early : ℕ → List ℕ → Option Refusal
early limit s = unless (length_right limit (length s)) 1 0 otherwise checks_refusal s
