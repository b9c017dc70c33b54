-- Follows the code: refusals 3 and 4 as tests, the edition, then the counts, the length and the bytes outside the records. `limit` is the most nodes that a sheet
-- may have.
use Rattle.std.specs.Prelude.{ℕ, zero, suc, ◌+◌, ◌-◌, ◌*◌, ◌≤◌, ◌≡◌, Bool, ◌&&◌, List, eqb, leb, length}
use Rattle.std.proofs.Math.Option.{Option}
use Rattle.lists.specs.Places.{all_below}
use Rattle.lists.specs.First.{◌otherwise◌}
use Rattle.refusals.specs.declared.Refusal.{Refusal}
use Rattle.numbers.specs.Bytes.{byte_at}
use Rattle.layout.specs.Limits.{block_bytes, content_bytes, header_gap, header_gap_bytes, most_variables, blocks_for, sheet_bytes, variable_place}
use Rattle.layout.specs.Parts.{edition, node_count, variable_count}
use Rattle.layout.specs.LaidOut.{used_in_node_block}
use Rattle.refusals.specs.Said.{unless}

-- the n bytes from i on are zero
unfoldable pub zeros : List ℕ → ℕ → ℕ → Bool
zeros s i n = all_below (λ j. eqb (byte_at s (i + j)) 0) n

-- N and V are within their limits, and the length is that of N nodes
unfoldable pub counts_right : ℕ → List ℕ → Bool
counts_right limit s = leb 1 (node_count s) && leb (node_count s) limit && leb (variable_count s) most_variables && eqb (length s) (sheet_bytes (node_count s))

-- where the used bytes of block k end: after the V variable records, or after those of the N node records that fall in the block
abbrev pub used_in : List ℕ → ℕ → ℕ
used_in s zero = variable_place (variable_count s)
used_in s (suc b) = used_in_node_block s b

-- the content of block k is zero from there on
unfoldable pub tail_clear : List ℕ → ℕ → Bool
tail_clear s k = zeros s (block_bytes * k + used_in s k) (content_bytes - used_in s k)

-- the bytes outside the records are zero: those behind the counts, and the tail of every block
unfoldable pub outside_clear : List ℕ → Bool
outside_clear s = zeros s header_gap header_gap_bytes && all_below (tail_clear s) (blocks_for (node_count s) + 1)

unfoldable pub header : ℕ → List ℕ → Option Refusal
header limit s = unless (eqb (edition s) 1) 3 0 otherwise unless (counts_right limit s && outside_clear s) 4 0

-- the counts and the length in propositions, for contracts: then every record lies inside
pub record Counted (limit : ℕ) (s : List ℕ) : Type 0 where
  pub some-node : 1 ≤ node_count s
  pub most : node_count s ≤ limit
  pub few : variable_count s ≤ most_variables
  pub size : length s ≡ sheet_bytes (node_count s)
