-- Which bytes of a sheet of v variables and n nodes must be zero, records in use left out: a line for each place where document 01 says so.
use Rattle.std.specs.Prelude.{ℕ, ◌+◌, ◌*◌, ◌≤◌, ◌<◌}
use Rattle.layout.specs.Limits.{block_bytes, content_bytes, header_gap, header_bytes, variable_bytes, most_variables, node_bytes, nodes_in_block, blocks_for, variable_place, node_place}

pub data MustBeZero (v n : ℕ) : ℕ → Type 0 where
  -- block 0: bytes 5..7, the variable records from V on, bytes 392..509
  header-bytes : (j : ℕ) → header_gap ≤ j → j < header_bytes → MustBeZero v n j
  variable-record : (i b : ℕ) → v ≤ i → i < most_variables → b < variable_bytes → MustBeZero v n (variable_place i + b)
  past-variables : (j : ℕ) → variable_place most_variables ≤ j → j < content_bytes → MustBeZero v n j
  -- node blocks: the record slots from N on, bytes 496..509
  node-record : (m b : ℕ) → n ≤ m → m < nodes_in_block * blocks_for n → b < node_bytes → MustBeZero v n (node_place m + b)
  past-nodes : (k b : ℕ) → 1 ≤ k → k ≤ blocks_for n → node_bytes * nodes_in_block ≤ b → b < content_bytes → MustBeZero v n (block_bytes * k + b)
