-- The parts of a sheet, read from its bytes (document 01, "The sheet in 512-byte blocks").
use Rattle.std.specs.Prelude.{ℕ, ◌+◌, ◌-◌, ◌≤◌, ◌<◌, List, take, drop}
use Rattle.lists.specs.Places.{from}
use Rattle.numbers.specs.Bytes.{byte_at, u16_at, i16_at}
use Rattle.numbers.specs.Ranges.{◌⋯◌}
use Rattle.meaning.specs.Rule.{Variable, Rule}
use Rattle.kinds.specs.declared.Record.{Record}
use Rattle.kinds.specs.Kinds.{kind_of}
use Rattle.layout.specs.Limits.{block_bytes, content_bytes, edition_offset, node_count_offset, variable_count_offset, max_offset, name_size_offset, zero_offset, name_start, most_name_bytes, spare_offset, a_offset, b_offset, c_offset, value_offset, spare_start, variable_place, node_place}
use Rattle.layout.specs.Goal.{goal_of}

-- block 0: edition, node count N and variable count V
abbrev pub edition : List ℕ → ℕ
edition s = u16_at s edition_offset

abbrev pub node_count : List ℕ → ℕ
node_count s = u16_at s node_count_offset

-- the last node is the goal
abbrev pub goal_at : List ℕ → ℕ
goal_at s = node_count s - 1

abbrev pub variable_count : List ℕ → ℕ
variable_count s = byte_at s variable_count_offset

-- the variable whose record stands at place i
abbrev pub name_size : List ℕ → ℕ → ℕ
name_size s i = byte_at s (i + name_size_offset)

abbrev pub zero_byte : List ℕ → ℕ → ℕ
zero_byte s i = byte_at s (i + zero_offset)

abbrev pub name_in : List ℕ → ℕ → List ℕ
name_in s i = take (name_size s i) (drop (i + name_start) s)

abbrev pub variable_in : List ℕ → ℕ → Variable
variable_in s i = record { name = name_in s i; domain = i16_at s i ⋯ i16_at s (i + max_offset) }

-- variable i
abbrev pub variable_at : List ℕ → ℕ → Variable
variable_at s i = variable_in s (variable_place i)

-- the node whose record stands at place i
abbrev pub record_in : List ℕ → ℕ → Record
record_in s i = record {
  kind = kind_of (byte_at s i);
  a = u16_at s (i + a_offset);
  b = u16_at s (i + b_offset);
  c = u16_at s (i + c_offset);
  value = u16_at s (i + value_offset);
  spare = byte_at s (i + spare_offset) + byte_at s (i + spare_start) + byte_at s (i + (spare_start + 1)) + byte_at s (i + (spare_start + 2)) + byte_at s (i + (spare_start + 3)) + byte_at s (i + (spare_start + 4)) + byte_at s (i + (spare_start + 5));
}

-- node n
abbrev pub table : List ℕ → ℕ → Record
table s n = record_in s (node_place n)

-- the rule that the bytes show
abbrev pub rule_in : List ℕ → Rule
rule_in s = record { variables = from (variable_at s) 0 (variable_count s); goal = goal_of (table s) (node_count s) }

-- what in a sheet of n variables hangs on their names: each name's length, the 16 bytes of its field, and block 0's check
pub data OnNames (n : ℕ) : ℕ → Type 0 where
  name-length : (i : ℕ) → i < n → OnNames n (variable_place i + name_size_offset)
  name-bytes : (i b : ℕ) → i < n → b < most_name_bytes → OnNames n (variable_place i + name_start + b)
  check-bytes : (j : ℕ) → content_bytes ≤ j → j < block_bytes → OnNames n j

abbrev pub Nameless : ℕ → ℕ → Type 0
Nameless n j = OnNames n j → ⊥
