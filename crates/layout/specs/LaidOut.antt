-- Serves proofs, and the tests of the header: a sheet that is laid out right, in one record. What the rule itself must meet is no part of it.
use Rattle.std.specs.Prelude.{ℕ, ◌+◌, ◌-◌, ◌*◌, ◌≤◌, ◌<◌, min, ◌≡◌, true, List, [], ◌∷◌, length}
use Rattle.numbers.specs.Bytes.{byte_at, Bytes}
use Rattle.meaning.specs.declared.Sort.TheVariants.{Truth}
use Rattle.kinds.specs.declared.Record.{Record}
use Rattle.kinds.specs.declared.Shape.{Shape}
use Rattle.kinds.specs.Rows.{Known}
use Rattle.layout.specs.Limits.{block_bytes, content_bytes, header_gap, header_gap_bytes, most_variables, name_start, most_name_bytes, name_field, node_bytes, nodes_in_block, most_nodes, blocks_for, sheet_bytes, variable_place}
use Rattle.layout.specs.Checks.{block_right}
use Rattle.layout.specs.Starts.{shape_at, sort_at, fields_of, operands_of, start_at, VariableBelow, Ordered, Typed}
use Rattle.layout.specs.Parts.{edition, node_count, variable_count, name_size, zero_byte, table}

-- the sum of the fields that the shape doesn't use
abbrev pub total : List ℕ → ℕ
total [] = 0
total (x ∷ xs) = x + total xs

abbrev pub unused_of : Shape → Record → ℕ
unused_of h r = total ((fields_of h).unused r)

-- node n's record names a known kind, uses no field that the kind doesn't, has its operands in order and reads one of the v variables
pub record Placed (f : ℕ → Record) (v n : ℕ) : Type 0 where
  pub known : Known (shape_at (f n))
  pub clear : unused_of (shape_at (f n)) (f n) + (f n).spare ≡ 0
  pub ordered : Ordered (start_at f) n (operands_of (shape_at (f n)) (f n))
  pub listed : VariableBelow (shape_at (f n)) (f n) v

-- a table of n nodes over v variables that is in order and of the right sorts, and whose goal is the whole of it and a truth value
pub record Sound (f : ℕ → Record) (v n : ℕ) : Type 0 where
  pub some-node : 0 < n
  pub placed : (j : ℕ) → j < n → Placed f v j
  pub typed : (j : ℕ) → j < n → Typed f j
  pub whole : start_at f (n - 1) ≡ 0
  pub goal : sort_at f (n - 1) ≡ Truth

-- the n bytes from i on are zero
abbrev pub Zeros : List ℕ → ℕ → ℕ → Type 0
Zeros s i n = (j : ℕ) → j < n → byte_at s (i + j) ≡ 0

-- how many bytes node block b uses, the first being 0: those of the node records that fall in it
abbrev pub used_in_node_block : List ℕ → ℕ → ℕ
used_in_node_block s b = node_bytes * min nodes_in_block (node_count s - nodes_in_block * b)

-- the variable record at place i: the name's length, the zero byte, and zeros from the name's end to the record's
pub record VariableLaidOut (s : List ℕ) (i : ℕ) : Type 0 where
  pub short : name_size s i ≤ most_name_bytes
  pub gap : zero_byte s i ≡ 0
  pub rest : Zeros s (i + name_start + name_size s i) (name_field - name_size s i)

pub record LaidOut (s : List ℕ) : Type 0 where
  pub bytes : Bytes s
  pub size : length s ≡ sheet_bytes (node_count s)
  pub checks : (k : ℕ) → k < blocks_for (node_count s) + 1 → block_right s k ≡ true
  pub first-edition : edition s ≡ 1
  pub few : variable_count s ≤ most_variables
  pub most : node_count s ≤ most_nodes
  pub gap : Zeros s header_gap header_gap_bytes
  pub tail : Zeros s (variable_place (variable_count s)) (content_bytes - variable_place (variable_count s))
  pub tails : (b : ℕ) → b < blocks_for (node_count s) → Zeros s (block_bytes * (b + 1) + used_in_node_block s b) (content_bytes - used_in_node_block s b)
  pub variables : (n : ℕ) → n < variable_count s → VariableLaidOut s (variable_place n)
  pub nodes : Sound (table s) (variable_count s) (node_count s)
