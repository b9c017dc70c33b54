-- The rules that have a sheet: those within the sheet's limits whose numbers and names have room in their fields.
use Rattle.std.specs.Prelude.{ℕ, ◌≤◌, ◌<◌, ℤ, length, get_or}
use Rattle.numbers.specs.Bytes.{Bytes}
use Rattle.numbers.specs.Ranges.{Narrow, NarrowEnds}
use Rattle.meaning.specs.declared.Sort.{Sort}
use Rattle.meaning.specs.Tree.{Tree, const, var}
use Rattle.meaning.specs.Rule.{Variable, Rule, no_variable}
use Rattle.kinds.specs.Rows.{PartOf}
use Rattle.layout.specs.Limits.{most_name_bytes, most_variables, most_nodes}
use Rattle.layout.specs.Nodes.{nodes_of}

-- both ends of the domain have 16 bits, and the name is at most 16 bytes
pub record FineVariable (v : Variable) : Type 0 where
  pub ends : NarrowEnds v.domain
  pub short : length v.name ≤ most_name_bytes
  pub bytes : Bytes v.name

-- every constant in the tree has 16 bits, and every variable's number is below v
pub record Fine (v : ℕ) {s : Sort} (t : Tree s) : Type 0 where
  pub constants : (z : ℤ) → PartOf (const z) t → Narrow z
  pub variables : (i : ℕ) → PartOf (var i) t → i < v

-- what a rule must meet for its sheet to be laid out right
pub record WellFormed (r : Rule) : Type 0 where
  pub few : length r.variables ≤ most_variables
  pub most : length (nodes_of 0 r.goal) ≤ most_nodes
  pub variables : (j : ℕ) → j < length r.variables → FineVariable (get_or r.variables j no_variable)
  pub goal : Fine (length r.variables) r.goal
