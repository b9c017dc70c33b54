-- Document 01's table "When a sheet is turned away", rows 1 to 8, each a proposition, and their order, a list. Nothing here is a test of the reading's own.
-- `limit` is the most nodes that a sheet may have.
use Rattle.std.specs.Prelude.{ℕ, ◌+◌, ◌/◌, ◌%◌, ◌≤◌, ◌<◌, ◌≡◌, List, length}
use Rattle.numbers.specs.declared.Range.{Range}
use Rattle.refusals.specs.Rows.{Row, row, ◌then◌, each_of, NoneApplies}
use Rattle.numbers.specs.Bytes.{byte_at}
use Rattle.numbers.specs.Ranges.{NarrowEnds}
use Rattle.meaning.specs.declared.Sort.TheVariants.{Truth}
use Rattle.kinds.specs.Rows.{Known}
use Rattle.layout.specs.Limits.{block_bytes, most_variables, node_bytes, spare_offset, spare_start, sheet_bytes, node_place}
use Rattle.layout.specs.Checks.{check_of, content, stored_check}
use Rattle.layout.specs.Starts.{shape_at, sort_at, operands_of, UnusedZero, VariableBelow, start_at, Ordered, Typed}
use Rattle.layout.specs.Parts.{edition, node_count, goal_at, variable_count, table}
use Rattle.header.specs.MustBeZero.{MustBeZero}
use Rattle.records.specs.Names.{VariableKept}
use Rattle.findings.specs.declared.Finding.TheVariants.{Integer}
use Rattle.findings.specs.Findings.{finding_at}

-- 1: no byte at all, a block left incomplete, or more blocks than a sheet may have
pub data Row1 (limit : ℕ) (s : List ℕ) : Type 0 where
  empty : length s ≡ 0 → Row1 limit s
  ragged : (length s % block_bytes ≡ 0 → ⊥) → Row1 limit s
  long : sheet_bytes limit < length s → Row1 limit s

-- 2: the check of block k is wrong
abbrev pub Row2 : List ℕ → ℕ → Type 0
Row2 s k = check_of k (content s k) ≡ stored_check s k → ⊥

-- 3: an edition other than 1
abbrev pub Row3 : List ℕ → Type 0
Row3 s = edition s ≡ 1 → ⊥

-- 4: N, V or the length is not allowed, or something stands in a byte that no record uses
pub data Row4 (limit : ℕ) (s : List ℕ) : Type 0 where
  no_node : node_count s < 1 → Row4 limit s
  nodes : limit < node_count s → Row4 limit s
  variables : most_variables < variable_count s → Row4 limit s
  size : (length s ≡ sheet_bytes (node_count s) → ⊥) → Row4 limit s
  byte : (j : ℕ) → MustBeZero (variable_count s) (node_count s) j → (byte_at s j ≡ 0 → ⊥) → Row4 limit s

-- 5: the record of variable i breaks a rule, or has the name of a lower one
abbrev pub Row5 : List ℕ → ℕ → Type 0
Row5 s i = VariableKept s i → ⊥

-- the bytes of the node record at place i that no kind uses are zero
abbrev pub SpareZero : List ℕ → ℕ → Type 0
SpareZero s i = (byte_at s (i + spare_offset) ≡ 0) × ((j : ℕ) → spare_start ≤ j → j < node_bytes → byte_at s (i + j) ≡ 0)

-- 6: a kind that the table of kinds hasn't, something in an unused field or a spare byte, operands elsewhere than the order demands, a variable that isn't listed
pub data Row6 (s : List ℕ) (n : ℕ) : Type 0 where
  unknown : (Known (shape_at (table s n)) → ⊥) → Row6 s n
  unused : (UnusedZero (shape_at (table s n)) (table s n) → ⊥) → Row6 s n
  spare : (SpareZero s (node_place n) → ⊥) → Row6 s n
  misplaced : (Ordered (start_at (table s)) n (operands_of (shape_at (table s n)) (table s n)) → ⊥) → Row6 s n
  unlisted : (VariableBelow (shape_at (table s n)) (table s n) (variable_count s) → ⊥) → Row6 s n

-- 7: an operand gives another sort than its kind asks
abbrev pub Row7 : List ℕ → ℕ → Type 0
Row7 s n = Typed (table s) n → ⊥

-- 8: the node is an integer whose range has an end outside 16 bits
pub record Row8 (s : List ℕ) (n : ℕ) : Type 0 where
  pub range : Range
  pub found : finding_at s n ≡ Integer range
  pub leaves : NarrowEnds range → ⊥

-- the goal: its subtree leaves nodes out; it is no truth value
abbrev pub GoalSubtree : List ℕ → Type 0
GoalSubtree s = start_at (table s) (goal_at s) ≡ 0 → ⊥

abbrev pub GoalType : List ℕ → Type 0
GoalType s = sort_at (table s) (goal_at s) ≡ Truth → ⊥

-- the table in its order: 1 to 5, a row for each whole block and for each variable, from 0 up; then for each node 6, 7, 8; then the goal's
unfoldable pub sheet_rows : ℕ → List ℕ → List Row
sheet_rows limit s =
    row 1 0 (Row1 limit s)
    then each_of (λ k. row 2 k (Row2 s k)) 0 (length s / block_bytes)
    then row 3 0 (Row3 s)
    then row 4 0 (Row4 limit s)
    then each_of (λ i. row 5 i (Row5 s i)) 0 (variable_count s)
    then each_of (λ n. row 6 n (Row6 s n) then row 7 n (Row7 s n) then row 8 n (Row8 s n)) 0 (node_count s)
    then row 6 (goal_at s) (GoalSubtree s)
    then row 7 (goal_at s) (GoalType s)

-- no row applies
abbrev pub Accepted : ℕ → List ℕ → Type 0
Accepted limit s = NoneApplies (sheet_rows limit s)
