-- Follows the code: a sheet's bytes as they are put into a room of zeros, part by part. Proved to be the sheet that the layout writes.
use Rattle.std.specs.Prelude.{ℕ, zero, suc, ◌+◌, ◌*◌, List, [], ◌∷◌, ◌++◌, length, replicate}
use Rattle.numbers.specs.Two.{enc}
use Rattle.numbers.specs.Bytes.{pair}
use Rattle.meaning.specs.Rule.{Variable}
use Rattle.kinds.specs.declared.Record.{Record}
use Rattle.layout.specs.Limits.{block_bytes, content_bytes, blocks_for, sheet_bytes, variable_place, node_place}
use Rattle.layout.specs.Checks.{check_of, content}
use Rattle.layout.specs.Sheet.{record_bytes}
use Rattle.room.specs.Room.{within}

-- the edition, n nodes and v variables
unfoldable pub with_counts : ℕ → ℕ → List ℕ → List ℕ
with_counts n v s = within (pair 1 ++ (pair n ++ (v ∷ []))) 0 s

-- a variable's record up to its name's last byte
abbrev pub variable_front : Variable → List ℕ
variable_front v = pair (enc 16 v.domain.low) ++ (pair (enc 16 v.domain.high) ++ ((length v.name ∷ 0 ∷ []) ++ v.name))

unfoldable pub with_variable : ℕ → Variable → List ℕ → List ℕ
with_variable i v s = within (variable_front v) (variable_place i) s

-- variables from number i on
unfoldable pub with_variables : ℕ → List Variable → List ℕ → List ℕ
with_variables i [] s = s
with_variables i (v ∷ vs) s = with_variables (suc i) vs (with_variable i v s)

-- a node's record, and those of nodes from number n on
unfoldable pub with_node : ℕ → Record → List ℕ → List ℕ
with_node n r s = within (record_bytes r) (node_place n) s

unfoldable pub with_nodes : ℕ → List Record → List ℕ → List ℕ
with_nodes n [] s = s
with_nodes n (r ∷ rs) s = with_nodes (suc n) rs (with_node n r s)

-- the check of block k, and those of all blocks below k
unfoldable pub with_check : ℕ → List ℕ → List ℕ
with_check k s = within (pair (check_of k (content s k))) (block_bytes * k + content_bytes) s

unfoldable pub with_checks : ℕ → List ℕ → List ℕ
with_checks zero s = s
with_checks (suc k) s = with_check k (with_checks k s)

-- the whole, in a room of zeros
unfoldable pub laid : List Variable → List Record → List ℕ
laid vs rs = with_checks (blocks_for (length rs) + 1) (with_nodes 0 rs (with_variables 0 vs (with_counts (length rs) (length vs) (replicate (sheet_bytes (length rs)) 0))))
