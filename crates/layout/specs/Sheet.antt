-- The sheet of a rule: written from document 01's layout, and apart from the reading.
use Rattle.std.specs.Prelude.{ℕ, ◌-◌, ◌*◌, List, [], ◌∷◌, ◌++◌, length, take, drop, replicate}
use Rattle.lists.specs.Places.{from}
use Rattle.lists.specs.Joined.{joined}
use Rattle.numbers.specs.Two.{enc}
use Rattle.numbers.specs.Bytes.{pair}
use Rattle.meaning.specs.Rule.{Variable, Rule}
use Rattle.kinds.specs.declared.Record.{Record}
use Rattle.kinds.specs.Kinds.{row}
use Rattle.layout.specs.Limits.{content_bytes, header_gap_bytes, name_field, node_bytes, spare_start, nodes_in_block, blocks_for}
use Rattle.layout.specs.Checks.{sealed}
use Rattle.layout.specs.Nodes.{nodes_of}

-- a node's record
abbrev pub record_bytes : Record → List ℕ
record_bytes r = ((row r.kind).byte ∷ 0 ∷ []) ++ (pair r.a ++ (pair r.b ++ (pair r.c ++ (pair r.value ++ replicate (node_bytes - spare_start) 0))))

-- a variable's record
abbrev pub variable_record : Variable → List ℕ
variable_record v = pair (enc 16 v.domain.low) ++ (pair (enc 16 v.domain.high) ++ ((length v.name ∷ 0 ∷ []) ++ (v.name ++ replicate (name_field - length v.name) 0)))

-- a block's content: the bytes, and zeros up to the check
abbrev pub filled : List ℕ → List ℕ
filled l = l ++ replicate (content_bytes - length l) 0

-- block 0: edition 1, n nodes, the number of variables, zeros, and the variables' records
abbrev pub first_content : ℕ → List Variable → List ℕ
first_content n vs = filled (pair 1 ++ (pair n ++ ((length vs ∷ replicate header_gap_bytes 0) ++ joined variable_record vs)))

-- node block b: the records that fall in it
abbrev pub node_content : List Record → ℕ → List ℕ
node_content rs b = filled (joined record_bytes (take nodes_in_block (drop (nodes_in_block * b) rs)))

-- the contents of all blocks, for these variables and node records
abbrev pub contents_with : List Variable → List Record → List (List ℕ)
contents_with vs rs = first_content (length rs) vs ∷ from (node_content rs) 0 (blocks_for (length rs))

unfoldable pub sheet_with : List Variable → List Record → List ℕ
sheet_with vs rs = sealed 0 (contents_with vs rs)

abbrev pub contents_of : Rule → List (List ℕ)
contents_of r = contents_with r.variables (nodes_of 0 r.goal)

unfoldable pub sheet_of : Rule → List ℕ
unfolding sheet_with
sheet_of r = sheet_with r.variables (nodes_of 0 r.goal)
