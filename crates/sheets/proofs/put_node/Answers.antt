-- `sheets::put_node` meets its contract: the sixteen bytes, the first by its kind. Assumes nothing.
use borrow.Author.Rules.{rules}
use Rattle.sheets.specs.Laying.{with_node}
use Rattle.sheets.proofs.BitsLaws.{pair-is}
use Rattle.sheets.proofs.PutLaws.{written}
use Rattle.sheets.proofs.put_node.Goals as goal

pub returns : goal.returns
unfolding with_node
returns c =
    let a = pair-is c.to_le_bytes.ensures (search rules) in
    let b = pair-is c.to_le_bytes-2.ensures (search rules) in
    let d = pair-is c.to_le_bytes-3.ensures (search rules) in
    let v = pair-is c.to_le_bytes-4.ensures (search rules) in
    written c.put.ensures (rw (a, b, d, v, c.byte_of-kind.ensures)) c.node_place.ensures
