-- `lines::range_end` meets its contract: the text from its five pieces. Assumes nothing.
use native.Mathlib.Omega.{arith}
use borrow.Author.Rules.{rules}
use Rattle.wording.specs.Sixteen.{hex_text}
use Rattle.lines.specs.Lines.{range_end}
use Rattle.room.proofs.RoomLaws.{chain5}
use Rattle.lines.proofs.range_end.Goals as goal

pub put-requires : goal.put-requires
unfolding hex_text
put-requires c = search rules

pub returns : goal.returns
unfolding range_end hex_text
returns c =
    chain5 (omega arith) c.put-p.ensures c.symbol-q.ensures c.put-r.ensures c.constant_from-s.ensures c.put.ensures
