-- `lines::range_start` meets its contract: the text from its three pieces. Assumes nothing.
use native.Mathlib.Omega.{arith}
use borrow.Author.Rules.{rules}
use Rattle.wording.specs.Sixteen.{hex_text}
use Rattle.lines.specs.Lines.{range_start}
use Rattle.room.proofs.RoomLaws.{chain3}
use Rattle.lines.proofs.range_start.Goals as goal

pub spaced_symbol-requires : goal.spaced_symbol-requires
unfolding hex_text
spaced_symbol-requires c = search rules

pub returns : goal.returns
unfolding range_start hex_text
returns c =
    chain3 (omega arith) c.put-p.ensures c.constant_from-q.ensures c.spaced_symbol.ensures
