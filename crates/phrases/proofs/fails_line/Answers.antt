-- `fails_line` meets its contract: the word, each variable with its value, and the line's end. Assumes nothing.
use native.Mathlib.Omega.{arith}
use Rattle.room.proofs.RoomLaws.{wrote_as, chain3}
use Rattle.header.proofs.HeaderLaws.{block_inside}
use Rattle.reading.proofs.RuleLaws.{accepted-counted}
use Rattle.phrases.proofs.NameValueLaws.{fails-from}
use Rattle.phrases.proofs.fails_line.Goals as goal

pub variable_count-count-requires : goal.variable_count-count-requires
variable_count-count-requires c = block_inside (accepted-counted _ c.requires.0.accepted)

pub returns : goal.returns
returns c =
    let w = chain3 (omega (arith, c.put_name_values-q.ensures.0.place)) c.put-p.ensures c.put_name_values-q.ensures.0 c.put.ensures in
    wrote_as w (fails-from _ _ c.variable_count-count.ensures)
