-- `numbers_line` meets its contract: the numbers behind their words, and a line feed. Assumes nothing.
use native.Mathlib.Omega.{arith}
use Rattle.room.proofs.RoomLaws.{chain}
use Rattle.phrases.specs.Phrases.{numbers_line}
use Rattle.phrases.proofs.numbers_line.Goals as goal

pub returns : goal.returns
unfolding numbers_line
returns c =
    let text = c.put_numbers-next.ensures in
    chain (omega (arith, text.1, text.0.place)) text.0 c.put.ensures
