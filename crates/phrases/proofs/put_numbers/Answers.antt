-- `put_numbers` meets its contract: the words and the numbers in order. Assumes nothing.
use native.Mathlib.Omega.{arith}
use Rattle.room.proofs.RoomLaws.{chain4}
use Rattle.phrases.specs.Phrases.{numbers_text}
use Rattle.phrases.proofs.DecimalLaws.{decimal-short}
use Rattle.phrases.proofs.put_numbers.Goals as goal

pub put_decimal-q-requires : goal.put_decimal-q-requires
put_decimal-q-requires c =
    omega (arith, decimal-short c.ranges.m, decimal-short c.ranges.n)

pub put-r-requires : goal.put-r-requires
put-r-requires c =
    omega (arith, decimal-short c.ranges.m, decimal-short c.ranges.n)

pub put_decimal-requires : goal.put_decimal-requires
put_decimal-requires c =
    omega (arith, decimal-short c.ranges.m, decimal-short c.ranges.n)

pub returns : goal.returns
unfolding numbers_text
returns c =
    let m = decimal-short c.ranges.m in
    let n = decimal-short c.ranges.n in
    (chain4 (omega arith) c.put-p.ensures c.put_decimal-q.ensures c.put-r.ensures c.put_decimal.ensures, omega arith)
