-- `put_name_value` meets its contract: a name and a value have at most so many bytes. Assumes nothing.
use native.Mathlib.Omega.{arith}
use Rattle.room.proofs.RoomLaws.{wrote_as, chain4}
use Rattle.spelling.proofs.NumberLaws.{signed-short}
use Rattle.phrases.proofs.NameValueLaws.{name-value-from}
use Rattle.phrases.proofs.put_name_value.Goals as goal

pub put_number-requires : goal.put_number-requires
put_number-requires c = omega (arith, signed-short c.ranges.z)

pub returns : goal.returns
returns c =
    let z = signed-short c.ranges.z in (
      wrote_as
          (chain4 (omega arith) c.put-p.ensures c.put-q.ensures c.put-r.ensures c.put_number.ensures)
          (name-value-from _ c.ranges.z),
      omega arith,
    )
