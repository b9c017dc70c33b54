-- `spelling::put_number` meets its contract: the sign of a number below zero, and the digits. Assumes nothing.
use native.Mathlib.Omega.{arith}
use Rattle.room.proofs.RoomLaws.{wrote_as, chain}
use Rattle.spelling.proofs.NumberLaws.{minus-length, plain-length, minus-text, plain-text}
use Rattle.spelling.proofs.put_number.Goals as goal

pub put-next-requires : goal.put-next-requires
put-next-requires c = omega (arith, minus-length c.ranges.z c.unsigned_abs-n.ensures.value c.if-z-lt0.true)

pub put_decimal-requires : goal.put_decimal-requires
put_decimal-requires c =
    omega (arith, minus-length c.ranges.z c.unsigned_abs-n.ensures.value c.if-z-lt0.true)

pub returns-then-z-lt0 : goal.returns-then-z-lt0
returns-then-z-lt0 c =
    let f = c.ranges.z in
    wrote_as (chain (omega (arith, minus-length f c.unsigned_abs-n.ensures.value c.if-z-lt0.true)) c.put-next.ensures c.put_decimal.ensures) (minus-text f c.unsigned_abs-n.ensures.value c.if-z-lt0.true)

pub put_decimal-requires-2 : goal.put_decimal-requires-2
put_decimal-requires-2 c = omega (arith, plain-length c.ranges.z c.unsigned_abs-n.ensures.value c.if-z-lt0.false)

pub returns : goal.returns
returns c =
    wrote_as c.put_decimal-2.ensures (plain-text c.ranges.z c.unsigned_abs-n.ensures.value c.if-z-lt0.false)
