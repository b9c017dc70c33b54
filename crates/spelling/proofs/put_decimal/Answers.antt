-- `spelling::put_decimal` meets its contract: the digits are the last of five. Assumes nothing.
use native.Mathlib.Omega.{arith}
use Rattle.room.proofs.RoomLaws.{wrote_as}
use Rattle.spelling.proofs.DigitLaws.{decimal-short, of-five}
use Rattle.spelling.proofs.put_decimal.Goals as goal

pub overflow_sub-zeros : goal.overflow_sub-zeros
overflow_sub-zeros c = omega (arith, decimal-short 4 c.args.n (omega arith))

pub returns : goal.returns
returns c = wrote_as c.put.ensures (of-five c.args.n c.digit.ensures c.digit-2.ensures c.digit-3.ensures c.digit-4.ensures c.digit-5.ensures c.decimal_len-zeros.ensures (omega (arith, decimal-short 4 c.args.n (omega arith))))
