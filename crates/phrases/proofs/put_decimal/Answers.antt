-- `put_decimal` meets its contract: the digits that `io::decimal` gives are the fewest. Assumes nothing.
use mathlib.Core.Path.{ap}
use native.Mathlib.Omega.{arith}
use lib.ListN.{length}
use Rattle.room.proofs.RoomLaws.{wrote_as}
use Rattle.phrases.proofs.DecimalLaws.{digits_are}
use Rattle.phrases.proofs.put_decimal.Goals as goal

pub put-requires : goal.put-requires
put-requires c = omega (arith, ap length (digits_are c.args.n c.decimal-size.result _ c.decimal-size.ensures.len c.decimal-size.ensures.digits), c.requires)

pub returns : goal.returns
returns c =
    wrote_as c.put.ensures (digits_are c.args.n c.decimal-size.result _ c.decimal-size.ensures.len c.decimal-size.ensures.digits)
