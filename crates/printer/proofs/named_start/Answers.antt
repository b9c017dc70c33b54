-- `printer::named_start` meets its contract: the name behind `var`. Assumes nothing.
use native.Mathlib.Omega.{arith}
use Rattle.room.proofs.RoomLaws.{chain}
use Rattle.printer.specs.Lines.{line_start}
use Rattle.printer.proofs.LineLaws.{start-length}
use Rattle.printer.proofs.named_start.Goals as goal

pub put-next-requires : goal.put-next-requires
put-next-requires c = let a = c.args in omega (arith, start-length a.sheet.now a.n.0)

pub put_name-requires : goal.put_name-requires
put_name-requires c =
    (c.requires.0, omega (arith, start-length c.args.sheet.now c.args.n.0))

pub returns : goal.returns
unfolding line_start
returns c = chain (omega arith) c.put-next.ensures c.put_name.ensures
