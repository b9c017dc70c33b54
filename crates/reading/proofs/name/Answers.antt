-- `reading::name` meets its contract: the name where it is given, else the empty part. Assumes nothing.
use native.Mathlib.Omega.{arith}
use Rattle.reading.proofs.ReadLaws.{name_inside}
use Rattle.reading.proofs.name.Goals as goal

pub name_in-requires : goal.name_in-requires
name_in-requires c = rw c.variable_place.ensures (name_inside _ c.in-Ok.ensures (omega (arith, c.variable_count.ensures)))
