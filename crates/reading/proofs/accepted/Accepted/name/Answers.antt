-- `Accepted::name` meets its contract: the name stands in the variable's record. Assumes nothing.
use mathlib.Core.Path.{sym}
use Rattle.reading.proofs.ReadLaws.{name_inside}
use Rattle.reading.proofs.accepted.Accepted.name.Goals as goal

pub name_in-requires : goal.name_in-requires
name_in-requires c = rw c.variable_place.ensures (name_inside _ (sym c.self.invariant) (rw (← c.self.view_is) at c.requires))
