-- `same_name` meets its contract: `same_bytes` of the two parts that `name_in` hands back. Assumes nothing.
use mathlib.Core.Path.{ap₂, ◌∙◌}
use Rattle.lists.specs.Names.{same_bytes}
use Rattle.records.proofs.same_name.Goals as goal

pub returns : goal.returns
returns c =
    c.same_bytes.ensures ∙
    ap₂ same_bytes
    (rw c.variable_place.ensures at c.name_in-a.ensures.bytes)
    (rw c.variable_place-2.ensures at c.name_in-b.ensures.bytes)
