-- `variable_kept` meets its contract: what `variable_right` and `fresh_name` ensure, one after the other. Assumes nothing.
use mathlib.Core.Path.{sym, ◌∙◌}
use Rattle.records.proofs.variable_kept.Goals as goal

pub returns-then-variable_right : goal.returns-then-variable_right
returns-then-variable_right c =
    let right = rw c.variable_place.ensures at c.variable_right.ensures in
    rw (sym right ∙ c.if-variable_right.true) c.fresh_name.ensures

pub returns-else-variable_right : goal.returns-else-variable_right
returns-else-variable_right c =
    let right = rw c.variable_place.ensures at c.variable_right.ensures in
    rw (c.if-variable_right.false, sym right ∙ c.if-variable_right.false)
