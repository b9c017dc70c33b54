-- `name_pointed` meets its contract. Assumes nothing.
use mathlib.Core.Path.{sym}
use native.Mathlib.Omega.{arith}
use Rattle.pointing.proofs.PlaceLaws.{no_name}
use Rattle.pointing.proofs.LineLaws.{line-name}
use Rattle.pointing.proofs.name_pointed.Goals as goal

pub returns-then-i-variable_count : goal.returns-then-i-variable_count
returns-then-i-variable_count c = λ d h.
    let v = c.variable_count.ensures.count d h in
    let l = c.if-i-variable_count.true in
    sym (line-name (c.line_start.ensures d (rw (← c.bytes.ensures.same) at h) (omega arith)) (omega arith))

pub returns-else-i-variable_count : goal.returns-else-i-variable_count
returns-else-i-variable_count c = λ d h. no_name d.variables _ (c.variable_count.ensures.count d h) c.if-i-variable_count.false
