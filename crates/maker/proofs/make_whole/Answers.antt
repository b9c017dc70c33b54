-- `maker::make_whole` meets its contract: 4 over either limit, else what is answered within them. Assumes nothing.
use mathlib.Core.Path.{sym}
use Rattle.maker.specs.Lays.{Counts}
use Rattle.maker.proofs.MakeLaws.{many-variables, many-nodes}
use Rattle.maker.proofs.make_whole.Goals as goal
use Rattle.maker.proofs.make_whole.Goals.{then-variables-gt-MOST_VARIABLES-via-then-variables-gt-MOST_VARIABLES, then-variables-gt-MOST_VARIABLES-via-else-variables-gt-MOST_VARIABLES+then-nodes-gt-MOST_NODES}

pub returns-then-variables-gt-MOST_VARIABLES : goal.returns-then-variables-gt-MOST_VARIABLES
returns-then-variables-gt-MOST_VARIABLES c =
    let v = c.variable_count-variables.ensures in
    let n = c.node_count-nodes.ensures in
    let counts : Counts c.args.text.now c.variable_count-variables.result c.node_count-nodes.result = record { text = v.text; variables-are = λ d h. sym (v.count d h); nodes-are = λ d h. sym (n.count d h) } in
    elim c.then-variables-gt-MOST_VARIABLES.branch [
      | then-variables-gt-MOST_VARIABLES-via-then-variables-gt-MOST_VARIABLES w ↦ many-variables counts _ w.if-variables-gt-MOST_VARIABLES.true
      | then-variables-gt-MOST_VARIABLES-via-else-variables-gt-MOST_VARIABLES+then-nodes-gt-MOST_NODES w ↦ many-nodes counts _ w.if-nodes-gt-MOST_NODES.true
    ]
