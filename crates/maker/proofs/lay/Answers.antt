-- `maker::lay` meets its contract: the parts in order, each in the room that the others left. Assumes nothing.
use mathlib.Core.Path.{refl}
use native.Mathlib.Omega.{arith}
use Rattle.maker.proofs.LayLaws.{lay-lines, goal-place, lay-goal, lay-sheet}
use Rattle.maker.proofs.lay.Goals as goal

pub put_variables-goal-requires : goal.put_variables-goal-requires
put_variables-goal-requires c = lay-lines c.requires (omega arith)

pub overflow_add-goal : goal.overflow_add-goal
overflow_add-goal c = omega (arith, goal-place c.requires c.put_variables-goal.ensures)

pub build-requires : goal.build-requires
build-requires c = lay-goal c.requires c.put_variables-goal.ensures (omega arith)

pub returns : goal.returns
returns c = lay-sheet c.requires c.put_counts.ensures c.put_variables-goal.ensures c.build.ensures c.put_checks.ensures refl (omega arith)
