-- `trial::inside` meets its contract: each arm's test is the definition's. Assumes nothing.
use mathlib.Core.Path.{◌≡◌}
use borrow.Author.Rules.{rules}
use mir.Syntax.{w32}
use mir.Val.{to_z, of_z}
use mir.Facts.{to_z-of_z}
use Rattle.trial.specs.Trying.{is_in}
use Rattle.trial.proofs.inside.Goals as goal

pub returns-then-d-x : goal.returns-then-d-x
unfolding is_in
returns-then-d-x c =
    let x = to_z-of_z c.ranges.x in
    let l : to_z w32 (of_z w32 c.args.d.low) ≡ c.args.d.low = search rules in
    let h : to_z w32 (of_z w32 c.args.d.high) ≡ c.args.d.high = search rules in
    simp (x, h, simp (x, l) at c.if-d-x.true)

pub returns-else-d-x : goal.returns-else-d-x
unfolding is_in
returns-else-d-x c =
    let x = to_z-of_z c.ranges.x in
    let l : to_z w32 (of_z w32 c.args.d.low) ≡ c.args.d.low = search rules in
    simp (x, l, simp (x, l) at c.if-d-x.false)
