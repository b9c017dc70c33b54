-- `reach` meets its contract. Assumes nothing.
use mathlib.Core.Path.{◌≡◌, ◌∙◌}
use native.Mathlib.Omega.{arith}
use lib.ListN.{length}
use Rattle.scan.proofs.Beginnings.{reaching-stop, reaching-turn, reaching-end}
use Rattle.scan.proofs.reach.Goals as goal

pub returns-then-not-begins : goal.returns-then-not-begins
returns-then-not-begins c = reaching-stop c.loop-k.invariant c.loop-k-test.true c.begins.ensures c.if-not-begins.true

pub loop-k-preserved : goal.loop-k-preserved
loop-k-preserved c = reaching-turn c.loop-k.invariant c.loop-k-test.true c.begins.ensures c.if-not-begins.false

pub returns : goal.returns
returns c =
    let e : length c.args.word.now ≡ c.loop-k.k = omega arith in
    e ∙ reaching-end c.loop-k.invariant c.loop-k-test.false
