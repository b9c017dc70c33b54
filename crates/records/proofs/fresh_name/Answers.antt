-- `fresh_name` meets its contract. The loop's invariant: the names passed are not the variable's. Assumes nothing.
use mathlib.Core.Path.{sym}
use native.Mathlib.Omega.{arith}
use Rattle.records.proofs.StepLaws.{fresh-begin, fresh-pass, fresh-stop, fresh-done}
use Rattle.records.proofs.fresh_name.Goals as goal

pub loop-m-init : goal.loop-m-init
loop-m-init c = fresh-begin _ _

pub returns-then-same_name : goal.returns-then-same_name
returns-then-same_name c = sym (fresh-stop _ _ _ c.same_name.ensures c.loop-m-test.true c.if-same_name.true)

pub loop-m-preserved : goal.loop-m-preserved
loop-m-preserved c = fresh-pass _ _ _ c.same_name.ensures c.loop-m.invariant c.if-same_name.false

pub returns : goal.returns
returns c = sym (fresh-done _ _ _ c.loop-m.invariant (omega arith))
