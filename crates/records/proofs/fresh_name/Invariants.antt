-- `fresh_name` meets its contract. The loop's invariant: the names passed are not the variable's. Assumes nothing.
use mathlib.Core.Path.{◌≡◌}
use mathlib.Core.Bool.{true}
use Rattle.records.proofs.StepLaws.{unlike_below}
use Rattle.records.proofs.fresh_name.Given as goal

abbrev pub invariant-loop-m : goal.invariant-loop-m
invariant-loop-m l = unlike_below l.sheet l.n.0 l.m ≡ true
