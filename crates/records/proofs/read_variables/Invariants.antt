-- `read_variables` meets its contract. The loop's invariant: the answer over all variables is the answer over those from i on. Assumes nothing.
use Prim.Native.Nat.{◌-◌}
use mathlib.Core.Path.{◌≡◌}
use Rattle.lists.specs.First.{first}
use Rattle.records.specs.Variables.{variable_refusal, variables}
use Rattle.records.proofs.read_variables.Given as goal

abbrev pub invariant-loop-i : goal.invariant-loop-i
invariant-loop-i l = variables l.sheet ≡ first (variable_refusal l.sheet) l.i (l.v - l.i)
