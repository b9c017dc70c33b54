-- `trial::values_in` meets its contract. Invariant: the answer over all variables is the answer over those from i on. Assumes nothing.
use Prim.Native.Nat.{◌-◌}
use mathlib.Core.Path.{◌≡◌}
use lib.ListN.{take}
use Rattle.lists.specs.First.{first}
use Rattle.layout.specs.Parts.{variable_count}
use Rattle.trial.specs.Trying.{value_refusal, values_refusal}
use Rattle.trial.proofs.values_in.Given as goal

abbrev pub invariant-loop-i : goal.invariant-loop-i
invariant-loop-i l = values_refusal l.sheet (take (variable_count l.sheet) l.case) ≡ first (value_refusal l.sheet (take (variable_count l.sheet) l.case)) l.i (l.v - l.i)
