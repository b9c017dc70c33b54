-- `printer::read_names` meets its contract: the loop's invariant is that the answer over all variables is the answer over those not yet checked. Assumes nothing.
use Prim.Native.Nat.{◌-◌}
use mathlib.Core.Path.{◌≡◌}
use Rattle.lists.specs.First.{first}
use Rattle.layout.specs.Parts.{variable_count}
use Rattle.printer.specs.Prints.{word_refusal}
use Rattle.printer.proofs.read_names.Given as goal

abbrev pub invariant-loop-checked : goal.invariant-loop-checked
invariant-loop-checked l = first (word_refusal l.sheet) 0 (variable_count l.sheet) ≡ first (word_refusal l.sheet) l.checked (l.count - l.checked)
