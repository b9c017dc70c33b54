-- `line_start` meets its contract. Invariant: behind so many turns, that line starts at `line`. Assumes nothing.
use Prim.Native.Nat.{◌≤◌}
use lib.ListN.{length}
use Rattle.texts.specs.Expressions.{Draft}
use Rattle.texts.specs.Texts.{Says}
use Rattle.pointing.specs.Lines.{LineAt}
use Rattle.pointing.proofs.line_start.Given as goal

abbrev pub invariant-loop : goal.invariant-loop
invariant-loop l = (d : Draft) → Says l.text d → l.i ≤ length d.variables → LineAt d l.text l.counter l.line
