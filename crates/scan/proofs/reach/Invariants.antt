-- `reach` meets its contract. Invariant: k bytes of the word begin one. Assumes nothing.
use Rattle.texts.specs.Places.{begins}
use Rattle.scan.specs.States.{place_at}
use Rattle.scan.proofs.Beginnings.{Reaching}
use Rattle.scan.proofs.reach.Given as goal

abbrev pub invariant-loop-k : goal.invariant-loop-k
invariant-loop-k l = Reaching (begins (place_at l.text l.here)) l.word l.k
