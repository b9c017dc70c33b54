-- `at_most` meets its contract. Invariant: the test is that of the digits from the index on, behind n. Assumes nothing.
use Rattle.words.proofs.Summing.{Bounding}
use Rattle.words.proofs.at_most.Given as goal

abbrev pub invariant-loop-c : goal.invariant-loop-c
invariant-loop-c l = Bounding l.most l.digits l.n l.c-index
