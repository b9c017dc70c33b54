-- `value_of` meets its contract. Invariant: the whole is what the digits from the index on make of n. Assumes nothing.
use Rattle.words.proofs.Summing.{Summing}
use Rattle.words.proofs.value_of.Given as goal

abbrev pub invariant-loop-c : goal.invariant-loop-c
invariant-loop-c l = Summing l.digits l.n l.c-index
