-- `digits::numbers` meets its contract. Invariant: the first numbers stand in their part of the row, and as many hashes are behind place p. Assumes nothing.
use Rattle.digits.proofs.NumberLaws.{Filling}
use Rattle.digits.proofs.numbers.Given as goal

abbrev pub invariant-loop-value : goal.invariant-loop-value
invariant-loop-value l = Filling l.count l.reply l.value-items l.value-index l.p
