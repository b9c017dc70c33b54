-- `digits::number` meets its contract. Invariant: the whole is what the digits from this one on make of n. Assumes nothing.
use Rattle.digits.proofs.NumberLaws.{Summing}
use Rattle.digits.proofs.number.Given as goal

abbrev pub invariant-loop-digit : goal.invariant-loop-digit
invariant-loop-digit l = Summing l.base l.digits l.n l.digit-index
