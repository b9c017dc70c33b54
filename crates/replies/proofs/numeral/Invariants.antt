-- `replies::numeral` meets its contract. Invariant: i digits are read. Assumes nothing.
use Rattle.replies.proofs.PassLaws.{DigitsLeft}
use Rattle.replies.proofs.numeral.Given as goal

abbrev pub invariant-loop-i : goal.invariant-loop-i
invariant-loop-i l = DigitsLeft l.count l.base l._i l.reply l.fn.at l.at
