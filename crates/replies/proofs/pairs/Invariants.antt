-- `replies::pairs` meets its contract. Invariant: the pairs from variable i on are left. Assumes nothing.
use Rattle.replies.proofs.PassLaws.{PairsLeft}
use Rattle.replies.proofs.pairs.Given as goal

abbrev pub invariant-loop-i : goal.invariant-loop-i
invariant-loop-i l = PairsLeft l.count l.i l.reply l.fn.at l.at
