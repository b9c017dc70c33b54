-- `replies::text` meets its contract. Invariant: the bytes from this one on are left. Assumes nothing.
use lib.ListN.{drop}
use Rattle.grammar.specs.Patterns.{exact}
use Rattle.replies.proofs.PassLaws.{Left}
use Rattle.replies.proofs.text.Given as goal

abbrev pub invariant-loop-c : goal.invariant-loop-c
invariant-loop-c l = Left (exact l.wanted) (exact (drop l.c-index l.wanted)) l.reply l.fn.at l.at
