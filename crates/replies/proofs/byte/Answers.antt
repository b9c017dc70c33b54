-- `replies::byte` meets its contract. Assumes nothing.
use lib.Dec.{eqb}
use borrow.Author.Rules.{rules}
use Rattle.replies.proofs.ByteLaws.{eqb_turned}
use Rattle.replies.proofs.byte.Goals as goal

pub returns : goal.returns
returns c = c.one.ensures (eqb c.args.wanted) (λ d b e. search (rules, eqb_turned))
