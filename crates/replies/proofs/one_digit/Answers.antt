-- `replies::one_digit` meets its contract. Assumes nothing.
use borrow.Author.Rules.{rules}
use Rattle.replies.specs.Replies.{digit_to}
use Rattle.replies.proofs.one_digit.Goals as goal

pub returns : goal.returns
returns c = c.one.ensures (digit_to c.args.base) (λ d b e. search rules)
