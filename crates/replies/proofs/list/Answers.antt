-- `replies::list` meets its contract. Assumes nothing.
use borrow.Author.Rules.{rules}
use Rattle.std.specs.Prelude.{Ok}
use Rattle.replies.proofs.PassLaws.{list-some}
use Rattle.replies.proofs.list.Goals as goal

pub returns : goal.returns
returns c = list-some _ {r = Ok _} c.if-count-eq0.false (search rules)
