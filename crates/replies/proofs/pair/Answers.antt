-- `replies::pair` meets its contract. Assumes nothing.
use Rattle.std.proofs.lemmas.Result.{err_from_is_err_and}
use Rattle.replies.proofs.PassLaws.{pass-then, pass-off}
use Rattle.replies.proofs.pair.Goals as goal

pub returns-in_err-said : goal.returns-in_err-said
returns-in_err-said c = let e = err_from_is_err_and c.from_residual-in_err-said.result c.from_residual-in_err-said.ensures.1 in rw (e.1, e.2) (pass-then c.in_ok-named.ensures (pass-then c.in_ok-gap.ensures (pass-then c.blanks.ensures (pass-off c.in_err-said.ensures))))
