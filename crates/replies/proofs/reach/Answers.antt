-- `replies::reach` meets its contract. Assumes nothing.
use native.Mathlib.Omega.{arith}
use Rattle.replies.proofs.PassLaws.{looked-yes, looked-no}
use Rattle.replies.proofs.ReachLaws.{reach-unsat, reach-sat}
use Rattle.replies.proofs.reach.Goals as goal

pub returns-then-eq : goal.returns-then-eq
returns-then-eq c =
    reach-unsat c.args.count c.unsat.result c.blanks-word.ensures (looked-yes c.args.reply.now c.blanks-word.result c.get.result _ c.get.ensures.lookup c.eq.ensures c.if-eq.true (omega arith)) c.unsat.ensures

pub returns : goal.returns
returns c =
    reach-sat c.args.count c.sat.result c.blanks-word.ensures (looked-no c.args.reply.now c.blanks-word.result c.get.result _ c.get.ensures.lookup c.eq.ensures c.if-eq.false (omega arith)) c.sat.ensures
