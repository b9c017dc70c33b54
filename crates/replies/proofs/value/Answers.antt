-- `replies::value` meets its contract. Assumes nothing.
use native.Mathlib.Omega.{arith}
use Rattle.replies.proofs.PassLaws.{looked-yes, looked-no, value-hex, value-binary}
use Rattle.replies.proofs.value.Goals as goal

pub returns-then-eq : goal.returns-then-eq
returns-then-eq c =
    value-hex c.in_ok-letter.ensures (looked-yes c.args.reply.now c.in_ok-letter.letter c.get.result _ c.get.ensures.lookup c.eq.ensures c.if-eq.true (omega arith)) c.based.ensures

pub returns : goal.returns
returns c =
    value-binary c.in_ok-letter.ensures (looked-no c.args.reply.now c.in_ok-letter.letter c.get.result _ c.get.ensures.lookup c.eq.ensures c.if-eq.false (omega arith)) c.based-2.ensures
