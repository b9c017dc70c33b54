-- `expressions::words_len` meets its contract: after i turns the words of the first i nodes are counted. Assumes nothing.
use mathlib.Core.Path.{sym}
use native.Mathlib.Omega.{arith}
use Rattle.reading.proofs.RuleLaws.{accepted-counted}
use Rattle.reading.specs.Accepts.{AcceptedNode}
use Rattle.expressions.proofs.PhraseLaws.{words-none, words_more, word-short, words-short}
use Rattle.expressions.proofs.words_len.Goals as goal

pub loop-i-init : goal.loop-i-init
loop-i-init c = sym (words-none c.args.sheet.now)

pub overflow_cast-i-end : goal.overflow_cast-i-end
overflow_cast-i-end c = omega (arith, (accepted-counted _ c.bytes.ensures.accepted).most)

pub overflow_add-size : goal.overflow_add-size
overflow_add-size c =
    let ready : AcceptedNode c.args.sheet.now c.loop-i.i = record { accepted = c.bytes.ensures.accepted; below = omega arith } in
    omega (arith, word-short ready)

pub overflow_add-size-in-loop-i : goal.overflow_add-size-in-loop-i
overflow_add-size-in-loop-i c =
    let ready : AcceptedNode c.args.sheet.now c.loop-i.i = record { accepted = c.bytes.ensures.accepted; below = omega arith } in
    omega (arith, word-short ready, words-short c.args.sheet.now c.bytes.ensures.accepted c.loop-i.i (omega arith), (accepted-counted _ c.bytes.ensures.accepted).most)

pub loop-i-preserved : goal.loop-i-preserved
loop-i-preserved c = omega (arith, words_more c.args.sheet.now c.loop-i.i)
