-- `ahead` meets its contract, by the next word and what stands behind it. Assumes nothing.
use Prim.Native.Nat.{◌<◌}
use mathlib.Core.Path.{◌≡◌, refl, sym, ◌∙◌}
use lib.ListN.{length, get_or}
use borrow.Author.Rules.{rules}
use Rattle.scan.proofs.Leading.{ahead-none, ahead-other, ahead-next}
use Rattle.scan.proofs.ahead.Goals as goal

pub returns-in_err-next : goal.returns-in_err-next
returns-in_err-next c =
    let s = c.args.text.now in
    let end = c.word_end-end.result in
    let l : end < length s = search rules in
    rw c.from_residual-in_err-next.ensures (ahead-none c.requires c.word_end-end.ensures l refl c.lead.ensures c.in_err-next.was)

pub returns-then-next-separator : goal.returns-then-next-separator
returns-then-next-separator c =
    let s = c.args.text.now in
    let end = c.word_end-end.result in
    let l : end < length s = search rules in
    let b : c.in_ok-separator.field-0.now ≡ get_or s end 0 = search rules in
    ahead-other c.requires c.word_end-end.ensures l refl c.lead.ensures c.in_ok-next.was (λ q. c.if-next-separator.true (q ∙ sym b))

pub returns : goal.returns
returns c =
    let s = c.args.text.now in
    let end = c.word_end-end.result in
    let l : end < length s = search rules in
    let b : c.in_ok-separator.field-0.now ≡ get_or s end 0 = search rules in
    ahead-next c.requires c.word_end-end.ensures l refl c.lead.ensures c.in_ok-next.was (c.if-next-separator.false ∙ b)
