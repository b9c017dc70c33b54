-- `replies::one` meets its contract. Assumes nothing.
use Prim.Native.Nat.{◌<◌, ◌≤◌}
use mathlib.Core.Path.{◌≡◌, ap, ◌∙◌}
use lib.ListN.{length, get_or}
use borrow.Author.Rules.{rules}
use Rattle.replies.proofs.PassLaws.{take-one, take_none, take_last}
use Rattle.replies.proofs.one.Goals.{in_default-2, in_default}
use Rattle.replies.proofs.one.Goals as goal

pub returns-in-Some : goal.returns-in-Some
returns-in-Some g c = λ t h.
    let s = c.args.reply.now in
    let l : c.args.at < length s = search rules in
    let e : c.in-Some.c.now ≡ get_or s c.args.at 0 = search rules in
    take-one s c.args.at t l (h _ _ c.if-fits.ensures ∙ ap t e)

pub returns : goal.returns
returns g c = elim c.match-get.branch [
  | in_default-2 w ↦ rw w.result-is (λ t h.
      let s = c.args.reply.now in
      let l : c.args.at < length s = search rules in
      let e : w.in-Some.c.now ≡ get_or s c.args.at 0 = search rules in
      take_none s c.args.at t l (h _ _ w.if-fits.ensures ∙ ap t e))
  | in_default w ↦ rw w.result-is (λ t h.
      let l : length c.args.reply.now ≤ c.args.at = search rules in
      take_last c.args.reply.now c.args.at t l)
]
