-- No second number of bytes and no second room fits the statement of `answer`, nor that of `reply_answer`. Assumes nothing.
use Prim.Native.Nat.{ℕ}
use mathlib.Core.Path.{◌≡◌, refl, sym, ap, ◌∙◌}
use mathlib.Core.List.{List}
use lib.IntN.{ℤ}
use Rattle.std.specs.Prelude.{Result, Ok, Err}
use Rattle.refusals.specs.declared.Refused.{Refused}
use Rattle.layout.specs.Limits.{most_nodes}
use Rattle.layout.specs.Parts.{variable_count, rule_in}
use Rattle.replies.specs.Says.{SpellsCase}
use Rattle.replies.proofs.Unique.{one-case}
use Rattle.trial.specs.declared.Replied.{Replied}
use Rattle.trial.specs.declared.Replied.TheVariants.{Unsat, Fails}
use Rattle.trial.proofs.Unique.{reply-once}
use Rattle.room.specs.Room.{Wrote}
use Rattle.room.proofs.RoomLaws.{wrote_as}
use Rattle.answers.specs.declared.Request.{Request}
use Rattle.answers.specs.Answers.{failing, answer_text}
use Rattle.answers.specs.Replies.{reply_line, WroteReply}

pub answer-once : (q : Request) (s before : List ℕ) {x y : List ℕ} {r t : ℕ} → Wrote (answer_text most_nodes q s) before x 0 r → Wrote (answer_text most_nodes q s) before y 0 t → (r ≡ t) × (x ≡ y)
answer-once q s before w v = (w.place ∙ sym v.place, w.room ∙ sym v.room)

-- one line fits what a reply comes to
same_line : (s reply : List ℕ) (a : Result Replied Refused) {c d : List ℤ} → (a ≡ Ok Fails → SpellsCase (variable_count s) reply c) → (a ≡ Ok Fails → SpellsCase (variable_count s) reply d) → reply_line (rule_in s) c a ≡ reply_line (rule_in s) d a
same_line s reply (Ok Unsat) p q = refl
same_line s reply (Ok Fails) p q = ap (failing (rule_in s)) (one-case (p refl) (q refl))
same_line s reply (Err e) p q = refl

pub reply-answer-once : (s reply before : List ℕ) {x y : List ℕ} {r t : ℕ} → WroteReply most_nodes s reply before x r → WroteReply most_nodes s reply before y t → (r ≡ t) × (x ≡ y)
reply-answer-once s reply before w v =
    let a : w.answer ≡ v.answer = reply-once w.replies v.replies in
    let e : reply_line (rule_in s) w.case w.answer ≡ reply_line (rule_in s) v.case v.answer = same_line s reply w.answer w.spelled (λ f. v.spelled (sym a ∙ f)) ∙ ap (reply_line (rule_in s) v.case) a in
    let g = wrote_as w.wrote e in
    (g.place ∙ sym v.wrote.place, g.room ∙ sym v.wrote.room)
