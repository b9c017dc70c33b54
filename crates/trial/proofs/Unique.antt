-- No second answer, no second room, no second part and no second span fits the statements of the calls on replies. Assumes nothing.
use Prim.Native.Nat.{ℕ}
use mathlib.Core.Path.{◌≡◌, refl, sym, ap, subst, ◌∙◌}
use mathlib.Core.List.{List, ◌++◌}
use native.Mathlib.Omega.{arith}
use denote.Ref.{Bor}
use lib.IntN.{ℤ}
use lib.ListN.{drop}
use Rattle.std.specs.Prelude.{Result, Ok, Err}
use Rattle.refusals.specs.declared.Refused.{Refused}
use Rattle.refusals.proofs.SaidLaws.{same-refused}
use Rattle.lists.specs.Part.{SamePart}
use Rattle.lists.proofs.PartLaws.{where-once}
use Rattle.layout.specs.Parts.{variable_count}
use Rattle.replies.proofs.SatLaws.{not-both}
use Rattle.replies.proofs.Unique.{one-case}
use Rattle.trial.specs.declared.Replied.{Replied}
use Rattle.trial.specs.declared.Replied.TheVariants.{Unsat, Fails}
use Rattle.trial.specs.Replies.{replied_said, Replies, CaseRoom, RepliesInto}
use Rattle.trial.specs.Digits.{DigitsGiven, DigitsPart, DigitsSpan}
use Rattle.refusals.proofs.RowLaws.{exactly-once}
use Rattle.layout.specs.Limits.{most_nodes}
use Rattle.trial.proofs.GivenLaws.{given-decided}

pub reply-once : {s reply : List ℕ} {r t : Result Replied Refused} → Replies most_nodes s reply r → Replies most_nodes s reply t → r ≡ t
reply-once {s} {reply} {r} {t} h g = go r t h g (exactly-once (replied_said r) (replied_said t) h.refusals g.refusals)
  where
    go : (r t : Result Replied Refused) → Replies most_nodes s reply r → Replies most_nodes s reply t → replied_said r ≡ replied_said t → r ≡ t
    go (Ok Unsat) (Ok Unsat) h g e = refl
    go (Ok Unsat) (Ok Fails) h g e = absurd (not-both h.told g.told.1.spelled)
    go (Ok Unsat) (Err q) h g e = absurd (let z : ◌≡◌ {A = ℕ} 0 1 = cc in omega arith)
    go (Ok Fails) (Ok Unsat) h g e = absurd (not-both g.told h.told.1.spelled)
    go (Ok Fails) (Ok Fails) h g e = refl
    go (Ok Fails) (Err q) h g e = absurd (let z : ◌≡◌ {A = ℕ} 0 1 = cc in omega arith)
    go (Err p) (Ok Unsat) h g e = absurd (let z : ◌≡◌ {A = ℕ} 0 1 = cc in omega arith)
    go (Err p) (Ok Fails) h g e = absurd (let z : ◌≡◌ {A = ℕ} 0 1 = cc in omega arith)
    go (Err p) (Err q) h g e = ap Err (same-refused p q cc)

room-once : (s reply : List ℕ) (before x y : List ℤ) (r : Result Replied Refused) → CaseRoom s reply before r x → CaseRoom s reply before r y → x ≡ y
room-once s reply before x y (Ok Unsat) h g = h ∙ sym g
room-once s reply before x y (Ok Fails) h g = h.2 ∙ ap (λ (c : List ℤ). c ++ drop (variable_count s) before) (one-case h.1 g.1) ∙ sym g.2
room-once s reply before x y (Err q) h g = h ∙ sym g

pub reply-into-once : {s reply : List ℕ} {before x y : List ℤ} {r t : Result Replied Refused} → RepliesInto most_nodes s reply before r x → RepliesInto most_nodes s reply before t y → (r ≡ t) × (x ≡ y)
reply-into-once {s} {reply} {before} {x} {y} {r} {t} h g =
    let e = reply-once h.answer g.answer in
    (e, room-once s reply before x y r h.room (subst (λ (q : Result Replied Refused). CaseRoom s reply before q y) (sym e) g.room))

pub digits-once : (s : List ℕ) (reply : Bor (List ℕ)) (i : ℕ) (p q : Bor (List ℕ)) → DigitsPart most_nodes s reply i p → DigitsPart most_nodes s reply i q → SamePart p q
digits-once s reply i p q h g = where-once (given-decided s reply.now i) h g

pub span-once : {s reply : List ℕ} {i a n b m : ℕ} → DigitsSpan most_nodes s reply i a n → DigitsSpan most_nodes s reply i b m → (a ≡ b) × (n ≡ m)
span-once {s} {reply} {i} {a} {n} {b} {m} h g = go (given-decided s reply i)
  where
    go : Dec (DigitsGiven most_nodes s reply i) → (a ≡ b) × (n ≡ m)
    go (yes d) = let x = h.given d in let y = g.given d in (x.0 ∙ sym y.0, x.1 ∙ sym y.1)
    go (no d) = let x = h.absent d in let y = g.absent d in (x.0 ∙ sym y.0, x.1 ∙ sym y.1)
