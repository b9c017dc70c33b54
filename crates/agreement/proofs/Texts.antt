-- The promises about plain texts, `specs/Texts`, proved. Assumes nothing.
use Prim.Native.Nat.{ℕ, ◌≤◌}
use mathlib.Core.Path.{◌≡◌, refl, sym, ap, subst, ◌∙◌}
use mathlib.Core.Logic.{◌⊎◌, inl, inr, ⊎_elim}
use mathlib.Core.List.{List, []}
use mathlib.Core.Option.{Option, some}
use native.Mathlib.Omega.{arith}
use lib.ListN.{length, take, drop}
use Rattle.std.specs.Prelude.{Result, Ok, Err}
use Rattle.refusals.specs.declared.Refused.{Refused}
use Rattle.refusals.specs.declared.Refusal.{Refusal}
use Rattle.refusals.proofs.BoundLaws.{bounded-answer}
use Rattle.layout.specs.Limits.{most_nodes}
use Rattle.layout.specs.Parts.{rule_in}
use Rattle.layout.specs.Sheet.{sheet_of}
use Rattle.reading.specs.Cascade.{refusal_of}
use Rattle.reading.proofs.Exact.{sheet-exactly}
use Rattle.grammar.specs.Begins.{Leaves}
use Rattle.grammar.proofs.BeginLaws.{no_member, one_place}
use Rattle.room.specs.Written.{written_said, Fills}
use Rattle.texts.specs.Expressions.{Draft, draft_of, draft_sheet}
use Rattle.texts.specs.Plain.{text_of}
use Rattle.texts.specs.Texts.{Says, Text}
use Rattle.texts.proofs.OneLaws.{one-draft}
use Rattle.drafts.proofs.TreeLaws.{records-tree, draft-sheet}
use Rattle.drafts.proofs.Saying.{draft-says}
use Rattle.drafts.proofs.Accepted.{declarable-at, roomy, draft-bytes, draft-shows, accepted-draft, accepted-text}
use Rattle.maker.specs.Makes.{draft_refusal, Makes}
use Rattle.maker.proofs.Exact.{draft-exactly, text-or-leaves}
use Rattle.maker.proofs.Unique.{make-once}
use Rattle.printer.specs.Prints.{Prints}
use Rattle.printer.proofs.Exact.{text-exactly}
use Rattle.printer.proofs.Short.{text-short}
use Rattle.printer.proofs.PrintLaws.{print-once}
use Rattle.capi.specs.Codes.{written_code}
use Rattle.capi.proofs.MadeCodes.{Passes, draft-passed, draft-passes, draft-numbers, draft-short}
use Rattle.agreement.specs.Statements.{Sheet}
use Rattle.agreement.specs.Texts as promise
use Rattle.agreement.specs.Texts.{NoWords, RoomOf}
use Rattle.agreement.proofs.Proved.{accepts, sheet-of-rule, rule-of-sheet}
use Rattle.agreement.proofs.Filled.{said-refusal, done, front, done-passes, room_of}
use Rattle.agreement.proofs.TextRefusals.{text-fits, text-passes, draft-raised}

-- ---- the grammar
pub texts-read-one-way : promise.TextsReadOneWay
texts-read-one-way s = record { either = text-or-leaves s; not-both = λ p. no_member Text; one_place = λ p q. one_place Text; one-draft = λ d e. one-draft }

pub text-of-rule : promise.TextOfRule
text-of-rule = draft-says

pub one-rule : promise.OneRule
one-rule q r a avoid b shun e =
    let d : draft_of q ≡ draft_of r = one-draft (subst (λ (t : List ℕ). Says t (draft_of q)) e (draft-says q a avoid)) (draft-says r b shun) in
    let s : sheet_of q ≡ sheet_of r = sym (draft-sheet q) ∙ ap draft_sheet d ∙ draft-sheet r in
    sym (rule-of-sheet q a).1 ∙ ap rule_in s ∙ (rule-of-sheet r b).1

-- ---- refusals
-- a text is not refused as bytes that are none
not-18 : (limit : ℕ) (d : Draft) (room : ℕ) {p : ℕ} → draft_refusal limit d room ≡ some (record { number = 18; place = p }) → ⊥
not-18 limit d room e = omega (arith, (bounded-answer (draft-numbers limit d room) (draft-exactly limit d room) e).1)

pub make-refused-by-row : promise.MakeRefusedExactly
make-refused-by-row limit text before after r h = (λ p. (leaves p (text-or-leaves text), λ w. said-refusal (h.off p w)), λ d w. rw (said-refusal (h.said d w)) (draft-exactly limit d (length before)))
  where
    leaves : (p : ℕ) → Text text ⊎ ((q : ℕ) × Leaves Text text q) → (written_said r).0 ≡ some (record { number = 18; place = p }) → Leaves Text text p
    leaves p (inl t) e = absurd (not-18 limit t.draft (length before) (sym (said-refusal (h.said t.draft t.says)) ∙ e))
    leaves p (inr w) e =
        let same : ◌≡◌ {A = Option Refusal} (some (record { number = 18; place = w.0 })) (some (record { number = 18; place = p })) = sym (said-refusal (h.off w.0 w.1)) ∙ e in
        let inner : ◌≡◌ {A = Refusal} (record { number = 18; place = w.0 }) (record { number = 18; place = p }) = cc in
        subst (Leaves Text text) (ap (λ (x : Refusal). x.place) inner) w.1

pub print-refused-by-row : promise.PrintRefusedExactly
print-refused-by-row = text-exactly

-- ---- what is written, and the room
module _ {limit : ℕ} {text before after : List ℕ} {r : Result ℕ Refused} (h : Makes limit text before r after) where
  no_text : (p : ℕ) → Leaves Text text p → RoomOf [] before r after
  no_text p w = room_of (h.off p w) (λ e. omega arith)

  of-draft : (d : Draft) → Says text d → RoomOf (draft_sheet d) before r after
  of-draft d w = room_of (h.said d w) (λ e. (draft-passed limit d (length before) e).fits)

  pub make-kept : ((e : Refused) → r ≡ Err e → after ≡ before) × (length after ≡ length before)
  make-kept = ⊎_elim (λ t. let w = of-draft t.draft t.says in (w.refused, w.size)) (λ p. let w = no_text p.0 p.1 in (w.refused, w.size)) (text-or-leaves text)

pub make-room : promise.MakeRoom
make-room text before after r h = make-kept h

pub print-room : promise.PrintRoom
print-room s before after r h = room_of h (text-fits most_nodes s (length before))

-- a sheet that was made is that of a draft which passes
record Made (text before : List ℕ) (n : ℕ) (after : List ℕ) : Type 0 where
  draft : Draft
  says : Says text draft
  passes : Passes most_nodes draft (length before)
  front : take n after ≡ draft_sheet draft
  past : drop n after ≡ drop n before

made : {text before after : List ℕ} {n : ℕ} → Makes most_nodes text before (Ok n) after → Made text before n after
made {text} {before} {after} {n} h = go (text-or-leaves text)
  where
    go : Text text ⊎ ((p : ℕ) × Leaves Text text p) → Made text before n after
    go (inl t) =
        let w = (of-draft h t.draft t.says).written n refl in
        record { draft = t.draft; says = t.says; passes = draft-passed most_nodes t.draft (length before) (done-passes (h.said t.draft t.says) refl).0; front = w.0; past = w.1 }
    go (inr w) = let e = (done-passes (h.off w.0 w.1) refl).0 in absurd (let z : ◌≡◌ {A = ℕ} 0 1 = cc in omega arith)

module _ {text : List ℕ} {d : Draft} (h : Says text d) {room : ℕ} (p : Passes most_nodes d room) where
  made-sheet-is : Sheet (draft_sheet d)
  made-sheet-is = record { bytes = draft-bytes d (roomy h p.few p.most); no_row = (sheet-exactly most_nodes (draft_sheet d)).passed.0 p.accepted }

  made-rule-is : draft_of (rule_in (draft_sheet d)) ≡ d
  made-rule-is = accepted-draft d (roomy h p.few p.most) p.accepted

  made-text-is : text ≡ text_of (rule_in (draft_sheet d))
  made-text-is = accepted-text text d h p.few p.most p.accepted

  made-no-words : NoWords (rule_in (draft_sheet d))
  made-no-words = rw (draft-shows d (roomy h p.few p.most)).variables (λ i l. (declarable-at d.variables h.variables i l).name.no_word)

pub made-sheet : promise.MadeSheet
made-sheet text before after n h =
    let m = made h in
    record {
      sheet = rw m.front (made-sheet-is m.says m.passes);
      rule = rw (m.front, made-rule-is m.says m.passes) m.says;
      text-of = rw m.front (made-text-is m.says m.passes);
      past = m.past;
    }

pub text-room-enough : promise.TextRoomEnough
text-room-enough s h = text-short s (accepts h)

pub made-room-enough : promise.MadeRoomEnough
made-room-enough text d = draft-short

-- ---- round trips
pub text-sheet-text : promise.TextSheetText
text-sheet-text text before after n h room left r l g =
    let m = made h in
    let d : Draft = m.draft in
    let e : text ≡ text_of (rule_in (draft_sheet d)) = made-text-is m.says m.passes in
    let f : Prints most_nodes (draft_sheet d) room r left = rw m.front at g in
    let none-refused = text-passes most_nodes (draft_sheet d) (length room) m.passes.accepted (made-no-words m.says m.passes) (subst (λ (t : List ℕ). length t ≤ length room) e l) in
    subst (λ (t : List ℕ). (r ≡ Ok (length t)) × (take (length t) left ≡ t)) (sym e) (done f none-refused, front f none-refused)

pub printed-made : promise.PrintedMade
printed-made q a avoid before after r l h =
    let d : Draft = draft_of q in
    let e : draft_sheet d ≡ sheet_of q = draft-sheet q in
    let s : Sheet (sheet_of q) = (rule-of-sheet q a).0 in
    let f : Fills (draft_refusal most_nodes d (length before)) (draft_sheet d) before r after = h.said d (draft-says q a avoid) in
    let none-refused = draft-passes most_nodes d (length before) (record {
      few = a.well-formed.few;
      most = rw (records-tree q.goal 0) a.well-formed.most;
      accepted = ap (refusal_of most_nodes) e ∙ accepts s;
      fits = subst (λ (t : List ℕ). length t ≤ length before) (sym e) l;
    }) in
    subst (λ (t : List ℕ). (r ≡ Ok (length t)) × (take (length t) after ≡ t)) e (done f none-refused, front f none-refused)

pub sheet-text-sheet : promise.SheetTextSheet
sheet-text-sheet s h avoid before after r l p =
    let t : List ℕ = text_of (rule_in s) in
    let e = text-passes most_nodes s (length before) (accepts h) avoid l in
    let w = sheet-of-rule s h in
    (length t, done p e, λ room left x k g. subst (λ (u : List ℕ). (x ≡ Ok (length u)) × (take (length u) left ≡ u)) w.1 (printed-made (rule_in s) w.0 avoid room left x (subst (λ (u : List ℕ). length u ≤ length room) (sym w.1) k) (rw (front p e) at g)))

-- ---- one answer each
pub one-text-answer : promise.OneTextAnswer
one-text-answer = record {
  make = λ text before x y r t. make-once;
  print = λ s before x y r t. print-once most_nodes s;
  ragwashin-make = λ text before x y r t h g. let w = make-once h.makes g.makes in (h.code ∙ ap written_code w.0 ∙ sym g.code, w.1);
  ragwashin-text = λ s before x y r t h g. (h.code ∙ sym g.code, h.room ∙ sym g.room);
}

-- ---- the limit raised
pub made-as-before : promise.MadeAsBefore
made-as-before old new l text within before after r = (λ h. record { off = h.off; said = λ d w. rw (same d w) (h.said d w) }, λ h. record { off = h.off; said = λ d w. rw (sym (same d w)) (h.said d w) })
  where
    same : (d : Draft) → Says text d → draft_refusal new d (length before) ≡ draft_refusal old d (length before)
    same d w = draft-raised old new l d w.variables (within d w) (length before)
