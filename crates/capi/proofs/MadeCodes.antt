-- Which drafts pass the refusals of `make`, what numbers these have, and that the number which `make` gives in C tells its answer. Assumes nothing.
use Prim.Native.Nat.{ℕ, ◌/◌, ◌^◌, ◌≤◌, ◌<◌}
use mathlib.Core.Path.{◌≡◌, refl, ap, ◌∙◌}
use mathlib.Core.Logic.{◌⊎◌, inl, inr}
use mathlib.Core.List.{List, []}
use mathlib.Core.Option.{Option, none, some}
use native.Mathlib.Omega.{arith}
use borrow.Author.Tests.{le-leb, leb-true}
use lib.Dec.{leb}
use lib.ListN.{length}
use Rattle.std.specs.Prelude.{Result, Ok, Err}
use Rattle.refusals.specs.declared.Refused.{Refused}
use Rattle.refusals.specs.Causes.{refusal_of as told_as}
use Rattle.lists.proofs.TestLaws.{both, and}
use Rattle.lists.proofs.FirstLaws.{neither, otherwise-none}
use Rattle.refusals.specs.declared.Refusal.{Refusal}
use Rattle.refusals.specs.Rows.{row, ◌then◌}
use Rattle.refusals.proofs.SaidLaws.{unless-none, unless-true}
use Rattle.refusals.proofs.AfterLaws.{passed, passes}
use Rattle.refusals.proofs.BoundLaws.{Bounded, bounded-row, bounded-then, bounded-each, bounded-answer}
use Rattle.layout.specs.Limits.{block_bytes, most_variables, most_nodes, most_sheet_bytes}
use Rattle.layout.specs.Parts.{node_count, variable_count, goal_at}
use Rattle.reading.specs.Rows.{Row1, Row2, Row3, Row4, Row5, Row6, Row7, Row8, GoalSubtree, GoalType, sheet_rows}
use Rattle.reading.specs.Cascade.{refusal_of}
use Rattle.grammar.specs.Begins.{Leaves}
use Rattle.room.specs.Written.{written_said, written_verdict}
use Rattle.texts.specs.Expressions.{records_of, Draft, draft_sheet}
use Rattle.texts.specs.Texts.{Says, Text}
use Rattle.drafts.proofs.Accepted.{roomy, draft-shows}
use Rattle.maker.specs.Rows as made
use Rattle.maker.specs.Rows.{draft_rows}
use Rattle.maker.specs.Makes.{draft_refusal, Makes}
use Rattle.maker.proofs.Exact.{draft-exactly, text-or-leaves}
use Rattle.capi.specs.Codes.{told_of, code_said, tellable, written_code, MakeCodes}
use Rattle.capi.proofs.CodeLaws.{tellable-small, code-tells}

-- ---- a draft passes where it keeps the limits, its sheet is accepted, and the room is large enough
pub record Passes (limit : ℕ) (d : Draft) (room : ℕ) : Type 0 where
  pub few : length d.variables ≤ most_variables
  pub most : length (records_of d.goal 0) ≤ limit
  pub accepted : refusal_of limit (draft_sheet d) ≡ none
  pub fits : length (draft_sheet d) ≤ room

module _ (limit : ℕ) (d : Draft) (room : ℕ) where
  abbrev vars : ℕ
  vars = length d.variables

  abbrev count : ℕ
  count = length (records_of d.goal 0)

  abbrev bytes : ℕ
  bytes = length (draft_sheet d)

  pub draft-passed : draft_refusal limit d room ≡ none → Passes limit d room
  unfolding draft_refusal
  draft-passed e =
      let a = neither _ _ e in
      let b = both (leb vars most_variables) (leb count limit) (unless-none _ 4 0 a.0) in
      let c = passed (refusal_of limit (draft_sheet d)) bytes room 9 bytes a.1 in
      record { few = leb-true vars most_variables b.0; most = leb-true count limit b.1; accepted = c.0; fits = c.1 }

  pub draft-passes : Passes limit d room → draft_refusal limit d room ≡ none
  unfolding draft_refusal
  draft-passes p = otherwise-none _ (unless-true 4 0 (and (le-leb vars most_variables p.few) (le-leb count limit p.most))) ∙ passes bytes room 9 bytes p.accepted p.fits

-- ---- numbers: a draft is refused with 1 to 9
abbrev Numbered : ℕ → ℕ → Type 0
Numbered number place = (1 ≤ number) × (number ≤ 9)

numbered : (n p : ℕ) (C : Type 0) → 1 ≤ n → n ≤ 9 → Bounded Numbered (row n p C)
numbered n p C l h = bounded-row n p C (λ c. (l, h))

node-numbers : (s : List ℕ) (n : ℕ) → Bounded Numbered (row 6 n (Row6 s n) then row 7 n (Row7 s n) then row 8 n (Row8 s n))
node-numbers s n = bounded-then (numbered 6 n (Row6 s n) (omega arith) (omega arith)) (λ a. bounded-then (numbered 7 n (Row7 s n) (omega arith) (omega arith)) (λ b. numbered 8 n (Row8 s n) (omega arith) (omega arith)))

sheet-numbers : (limit : ℕ) (s : List ℕ) → Bounded Numbered (sheet_rows limit s)
unfolding sheet_rows
sheet-numbers limit s =
    bounded-then (numbered 1 0 (Row1 limit s) (omega arith) (omega arith))
    (λ a. bounded-then (bounded-each (length s / block_bytes) 0 (λ k i l. numbered 2 k (Row2 s k) (omega arith) (omega arith)))
    (λ b. bounded-then (numbered 3 0 (Row3 s) (omega arith) (omega arith))
    (λ c. bounded-then (numbered 4 0 (Row4 limit s) (omega arith) (omega arith))
    (λ d. bounded-then (bounded-each (variable_count s) 0 (λ k i l. numbered 5 k (Row5 s k) (omega arith) (omega arith)))
    (λ e. bounded-then (bounded-each (node_count s) 0 (λ k i l. node-numbers s k))
    (λ f. bounded-then (numbered 6 (goal_at s) (GoalSubtree s) (omega arith) (omega arith))
    (λ g. numbered 7 (goal_at s) (GoalType s) (omega arith) (omega arith))))))))

pub draft-numbers : (limit : ℕ) (d : Draft) (room : ℕ) → Bounded Numbered (draft_rows limit d room)
draft-numbers limit d room =
    bounded-then (numbered 4 0 (made.Row4 limit d) (omega arith) (omega arith))
    (λ a. bounded-then (sheet-numbers limit (draft_sheet d)) (λ b. numbered 9 (length (draft_sheet d)) (made.Row9 d room) (omega arith) (omega arith)))

-- ---- the sheet of a text that passes is at most the longest
pub draft-short : {text : List ℕ} {d : Draft} → Says text d → length d.variables ≤ most_variables → length (records_of d.goal 0) ≤ most_nodes → length (draft_sheet d) ≤ most_sheet_bytes
draft-short {text} {d} h few most =
    let f = (draft-shows d (roomy h few most)).frame in
    omega (arith, f.size, f.most)

-- ---- what the code tells: the refusal with its place, as far as 48 bits hold it; or the bytes written
abbrev pub written_told : Result ℕ Refused → Option Refusal × ℕ
written_told (Ok n) = (none, n)
written_told (Err e) = (some (told_of e), 0)

abbrev Tellable : Result ℕ Refused → Type 0
Tellable (Ok n) = n < 2 ^ 48
Tellable (Err e) = 1 ≤ (told_as e).number

tells : (a : Result ℕ Refused) → Tellable a → code_said (written_code a) ≡ written_told a
tells (Ok n) l = code-tells none n (λ r e. absurd (let z : ◌≡◌ {A = ℕ} 0 1 = cc in omega arith)) (λ e. l)
tells (Err q) l =
    code-tells (some (told_of q)) 0
    (λ r e. (let d : (told_as q).number ≡ r.number = cc in omega arith, let d : tellable q.place ≡ r.place = cc in omega (arith, tellable-small q.place)))
    (λ e. absurd (let z : ◌≡◌ {A = ℕ} 0 1 = cc in omega arith))

-- what decides an answer makes it tellable
decided : (a : Result ℕ Refused) (o : Option Refusal) (t : List ℕ) → written_said a ≡ written_verdict o t → (o ≡ none → length t < 2 ^ 48) → ((r : Refusal) → o ≡ some r → 1 ≤ r.number) → Tellable a
decided (Ok n) none t e short numbered = let d : n ≡ length t = ap (λ (x : Option Refusal × ℕ). x.1) e in omega (arith, short refl)
decided (Ok n) (some q) t e short numbered = absurd (let z : ◌≡◌ {A = ℕ} 0 1 = cc (ap (λ (x : Option Refusal × ℕ). x.0) e) in omega arith)
decided (Err r) none t e short numbered = absurd (let z : ◌≡◌ {A = ℕ} 0 1 = cc (ap (λ (x : Option Refusal × ℕ). x.0) e) in omega arith)
decided (Err r) (some q) t e short numbered = let d : told_as r ≡ q = cc (ap (λ (x : Option Refusal × ℕ). x.0) e) in let k : (told_as r).number ≡ q.number = ap (λ (x : Refusal). x.number) d in rw k (numbered q refl)

makes-tellable : {text before after : List ℕ} {a : Result ℕ Refused} → Makes most_nodes text before a after → Tellable a
makes-tellable {text} {before} {after} {a} h = go (text-or-leaves text)
  where
    go : Text text ⊎ ((p : ℕ) × Leaves Text text p) → Tellable a
    go (inl t) =
        let d : Draft = t.draft in
        decided a (draft_refusal most_nodes d (length before)) (draft_sheet d) (h.said d t.says).answer
        (λ e. let p = draft-passed most_nodes d (length before) e in omega (arith, draft-short t.says p.few p.most))
        (λ r e. (bounded-answer (draft-numbers most_nodes d (length before)) (draft-exactly most_nodes d (length before)) e).0)
    go (inr w) = decided a (some (record { number = 18; place = w.0 })) [] (h.off w.0 w.1).answer (λ e. omega arith) (λ r e. let d : 18 ≡ r.number = cc in omega arith)

pub make-tells : {text before after : List ℕ} {r : ℕ} (c : MakeCodes most_nodes text before r after) → code_said r ≡ written_told c.answer
make-tells c = ap code_said c.code ∙ tells c.answer (makes-tellable c.makes)

pub make-code : {text before after : List ℕ} {a : Result ℕ Refused} {n : ℕ} → Makes most_nodes text before a after → n ≡ written_code a → MakeCodes most_nodes text before n after
make-code {text} {before} {after} {a} h e = record { answer = a; makes = h; code = e }
