-- What a refusal tells about the text, where it points, and the lines of it. Assumes nothing.
use Prim.Native.Nat.{ℕ, ◌/◌, ◌≤◌, ◌<◌}
use mathlib.Core.Path.{◌≡◌, refl, sym, ap, subst, ◌∙◌}
use mathlib.Core.Logic.{⊎_elim}
use mathlib.Core.List.{List, ◌++◌}
use mathlib.Core.Option.{Option, none, some}
use native.Mathlib.Omega.{arith}
use borrow.Author.Tests.{le-leb}
use lib.Dec.{leb}
use lib.ListN.{length}
use Rattle.std.specs.Prelude.{Result, Ok, Err, Some, None}
use Rattle.std.specs.Prelude as prelude
use Rattle.io.specs.Counts.{IsPrefixLen}
use Rattle.lists.specs.Ascii.{ascii}
use Rattle.lists.specs.First.{◌otherwise◌, first}
use Rattle.lists.proofs.FirstLaws.{otherwise-some}
use Rattle.refusals.specs.declared.Refusal.{Refusal}
use Rattle.refusals.specs.declared.Refused.{Refused}
use Rattle.refusals.specs.Causes.{refusal_of as told_as}
use Rattle.refusals.specs.Said.{unless}
use Rattle.refusals.specs.Rows.{row}
use Rattle.refusals.proofs.SaidLaws.{unless-true}
use Rattle.refusals.proofs.BoundLaws.{Bounded, bounded-row, bounded-then, bounded-each, bounded-answer}
use Rattle.layout.specs.Limits.{block_bytes, most_nodes}
use Rattle.layout.specs.Parts.{node_count, variable_count, rule_in}
use Rattle.reading.specs.Cascade.{refusal_of}
use Rattle.reading.specs.Rows.{Row1, Row2, Row3, Row4, Row5, Row6, Row7, Row8, GoalSubtree, GoalType, sheet_rows}
use Rattle.grammar.specs.Begins.{Leaves}
use Rattle.grammar.proofs.BeginLaws.{place_inside, no_member, one_place}
use Rattle.room.specs.Room.{Wrote}
use Rattle.room.specs.Written.{written_said, written_verdict, Fills}
use Rattle.texts.specs.Expressions.{Draft, draft_sheet}
use Rattle.texts.specs.Plain.{text_of}
use Rattle.texts.specs.Texts.{Says, Text}
use Rattle.pointing.specs.Pointing.{pointed_at, line_of, column_of}
use Rattle.pointing.specs.Pointed.{pointed_said}
use Rattle.maker.specs.Rows.{Row4 as Row4d, Row9, draft_rows}
use Rattle.maker.proofs.Exact.{draft-exactly, text-or-leaves}
use Rattle.maker.specs.Makes.{draft_refusal, Makes}
use Rattle.printer.specs.Prints.{word_refusal, text_refusal, longest_text, Prints}
use Rattle.printer.proofs.Short.{text-short}
use Rattle.phrases.specs.Phrases.{numbers_text, refusal_line}
use Rattle.answers.proofs.AnswerLaws.{counted, filled-written, filled-refused}
use Rattle.sources.specs.Sources.{Points, pointed_line, WrotePointed, Sourced}
use Rattle.sources.specs.Refusing.{Refuses, off, said, PointsInside}
use Rattle.sources.specs.Texts.{text_answer}
use Rattle.sources.proofs.PlaceLaws.{pointed-inside}

-- ---- what a text says is never refused as 18
Other : ℕ → ℕ → Type 0
Other n p = n < 18

other : (n p : ℕ) (C : Type 0) → n < 18 → Bounded Other (row n p C)
unfolding Other
other n p C h = bounded-row n p C (λ c. h)

sheet-other : (limit : ℕ) (s : List ℕ) → Bounded Other (sheet_rows limit s)
unfolding sheet_rows
sheet-other limit s =
    bounded-then (other 1 0 (Row1 limit s) (omega arith))
    (λ a. bounded-then (bounded-each (length s / block_bytes) 0 (λ k i l. other 2 k (Row2 s k) (omega arith)))
    (λ b. bounded-then (other 3 0 (Row3 s) (omega arith))
    (λ c. bounded-then (other 4 0 (Row4 limit s) (omega arith))
    (λ d. bounded-then (bounded-each (variable_count s) 0 (λ k i l. other 5 k (Row5 s k) (omega arith)))
    (λ e. bounded-then (bounded-each (node_count s) 0 (λ k i l. bounded-then (other 6 k (Row6 s k) (omega arith)) (λ x. bounded-then (other 7 k (Row7 s k) (omega arith)) (λ y. other 8 k (Row8 s k) (omega arith)))))
    (λ f. bounded-then (other 6 _ (GoalSubtree s) (omega arith))
    (λ g. other 7 _ (GoalType s) (omega arith))))))))

draft-other : (limit : ℕ) (d : Draft) (room : ℕ) {r : Refusal} → draft_refusal limit d room ≡ some r → r.number ≡ 18 → ⊥
unfolding Other
draft-other limit d room e n =
    let rows : Bounded Other (draft_rows limit d room) = bounded-then (other 4 0 (Row4d limit d) (omega arith)) (λ a. bounded-then (sheet-other limit (draft_sheet d)) (λ b. other 9 _ (Row9 d room) (omega arith))) in
    omega (arith, bounded-answer rows (draft-exactly limit d room) e)

-- ---- what `make` tells about the text
module _ {o : Option Refusal} {t before after : List ℕ} {a : Result ℕ Refused} (w : Fills o t before a after) where
  verdict-refusal : (x : Option Refusal) → (written_verdict x t).0 ≡ x
  verdict-refusal none = refl
  verdict-refusal (some r) = refl

  refusal_is : {q : Refused} → a ≡ Err q → o ≡ some (told_as q)
  refusal_is d = sym (verdict-refusal o) ∙ ap (λ (x : Option Refusal × ℕ). x.0) (sym w.answer ∙ ap written_said d)

module _ {text before after : List ℕ} {a : Result ℕ Refused} (w : Makes most_nodes text before a after) where
  pub refuses : {q : Refused} → a ≡ Err q → Refuses text (told_as q)
  refuses {q} d =
      ⊎_elim
      (λ t. said (draft-other most_nodes t.draft (length before) (refusal_is (w.said t.draft t.says) d)) t)
      (λ l.
      let e : record { number = 18; place = l.0 } ≡ told_as q = cc (refusal_is (w.off l.0 l.1) d) in
      off (sym (ap (λ (r : Refusal). r.number) e)) (subst (Leaves Text text) (ap (λ (r : Refusal). r.place) e) l.1))
      (text-or-leaves text)

  made_counted : {n : ℕ} → a ≡ Ok n → IsPrefixLen n after
  made_counted d = ⊎_elim (λ t. counted (filled-written (w.said t.draft t.says) d)) (λ l. counted (filled-written (w.off l.0 l.1) d)) (text-or-leaves text)

  pub sourced-sheet : {n : ℕ} (line : List ℕ) → a ≡ Ok n → Sourced most_nodes text before line (Ok n) after line × IsPrefixLen n after
  sourced-sheet {n} line d = (record { answer = Ok n; makes = subst (λ (r : Result ℕ Refused). Makes most_nodes text before r after) d w; told = (refl, refl) }, made_counted d)

  pub sourced-line : {q : Refused} {line line_after : List ℕ} {n : ℕ} → a ≡ Err q → WrotePointed text (told_as q) line line_after n → Sourced most_nodes text before line (Err n) after line_after × IsPrefixLen n line_after
  sourced-line {q} d g = (record { answer = Err q; makes = subst (λ (r : Result ℕ Refused). Makes most_nodes text before r after) d w; told = g }, counted g.wrote)

-- ---- where a refusal points
module _ {text : List ℕ} {r : Refusal} where
  pub points-off : Refuses text r → r.number ≡ 18 → PointsInside text r (some r.place)
  points-off (off e l) n = record {
    points = record { off = λ p h. ap some (one_place Text l h); said = λ d s. absurd (no_member Text l (record { draft = d; says = s })) };
    inside = λ p x. let y : r.place ≡ p = cc in omega (arith, place_inside Text l);
  }
  points-off (said e t) n = absurd (e n)

  pub refused-text : Refuses text r → (r.number ≡ 18 → ⊥) → Text text
  refused-text (off e l) n = absurd (n e)
  refused-text (said e t) n = t

  pub points-said : Text text → {o : Option ℕ} → ((d : Draft) → Says text d → o ≡ pointed_at d r) → PointsInside text r o
  points-said t f = record {
    points = record { off = λ p l. absurd (no_member Text l t); said = f };
    inside = λ p e. pointed-inside text t.draft r t.says (sym (f t.draft t.says) ∙ e);
  }

  -- ---- the line of it
  module _ {a : prelude.Option ℕ} (w : PointsInside text r (pointed_said a)) {before after : List ℕ} {n : ℕ} where
    pub wrote-nowhere : a ≡ None → Wrote (refusal_line r) before after 0 n → WrotePointed text r before after n
    unfolding pointed_line
    wrote-nowhere d g = record { place = none; points = subst (Points text r) (ap pointed_said d) w.points; wrote = g }

-- the pieces of the line in order
pub placed-from : (text : List ℕ) (r : Refusal) (p : ℕ) {line column : ℕ} → line ≡ line_of text p → column ≡ column_of text p → numbers_text (ascii "refused ") r.number (ascii " at ") r.place ++ (numbers_text (ascii " (line ") line (ascii " column ") column ++ ascii ")\n") ≡ pointed_line text r (some p)
unfolding pointed_line
placed-from text r p e d = rw (e, d)

-- ---- a sheet's text: the room is always enough
module _ (s : List ℕ) where
  text-refusal : {room : ℕ} → longest_text ≤ room → text_refusal most_nodes s room ≡ text_refusal most_nodes s longest_text
  unfolding text_refusal
  text-refusal {room} h = go (refusal_of most_nodes s) refl
    where
      last : (n : ℕ) → longest_text ≤ n → refusal_of most_nodes s ≡ none → unless (leb (length (text_of (rule_in s))) n) 9 (length (text_of (rule_in s))) ≡ none
      last n l e = unless-true 9 _ (le-leb _ n (omega (arith, text-short s e)))

      go : (o : Option Refusal) → refusal_of most_nodes s ≡ o → text_refusal most_nodes s room ≡ text_refusal most_nodes s longest_text
      go (some r) e = otherwise-some _ e ∙ sym (otherwise-some _ e)
      go none e = ap (λ (o : Option Refusal). refusal_of most_nodes s otherwise first (word_refusal s) 0 (variable_count s) otherwise o) (last room h e ∙ sym (last longest_text (omega arith) e))

  module _ {before after : List ℕ} (h : longest_text ≤ length before) {a : Result ℕ Refused} (w : Prints most_nodes s before a after) where
    fills : Fills (text_refusal most_nodes s longest_text) (text_of (rule_in s)) before a after
    fills = subst (λ (o : Option Refusal). Fills o (text_of (rule_in s)) before a after) (text-refusal h) w

    pub text-written : {n : ℕ} → a ≡ Ok n → Wrote (text_answer most_nodes s) before after 0 n × IsPrefixLen n after
    unfolding text_answer
    text-written d = let g = filled-written fills d in (g, counted g)

    pub text-refused : {q : Refused} → a ≡ Err q → (after ≡ before) × (refusal_line (told_as q) ≡ text_answer most_nodes s)
    unfolding text_answer
    text-refused d = filled-refused fills d
