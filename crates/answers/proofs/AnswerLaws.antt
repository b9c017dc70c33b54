-- The answers from what the sheet's functions say: the refusal's line, the script, the check's line and the tally's. Assumes nothing.
use Prim.Native.Nat.{ℕ, ◌+◌, ◌≤◌}
use mathlib.Core.Path.{◌≡◌, refl, sym, ap, ◌∙◌}
use mathlib.Core.Bool.{Bool, true, false, true≢false}
use mathlib.Core.List.{List, ◌++◌}
use mathlib.Core.Option.{Option, none, some, none-ne-some, some-ne-none}
use native.Mathlib.Nat.{zero-add}
use native.Mathlib.Omega.{arith}
use lib.IntN.{ℤ, pos}
use lib.ListN.{length, take, drop, replicate, length-append}
use lib.Seq.{take_at, get_or-take, length-take-le}
use Rattle.std.specs.Prelude.{Result, Ok, Err}
use Rattle.refusals.specs.declared.Refused.{Refused}
use Rattle.refusals.specs.Causes.{refusal_of as told_as}
use Rattle.cases.specs.declared.Verdict.{Verdict}
use Rattle.cases.specs.declared.Verdict.TheVariants.{Holds, Fails}
use Rattle.io.specs.Counts.{IsPrefixLen}
use Rattle.lists.specs.Ascii.{ascii}
use Rattle.lists.proofs.FirstLaws.{otherwise-some}
use Rattle.refusals.specs.declared.Refusal.{Refusal}
use Rattle.numbers.specs.Bytes.{Bytes}
use Rattle.meaning.specs.Cases.{first_failure, held, failed}
use Rattle.meaning.proofs.Failures.{first-fails}
use Rattle.layout.specs.Limits.{most_variables, most_nodes}
use Rattle.layout.specs.Parts.{variable_count, rule_in}
use Rattle.layout.proofs.PartLaws.{variable-total}
use Rattle.refusals.specs.Said.{said_of}
use Rattle.refusals.proofs.AfterLaws.{passes}
use Rattle.reading.specs.Cascade.{refusal_of}
use Rattle.odometer.proofs.Domains.{case-narrow}
use Rattle.cases.specs.declared.Tallied.{Tallied}
use Rattle.cases.specs.Checks.{try_refusal, check_refusal, checked_said, verdict, room_after, Checks}
use Rattle.cases.specs.Tallies.{Tallies}
use Rattle.cases.proofs.TryLaws.{accepted, tried-inside}
use Rattle.wording.specs.Form.{sixteen}
use Rattle.wording.specs.Script.{script}
use Rattle.room.specs.Room.{within, over, Wrote}
use Rattle.room.proofs.RoomLaws.{wrote_as}
use Rattle.room.specs.Written.{written_said, written_verdict, written_room, Fills}
use Rattle.writer.specs.Writes.{enough_room, script_refusal, Writes}
use Rattle.writer.proofs.ScriptLaws.{script-short}
use Rattle.phrases.specs.Phrases.{numbers_line, refusal_line}
use Rattle.phrases.specs.Pieces.{Settled, fails_line}
use Rattle.phrases.proofs.NameValueLaws.{name_values-are}
use Rattle.answers.specs.Answers.{answered, failing, check_line, script_answer, answer_text}
use Rattle.answers.specs.declared.Request.{Request}
use Rattle.answers.specs.declared.Request.TheVariants.{Read, Script, Ask, Check, Tally}

-- ---- a text at the room's front: its bytes are counted
pub counted : {t before after : List ℕ} {r : ℕ} → Wrote t before after 0 r → IsPrefixLen r after
unfolding within
counted {t} {before} {after} {r} w =
    let e : length after ≡ length (t ++ drop (0 + length t) before) = ap length w.room in
    let h : r ≤ length after = omega (arith, w.place, length-append t (drop (0 + length t) before)) in
    (h, sym (length-take-le r after h))

at_front : {t before after : List ℕ} {n : ℕ} → n ≡ length t → after ≡ over t before → Wrote t before after 0 n
unfolding over within
at_front e g = record { place = e ∙ sym (zero-add _); room = g ∙ rw zero-add }

-- ---- refused or not
abbrev refusal_in : {A : Type 0} → Option Refusal × A → Option Refusal
refusal_in x = x.0

told : {o : Option Refusal} {t : List ℕ} → o ≡ none → t ≡ answered o t
unfolding answered
told e = rw e

refused : {o : Option Refusal} (t : List ℕ) {r : Refusal} → o ≡ some r → refusal_line r ≡ answered o t
unfolding answered
refused t e = rw e

-- a call that writes the text t to the room's front, unless it refuses
module _ {o : Option Refusal} {t before after : List ℕ} {a : Result ℕ Refused} (w : Fills o t before a after) where
  pub filled-written : {n : ℕ} → a ≡ Ok n → Wrote (answered o t) before after 0 n
  filled-written {n} d = go o refl (sym (ap written_said d) ∙ w.answer) w.room
    where
      go : (x : Option Refusal) → o ≡ x → (none, n) ≡ written_verdict x t → after ≡ written_room x t before → Wrote (answered o t) before after 0 n
      go none e p g = wrote_as (at_front (ap (λ (y : Option Refusal × ℕ). y.1) p) g) (told e)
      go (some r) e p g = absurd (none-ne-some r (ap refusal_in p))

  pub filled-refused : {q : Refused} → a ≡ Err q → (after ≡ before) × (refusal_line (told_as q) ≡ answered o t)
  filled-refused {q} d = go o refl (sym (ap written_said d) ∙ w.answer) w.room
    where
      go : (x : Option Refusal) → o ≡ x → (some (told_as q), 0) ≡ written_verdict x t → after ≡ written_room x t before → (after ≡ before) × (refusal_line (told_as q) ≡ answered o t)
      go none e p g = absurd (some-ne-none (told_as q) (ap refusal_in p))
      go (some r) e p g = (g, refused _ (e ∙ sym (ap refusal_in p)))

-- the same text over a room that is the same
pub wrote-from : {t u before same after : List ℕ} {at r : ℕ} → (same ≡ before) × (t ≡ u) → Wrote t same after at r → Wrote u before after at r
wrote-from e w = rw (← e.0, ← e.1) w

pub by-request : (s : List ℕ) {q k : Request} {before after : List ℕ} {r : ℕ} → q ≡ k → Wrote (answer_text most_nodes k s) before after 0 r → Wrote (answer_text most_nodes q s) before after 0 r × IsPrefixLen r after
by-request s e w = (rw e w, counted w)

module _ (s : List ℕ) where
  -- ---- the reading
  module _ {a : Result Unit Refused} (e : said_of a ≡ refusal_of most_nodes s) where
    pub read-accepted : a ≡ Ok tt → ascii "accepted\n" ≡ answer_text most_nodes Read s
    unfolding answer_text
    read-accepted d = told (sym e ∙ ap said_of d)

    pub read-refused : {q : Refused} → a ≡ Err q → refusal_line (told_as q) ≡ answer_text most_nodes Read s
    unfolding answer_text
    read-refused d = refused _ (sym e ∙ ap said_of d)

  -- ---- the script: `enough_room` bytes are always enough
  module _ (models : Bool) {before after : List ℕ} (h : enough_room ≤ length before) {a : Result ℕ Refused} (w : Writes most_nodes (sixteen models) s before a after) where
    script-refusal : script_refusal most_nodes (sixteen models) s (length before) ≡ refusal_of most_nodes s
    unfolding script_refusal
    script-refusal = go (refusal_of most_nodes s) refl
      where
        go : (o : Option Refusal) → refusal_of most_nodes s ≡ o → script_refusal most_nodes (sixteen models) s (length before) ≡ refusal_of most_nodes s
        go (some r) e = otherwise-some _ e ∙ sym e
        go none e = passes (length (script (sixteen models) (rule_in s))) (length before) 9 (length (script (sixteen models) (rule_in s))) e (omega (arith, script-short models s e)) ∙ sym e

    script-fills : Fills (refusal_of most_nodes s) (script (sixteen models) (rule_in s)) before a after
    script-fills = record { answer = w.answer ∙ rw script-refusal; room = w.room ∙ rw script-refusal }

    pub script-written : {n : ℕ} → a ≡ Ok n → Wrote (script_answer most_nodes (sixteen models) s) before after 0 n
    unfolding script_answer
    script-written d = filled-written script-fills d

    pub script-refused : {q : Refused} → a ≡ Err q → (after ≡ before) × (refusal_line (told_as q) ≡ script_answer most_nodes (sixteen models) s)
    unfolding script_answer
    script-refused d = filled-refused script-fills d

  -- the two requests for a script
  pub script-request : {before after : List ℕ} {n : ℕ} → Wrote (script_answer most_nodes (sixteen false) s) before after 0 n → Wrote (answer_text most_nodes Script s) before after 0 n
  unfolding answer_text
  script-request w = w

  pub ask-request : {before after : List ℕ} {n : ℕ} → Wrote (script_answer most_nodes (sixteen true) s) before after 0 n → Wrote (answer_text most_nodes Ask s) before after 0 n
  unfolding answer_text
  ask-request w = w

  -- ---- the check: a row of a number for each variable is always enough
  case-length : {c : List ℤ} → first_failure (rule_in s) ≡ some c → length c ≡ variable_count s
  case-length q = (first-fails (rule_in s) q).0.all ∙ variable-total s

  module _ {after : List ℤ} {a : Result Verdict Refused} (w : Checks most_nodes s (replicate most_variables (pos 0)) a after) where
    check-refusal : check_refusal most_nodes s most_variables ≡ try_refusal most_nodes s
    unfolding check_refusal
    check-refusal = go (try_refusal most_nodes s) refl
      where
        go : (o : Option Refusal) → try_refusal most_nodes s ≡ o → check_refusal most_nodes s most_variables ≡ try_refusal most_nodes s
        go (some r) e = otherwise-some _ e ∙ sym e
        go none e = passes (variable_count s) most_variables 9 (variable_count s) e (tried-inside s e).1 ∙ sym e

    -- what the check says, by the refusal and the first failing case
    said : {t : Result Verdict Refused} → a ≡ t → checked_said t ≡ verdict (try_refusal most_nodes s) (first_failure (rule_in s))
    said d = sym (ap checked_said d) ∙ w.answer ∙ rw check-refusal

    row_is : after ≡ room_after (try_refusal most_nodes s) (first_failure (rule_in s)) (replicate most_variables (pos 0))
    row_is = w.room ∙ rw check-refusal

    pub check-refused : {q : Refused} → a ≡ Err q → refusal_line (told_as q) ≡ answer_text most_nodes Check s
    unfolding answer_text
    check-refused {q} d = go (try_refusal most_nodes s) (first_failure (rule_in s)) refl (said d)
      where
        go : (o : Option Refusal) (f : Option (List ℤ)) → try_refusal most_nodes s ≡ o → (some (told_as q), false) ≡ verdict o f → refusal_line (told_as q) ≡ answered (try_refusal most_nodes s) (check_line (rule_in s) (first_failure (rule_in s)))
        go none f e p = absurd (some-ne-none (told_as q) (ap refusal_in p))
        go (some x) f e p = refused _ (e ∙ sym (ap refusal_in p))

    pub check-holds : a ≡ Ok Holds → ascii "holds\n" ≡ answer_text most_nodes Check s
    unfolding answer_text check_line
    check-holds d = go (try_refusal most_nodes s) (first_failure (rule_in s)) refl refl (said d)
      where
        go : (o : Option Refusal) (f : Option (List ℤ)) → try_refusal most_nodes s ≡ o → first_failure (rule_in s) ≡ f → (none, false) ≡ verdict o f → ascii "holds\n" ≡ answered (try_refusal most_nodes s) (check_line (rule_in s) (first_failure (rule_in s)))
        go none none e q p = ap (check_line (rule_in s)) (sym q) ∙ told e
        go none (some c) e q p = absurd (true≢false (sym (ap (λ (x : Option Refusal × Bool). x.1) p)))
        go (some r) f e q p = absurd (none-ne-some r (ap refusal_in p))

    -- the first failing case, where the check fails
    record Found : Type 0 where
      case : List ℤ
      tried : try_refusal most_nodes s ≡ none
      first : first_failure (rule_in s) ≡ some case

    found : a ≡ Ok Fails → Found
    found d = go (try_refusal most_nodes s) (first_failure (rule_in s)) refl refl (said d)
      where
        go : (o : Option Refusal) (f : Option (List ℤ)) → try_refusal most_nodes s ≡ o → first_failure (rule_in s) ≡ f → (none, true) ≡ verdict o f → Found
        go none none e q p = absurd (true≢false (ap (λ (x : Option Refusal × Bool). x.1) p))
        go none (some c) e q p = record { case = c; tried = e; first = q }
        go (some r) f e q p = absurd (none-ne-some r (ap refusal_in p))

    module _ (d : a ≡ Ok Fails) where
      case-is : take (variable_count s) after ≡ (found d).case
      case-is =
          let k = found d in
          let c = k.case in
          let g : after ≡ c ++ drop (length c) (replicate most_variables (pos 0)) = row_is ∙ rw (k.tried, k.first) in
          ap (take (variable_count s)) g ∙ take_at c _ (variable_count s) (case-length k.first)

      pub settled : Bytes s → Settled s after
      settled b =
          let k = found d in
          record {
            accepted = accepted s k.tried;
            narrow = λ i h. rw (← get_or-take (variable_count s) after i (pos 0) h, case-is) (case-narrow s b (first-fails (rule_in s) k.first).0 i);
          }

      pub check-fails : fails_line s after ≡ answer_text most_nodes Check s
      unfolding answer_text failing check_line fails_line
      check-fails =
          let k = found d in
          ap (λ (l : List ℕ). ascii "fails" ++ l ++ ascii "\n") (name_values-are s after case-is (case-length k.first)) ∙ ap (check_line (rule_in s)) (sym k.first) ∙ told k.tried

  -- ---- the tally
  module _ {t : Tallied} (w : Tallies most_nodes s t) where
    pub tally-accepted : t.reading ≡ Ok tt → numbers_line (ascii "held ") t.held (ascii " failed ") t.failed ≡ answer_text most_nodes Tally s
    unfolding answer_text
    tally-accepted d =
        let e : try_refusal most_nodes s ≡ none = sym w.answer ∙ ap said_of d in
        let h : t.held ≡ held (rule_in s) = w.held-count ∙ rw e in
        let f : t.failed ≡ failed (rule_in s) = w.failed-count ∙ rw e in
        rw (h, f) (told e)

    pub tally-refused : {q : Refused} → t.reading ≡ Err q → refusal_line (told_as q) ≡ answer_text most_nodes Tally s
    unfolding answer_text
    tally-refused d = refused _ (sym w.answer ∙ ap said_of d)
