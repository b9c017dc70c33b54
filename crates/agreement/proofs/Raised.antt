-- A raised limit of nodes changes no answer but the refusals that the lower limit was the cause of. Assumes nothing.
use Prim.Native.Nat.{ℕ, ◌≤◌, ◌<◌}
use mathlib.Core.Path.{◌≡◌, refl, sym, ◌∙◌}
use mathlib.Core.Bool.{Bool, true, false, true≢false}
use mathlib.Core.Logic.{◌⊎◌, inl, inr}
use mathlib.Core.List.{List}
use mathlib.Core.Option.{Option, none, some}
use native.Mathlib.Decide.{ℕ_discrete, dec_lt}
use native.Mathlib.Omega.{arith}
use lib.IntN.{ℤ}
use lib.ListN.{length}
use denote.Ref.{Bor}
use Rattle.std.specs.Prelude.{Result}
use Rattle.refusals.specs.declared.Refused.{Refused}
use Rattle.lists.proofs.FirstLaws.{otherwise-none, otherwise-some}
use Rattle.refusals.specs.declared.Refusal.{Refusal}
use Rattle.refusals.specs.Rows.{Exactly}
use Rattle.refusals.proofs.RowLaws.{exactly-instead}
use Rattle.layout.specs.Limits.{sheet_bytes}
use Rattle.layout.specs.Parts.{edition, node_count}
use Rattle.blocks.specs.Early.{length_right, early}
use Rattle.blocks.proofs.EarlyLaws.{length-right, right-length, length-zero, length_part, wrong-length, early-length, early-right}
use Rattle.header.specs.Header.{counts_right, outside_clear, header}
use Rattle.header.proofs.HeaderLaws.{at-0, counts-at, counts_of, edition-refuses, counts-refuse, outside-refuses, tests-pass}
use Rattle.reading.specs.Rows.{sheet_rows, Accepted}
use Rattle.reading.specs.Cascade.{refusal_of, rule_of}
use Rattle.reading.specs.Name.{NamePart}
use Rattle.reading.proofs.Exact.{sheet-exactly}
use Rattle.cases.specs.declared.Verdict.{Verdict}
use Rattle.cases.specs.declared.Tallied.{Tallied}
use Rattle.cases.specs.Checks.{try_refusal, check_refusal, Checks}
use Rattle.cases.specs.Tallies.{Tallies}
use Rattle.wording.specs.Form.{Form}
use Rattle.writer.specs.Writes.{script_refusal, Writes}
use Rattle.printer.specs.Prints.{text_refusal, Prints}
use Rattle.trial.specs.declared.Replied.{Replied}
use Rattle.trial.specs.Replies.{Replies, RepliesInto}
use Rattle.trial.specs.Digits.{DigitsGiven, DigitsPart, DigitsSpan}
use Rattle.capi.specs.Codes.{CheckCodes, ScriptCodes, TextCodes, ReplyCodes, DigitsCodes}
use Rattle.answers.specs.declared.Request.{Request}
use Rattle.answers.specs.declared.Request.TheVariants.{Read, Script, Ask, Check, Tally}
use Rattle.answers.specs.Answers.{script_answer, answer_text}
use Rattle.answers.specs.Replies.{WroteReply}
use Rattle.agreement.specs.Raised as promise
use Rattle.agreement.specs.Raised.{SameAnswers, OverLimit, long, nodes}

-- ---- the refusal
module _ (old new : ℕ) (l : old ≤ new) (s : List ℕ) where
  -- refusals 1 and 2
  early-raised : (early new s ≡ early old s) ⊎ ((sheet_bytes old < length s) × (length_right old (length s) ≡ false))
  early-raised = go (length_right old (length s)) refl
    where
      wrong : length_right old (length s) ≡ false → length_right new (length s) ≡ false → early new s ≡ early old s
      wrong e d = early-length new s d ∙ sym (early-length old s e)

      go : (b : Bool) → length_right old (length s) ≡ b → (early new s ≡ early old s) ⊎ ((sheet_bytes old < length s) × (length_right old (length s) ≡ false))
      go true e =
          let w = right-length old (length s) e in
          inl (early-right new s (length-right new (length s) w.0 w.1 (omega (arith, w.2, l))) ∙ sym (early-right old s e))
      go false e = elim (wrong-length old (length s) e) [
        | inl z ↦ inl (wrong e (length-zero new (length s) z))
        | inr w ↦ elim w [ inl p ↦ inl (wrong e (length_part new (length s) p)) | inr g ↦ inr (g, e) ]
      ]

  -- N and V are within their limits at both, where N is not over the old one
  counts-raised : counts_right old s ≡ true → counts_right new s ≡ true
  counts-raised e = let c = counts-at old s e in counts_of new s (record { some-node = c.some-node; most = omega (arith, c.most, l); few = c.few; size = c.size })

  counts-lowered : (old < node_count s → ⊥) → counts_right new s ≡ true → counts_right old s ≡ true
  counts-lowered g e = let c = counts-at new s e in counts_of old s (record { some-node = c.some-node; most = omega arith; few = c.few; size = c.size })

  -- refusals 3 and 4
  module _ (h : edition s ≡ 1) where
    counts-passed : counts_right old s ≡ true → (b : Bool) → outside_clear s ≡ b → header new s ≡ header old s
    counts-passed c true o = tests-pass new s h (counts-raised c) o ∙ sym (tests-pass old s h c o)
    counts-passed c false o = outside-refuses new s h o ∙ sym (outside-refuses old s h o)

    counts-refused : counts_right old s ≡ false → (old < node_count s → ⊥) → (b : Bool) → counts_right new s ≡ b → header new s ≡ header old s
    counts-refused c g true d = absurd (true≢false (sym (counts-lowered g d) ∙ c))
    counts-refused c g false d = counts-refuse new s h d ∙ sym (counts-refuse old s h c)

    by-counts : (b : Bool) → counts_right old s ≡ b → Dec (old < node_count s) → (header new s ≡ header old s) ⊎ ((old < node_count s) × (header old s ≡ some (at-0 4)))
    by-counts true c d = inl (counts-passed c (outside_clear s) refl)
    by-counts false c (yes g) = inr (g, counts-refuse old s h c)
    by-counts false c (no g) = inl (counts-refused c g (counts_right new s) refl)

  header-raised : (header new s ≡ header old s) ⊎ ((old < node_count s) × (header old s ≡ some (at-0 4)))
  header-raised = go (ℕ_discrete (edition s) 1)
    where
      go : Dec (edition s ≡ 1) → (header new s ≡ header old s) ⊎ ((old < node_count s) × (header old s ≡ some (at-0 4)))
      go (no h) = inl (edition-refuses new s h ∙ sym (edition-refuses old s h))
      go (yes h) = by-counts h (counts_right old s) refl (dec_lt old (node_count s))

  pub refusal-raised : (refusal_of new s ≡ refusal_of old s) ⊎ OverLimit old s
  unfolding refusal_of
  refusal-raised = go early-raised (early old s) refl header-raised
    where
      go : (early new s ≡ early old s) ⊎ ((sheet_bytes old < length s) × (length_right old (length s) ≡ false)) → (o : Option Refusal) → early old s ≡ o
          → (header new s ≡ header old s) ⊎ ((old < node_count s) × (header old s ≡ some (at-0 4))) → (refusal_of new s ≡ refusal_of old s) ⊎ OverLimit old s
      go (inr w) o p b = inr (long w.0 (otherwise-some _ (early-length old s w.1)))
      go (inl a) (some x) p b = inl (otherwise-some _ (a ∙ p) ∙ sym (otherwise-some _ p))
      go (inl a) none p (inl b) = inl (rw (a, b))
      go (inl a) none p (inr w) = inr (nodes w.0 (otherwise-none _ p ∙ otherwise-some _ w.1))

-- ---- a sheet with one refusal at two limits: what a call answers at the one it answers at the other
module _ (a b : ℕ) (s : List ℕ) (e : refusal_of a s ≡ refusal_of b s) where
  try-as : try_refusal a s ≡ try_refusal b s
  try-as = rw e

  check-as : (room : ℕ) → check_refusal a s room ≡ check_refusal b s room
  unfolding check_refusal
  check-as room = rw e

  script-as : (f : Form) (room : ℕ) → script_refusal a f s room ≡ script_refusal b f s room
  unfolding script_refusal
  script-as f room = rw e

  checks-as : {before after : List ℤ} {r : Result Verdict Refused} → Checks a s before r after → Checks b s before r after
  checks-as {before} h = record { answer = rw (← check-as (length before)) h.answer; room = rw (← check-as (length before)) h.room }

  tallies-as : {r : Tallied} → Tallies a s r → Tallies b s r
  tallies-as h = record { answer = rw (← e) h.answer; held-count = rw (← e) h.held-count; failed-count = rw (← e) h.failed-count }

  writes_as : {f : Form} {before after : List ℕ} {r : Result ℕ Refused} → Writes a f s before r after → Writes b f s before r after
  writes_as {f} {before} h = record { answer = rw (← script-as f (length before)) h.answer; room = rw (← script-as f (length before)) h.room }

  text-as : (room : ℕ) → text_refusal a s room ≡ text_refusal b s room
  unfolding text_refusal
  text-as room = rw e

  prints-as : {before after : List ℕ} {r : Result ℕ Refused} → Prints a s before r after → Prints b s before r after
  prints-as {before} h = rw (← text-as (length before)) h

  check-codes-as : {before after : List ℤ} {r : ℕ} → CheckCodes a s before r after → CheckCodes b s before r after
  check-codes-as {before} h = record { code = rw (← check-as (length before)) h.code; room = rw (← check-as (length before)) h.room }

  script-codes-as : {f : Form} {before after : List ℕ} {r : ℕ} → ScriptCodes a f s before r after → ScriptCodes b f s before r after
  script-codes-as {f} {before} h = record { code = rw (← script-as f (length before)) h.code; room = rw (← script-as f (length before)) h.room }

  text-codes-as : {before after : List ℕ} {r : ℕ} → TextCodes a s before r after → TextCodes b s before r after
  text-codes-as {before} h = record { code = rw (← text-as (length before)) h.code; room = rw (← text-as (length before)) h.room }

  -- replies go by the tables of rows
  same-table : Exactly (sheet_rows b s) (refusal_of a s)
  same-table = rw e (sheet-exactly b s)

  replies-as : {reply : List ℕ} {r : Result Replied Refused} → Replies a s reply r → Replies b s reply r
  replies-as h = record { refusals = exactly-instead (sheet-exactly a s) same-table _ h.refusals; told = h.told }

  into-as : {reply : List ℕ} {before after : List ℤ} {r : Result Replied Refused} → RepliesInto a s reply before r after → RepliesInto b s reply before r after
  into-as h = record { answer = replies-as h.answer; room = h.room }

  given-as : {reply : List ℕ} {i : ℕ} → DigitsGiven a s reply i → DigitsGiven b s reply i
  given-as h = (replies-as h.0, h.1)

  reply-codes-as : {reply : List ℕ} {r : ℕ} → ReplyCodes a s reply r → ReplyCodes b s reply r
  reply-codes-as h = record { answer = h.answer; replies = replies-as h.replies; code = h.code }

  wrote_as : {reply before after : List ℕ} {n : ℕ} → WroteReply a s reply before after n → WroteReply b s reply before after n
  wrote_as h = record { answer = h.answer; replies = replies-as h.replies; case = h.case; spelled = h.spelled; wrote = h.wrote }

-- digits are absent at the one limit where they are at the other
module _ (a b : ℕ) (s : List ℕ) (e : refusal_of a s ≡ refusal_of b s) where
  digits-as : {reply part : Bor (List ℕ)} {i : ℕ} → DigitsPart a s reply i part → DigitsPart b s reply i part
  digits-as h = record { given = λ g. h.given (given-as b a s (sym e) g); absent = λ f. h.absent (λ g. f (given-as a b s e g)) }

  span-as : {reply : List ℕ} {i start size : ℕ} → DigitsSpan a s reply i start size → DigitsSpan b s reply i start size
  span-as h = record { given = λ g. h.given (given-as b a s (sym e) g); absent = λ f. h.absent (λ g. f (given-as a b s e g)) }

  digits-codes-as : {reply : List ℕ} {i r : ℕ} → DigitsCodes a s reply i r → DigitsCodes b s reply i r
  digits-codes-as h = record { given = λ g. h.given (given-as b a s (sym e) g); absent = λ f. h.absent (λ g. f (given-as a b s e g)) }

  name-as : {sheet part : Bor (List ℕ)} {i : ℕ} → sheet.now ≡ s → NamePart a sheet i part → NamePart b sheet i part
  name-as p h = record { given = λ g. h.given (rw (p, e) (rw p at g.0), g.1); absent = λ f. h.absent (λ g. f (rw (p, ← e) (rw p at g.0), g.1)) }

-- ---- so every call
module _ (old new : ℕ) (s : List ℕ) (e : refusal_of new s ≡ refusal_of old s) where
  rule-same : rule_of new s ≡ rule_of old s
  unfolding rule_of
  rule-same = rw (e, rule_of)

  text_same : (q : Request) → answer_text new q s ≡ answer_text old q s
  unfolding answer_text script_answer
  text_same Read = rw e
  text_same Script = rw e
  text_same Ask = rw e
  text_same Check = rw e
  text_same Tally = rw e

  same-answers : SameAnswers old new s
  same-answers =
      let d = sym e in
      record {
        rule = rule-same;
        read = e;
        name = λ sheet part i p. (name-as old new s d p, name-as new old s e p);
        check = λ before after r. (checks-as old new s d, checks-as new old s e);
        tally = λ r. (tallies-as old new s d, tallies-as new old s e);
        write-script = λ f before after r. (writes_as old new s d, writes_as new old s e);
        print = λ before after r. (prints-as old new s d, prints-as new old s e);
        reply = λ reply r. (replies-as old new s d, replies-as new old s e);
        reply-into = λ reply before after r. (into-as old new s d, into-as new old s e);
        digits = λ reply part i. (digits-as old new s d, digits-as new old s e);
        digits-span = λ reply i start size. (span-as old new s d, span-as new old s e);
        ragwashin-read = rw e;
        ragwashin-name = λ i. rw e;
        ragwashin-check = λ before after r. (check-codes-as old new s d, check-codes-as new old s e);
        ragwashin-tally = rw e;
        ragwashin-script = λ f before after r. (script-codes-as old new s d, script-codes-as new old s e);
        ragwashin-text = λ before after r. (text-codes-as old new s d, text-codes-as new old s e);
        ragwashin-reply = λ reply r. (reply-codes-as old new s d, reply-codes-as new old s e);
        ragwashin-digits = λ reply i r. (digits-codes-as old new s d, digits-codes-as new old s e);
        answers = text_same;
        reply-line = λ reply before after n. (wrote_as old new s d, wrote_as new old s e);
      }

pub only-over-limit : promise.OnlyOverLimit
only-over-limit old new l s = elim (refusal-raised old new l s) [ inl e ↦ inl (same-answers old new s e) | inr w ↦ inr w ]

pub accepted-kept : promise.AcceptedKept
accepted-kept old new l s h = go (refusal-raised old new l s)
  where
    accepts : refusal_of old s ≡ none
    accepts = (sheet-exactly old s).passed.1 h

    over : OverLimit old s → ⊥
    over (long g d) = let z : ◌≡◌ {A = ℕ} 0 1 = cc (accepts, d) in omega arith
    over (nodes g d) = let z : ◌≡◌ {A = ℕ} 0 1 = cc (accepts, d) in omega arith

    go : (refusal_of new s ≡ refusal_of old s) ⊎ OverLimit old s → Accepted new s × SameAnswers old new s
    go (inl e) = ((sheet-exactly new s).passed.0 (e ∙ accepts), same-answers old new s e)
    go (inr w) = absurd (over w)
