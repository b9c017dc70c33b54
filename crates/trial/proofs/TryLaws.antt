-- The steps of the functions that try a reply's case: what each finds, and what it makes of the whole answer. Assumes nothing.
use Prim.Native.Nat.{ℕ, ◌≤◌, ◌<◌}
use mathlib.Core.Path.{◌≡◌, refl, sym, subst, ◌∙◌}
use mathlib.Core.Bool.{Bool, true, false, not}
use mathlib.Core.List.{List, ◌++◌}
use mathlib.Core.Option.{none, some}
use native.Mathlib.Omega.{arith}
use lib.IntN.{ℤ, pos}
use lib.ListN.{length, get_or, take, drop, replicate, length-take}
use lib.Seq.{get_or-take, length-take-le}
use Rattle.std.specs.Prelude.{Result, Ok, Err}
use Rattle.refusals.specs.declared.Cause.TheVariants.{Reply as Reply-cause}
use Rattle.refusals.specs.declared.Refused.{Refused}
use Rattle.trial.specs.declared.Replied.{Replied}
use Rattle.refusals.specs.Causes.{refusal_of as told_as}
use Rattle.lists.proofs.FirstLaws.{otherwise-none, otherwise-some}
use Rattle.numbers.specs.declared.Range.{Range}
use Rattle.numbers.specs.Ranges.{Narrow}
use Rattle.numbers.proofs.Bytes16.{dec16-narrow}
use Rattle.refusals.specs.declared.Refusal.{Refusal}
use Rattle.refusals.proofs.SaidLaws.{unless-true, unless-false}
use Rattle.meaning.specs.Rule.{domain_of, value_in}
use Rattle.meaning.specs.Cases.{holds}
use Rattle.meaning.proofs.Row.{zeros-begin, zeros-kept}
use Rattle.layout.specs.Limits.{most_variables, most_nodes}
use Rattle.layout.specs.Parts.{variable_count, variable_at, rule_in}
use Rattle.reading.specs.Cascade.{refusal_of}
use Rattle.reading.proofs.RuleLaws.{accepted-inside}
use Rattle.odometer.proofs.Domains.{domain-is}
use Rattle.evaluator.specs.Standing.{Standing}
use Rattle.cases.specs.Ready.{CaseFits}
use Rattle.grammar.specs.Begins.{Leaves}
use Rattle.replies.specs.Replies.{Reply}
use Rattle.replies.specs.Says.{Claims, SpellsCase}
use Rattle.replies.specs.Answers.{Answers, sat_first}
use Rattle.replies.proofs.SatLaws.{sat-exactly, unsat-exactly}
use Rattle.digits.specs.Ready.{Numbered}
use Rattle.digits.proofs.DigitLaws.{setting-based, digits_number}
use Rattle.digits.proofs.NumberLaws.{case-long}
use Rattle.trial.specs.declared.Replied.TheVariants.{Unsat, Fails}
use Rattle.trial.specs.Replies.{RepliesInto}
use Rattle.digits.specs.Ready.{CaseSpelled}
use Rattle.trial.specs.Trying.{is_in, values_refusal, case_refusal, NumbersReady}
use Rattle.trial.proofs.Answers.{values-case, replies-sheet, replies-11, replies-unsat, replies-case, replies-fails}

module _ (s : List ℕ) where
  -- ---- 12: the test of variable i's value
  pub value-test : (numbers : List ℤ) {i : ℕ} → i < variable_count s → {d : Range} {x : ℤ} {b : Bool} → d ≡ (variable_at s i).domain → x ≡ get_or numbers i (pos 0) → b ≡ is_in d x → b ≡ is_in (domain_of (rule_in s) i) (value_in (take (variable_count s) numbers) i)
  value-test numbers {i} l ed ex eb = eb ∙ rw (domain-is s i l ed, ex, get_or-take (variable_count s) numbers i (pos 0) l)

  -- ---- then 13: the values are in their domains, and the row stands as the evaluator asks
  pub standing : {numbers : List ℤ} → refusal_of most_nodes s ≡ none → NumbersReady s numbers → values_refusal s (take (variable_count s) numbers) ≡ none → Standing s numbers
  standing {numbers} a w e = record { accepted = a; present = values-case s _ (length-take-le (variable_count s) numbers w.present) e; zeros = w.zeros }

  module _ (c : List ℤ) where
    pub by_values : {r : Refusal} → some r ≡ values_refusal s c → some r ≡ case_refusal s c
    by_values d = sym (otherwise-some _ (sym d))

    module _ (d : none ≡ values_refusal s c) where
      pub by-holding : {b : Bool} → b ≡ holds (rule_in s) c → b ≡ true → some (record { number = 13; place = 0 }) ≡ case_refusal s c
      by-holding h t = sym (otherwise-none _ (sym d) ∙ unless-false {b = not (holds (rule_in s) c)} 13 0 (rw (sym h ∙ t)))

      pub by-failing : {b : Bool} → b ≡ holds (rule_in s) c → b ≡ false → none ≡ case_refusal s c
      by-failing h t = sym (otherwise-none _ (sym d) ∙ unless-true {b = not (holds (rule_in s) c)} 13 0 (rw (sym h ∙ t)))

-- ---- how far a reply fits
module _ (s reply : List ℕ) {v : ℕ} (ev : v ≡ variable_count s) {r : Result Unit ℕ} (h : Answers v reply r) where
  pub reached-whole : r ≡ Ok tt → Reply (variable_count s) reply
  reached-whole e = rw ev at (subst (Answers v reply) e h)

  pub reached-off : {p : ℕ} → r ≡ Err p → Leaves (Reply (variable_count s)) reply p
  reached-off e = rw ev at (subst (Answers v reply) e h)

-- ---- what a reply that fits says
module _ (s reply : List ℕ) (h : Reply (variable_count s) reply) {b : Bool} (e : b ≡ sat_first reply) where
  pub case-ready : refusal_of most_nodes s ≡ none → b ≡ true → CaseSpelled (variable_count s) reply
  case-ready a t =
      let w = (sat-exactly (variable_count s) reply h).0 (sym e ∙ t) in
      record { few = (accepted-inside s a).1; setting = w.0; spelled = w.1 }

  pub claims-unsat : b ≡ false → Claims reply
  claims-unsat t = (unsat-exactly (variable_count s) reply h).0 (sym e ∙ t)

-- ---- the row of a reply's case
module _ (s : List ℕ) (e : refusal_of most_nodes s ≡ none) {reply : List ℕ} {v : ℕ} (ev : v ≡ variable_count s) {numbers : List ℤ} (w : Numbered v reply (replicate most_variables (pos 0)) numbers) where
  pub row-case : SpellsCase (variable_count s) reply (take (variable_count s) numbers)
  row-case = rw ev at w.case

  enough : v ≤ length numbers
  enough = omega (arith, length-take v numbers, case-long w.case)

  pub row-ready : NumbersReady s numbers
  row-ready = record { present = omega (arith, enough); zeros = λ i l. (zeros-kept (zeros-begin v most_variables) w.others).zeros i (omega arith) }

  narrow_at : (i : ℕ) → i < v → Narrow (get_or numbers i (pos 0))
  narrow_at i l =
      let x = w.case in
      rw (get_or-take v numbers i (pos 0) l) at (rw (digits_number x i l) at (dec16-narrow (setting-based x.spelled i l).small))

  pub row_fits : {places : ℕ} → most_variables ≤ places → CaseFits numbers v places
  row_fits h = let k = (accepted-inside s e).1 in record { few = omega arith; present = enough; room = omega arith; narrow = narrow_at }

-- ---- the answer, and the room
module _ (s reply : List ℕ) (room : List ℤ) where
  pub into-sheet : {a : Result Replied Refused} {e : Refused} → a ≡ Err e → refusal_of most_nodes s ≡ some (told_as e) → RepliesInto most_nodes s reply room a room
  into-sheet p d = rw p (record { answer = replies-sheet s reply d; room = refl })

  module _ (e : refusal_of most_nodes s ≡ none) where
    pub into-11 : {p : ℕ} → Leaves (Reply (variable_count s)) reply p → RepliesInto most_nodes s reply room (Err (record { cause = Reply-cause; place = p })) room
    into-11 h = record { answer = replies-11 s reply e h; room = refl }

    pub into-unsat : Claims reply → RepliesInto most_nodes s reply room (Ok Unsat) room
    into-unsat f = record { answer = replies-unsat s reply e f; room = refl }

    module _ {c : List ℤ} (x : SpellsCase (variable_count s) reply c) where
      pub into-case : {a : Result Replied Refused} {e : Refused} → a ≡ Err e → some (told_as e) ≡ case_refusal s c → RepliesInto most_nodes s reply room a room
      into-case p d = rw p (record { answer = replies-case s reply e x (sym d); room = refl })

      pub into-fails : none ≡ case_refusal s c → {after : List ℤ} → after ≡ c ++ drop (variable_count s) room → RepliesInto most_nodes s reply room (Ok Fails) after
      into-fails d g = record { answer = replies-fails s reply e x (sym d); room = (c, x, g) }
