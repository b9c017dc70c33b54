-- What a reply is answered, in each case that there is, and that there is no other. Assumes nothing.
use Prim.Native.Nat.{ℕ}
use mathlib.Core.Path.{◌≡◌, refl, sym, ◌∙◌}
use mathlib.Core.Logic.{◌⊎◌, inl, inr, ⊎_elim}
use mathlib.Core.Bool.{not}
use mathlib.Core.List.{List}
use mathlib.Core.Option.{Option, none, some}
use native.Mathlib.Omega.{arith}
use borrow.Author.Tests.{not-true}
use lib.IntN.{ℤ}
use lib.ListN.{length}
use Rattle.refusals.specs.Rows.{Exactly}
use Rattle.trial.specs.Rows.{reply_rows}
use Rattle.std.specs.Prelude.{Result, Ok, Err}
use Rattle.refusals.specs.declared.Cause.TheVariants.{Reply as Reply-cause}
use Rattle.refusals.specs.declared.Refused.{Refused}
use Rattle.refusals.specs.Causes.{refusal_of as told_as}
use Rattle.lists.proofs.FirstLaws.{neither, otherwise-none, first-none, none_first}
use Rattle.refusals.specs.declared.Refusal.{Refusal}
use Rattle.refusals.proofs.SaidLaws.{unless-none, unless-true}
use Rattle.meaning.specs.Rule.{Case, domain_of, value_in}
use Rattle.meaning.specs.Cases.{holds, Failing}
use Rattle.meaning.proofs.Listed.{in-every}
use Rattle.layout.specs.Parts.{variable_count, rule_in}
use Rattle.layout.proofs.PartLaws.{variable-total}
use Rattle.refusals.proofs.RowLaws.{exactly-once}
use Rattle.layout.specs.Limits.{most_nodes}
use Rattle.reading.specs.Cascade.{refusal_of}
use Rattle.grammar.specs.Begins.{Leaves}
use Rattle.grammar.specs.Stops.{derive, may_end, stops}
use Rattle.grammar.proofs.MachineLaws.{accepts-exactly, stops-exactly}
use Rattle.grammar.proofs.PatternLaws.{pattern-reads}
use Rattle.replies.specs.Replies.{reply_for, Reply}
use Rattle.replies.specs.Says.{Claims, SpellsCase, Says, unsat, sat}
use Rattle.replies.proofs.DefiniteLaws.{definite-for}
use Rattle.replies.proofs.SaysLaws.{reply-says}
use Rattle.replies.proofs.SatLaws.{not-both}
use Rattle.digits.proofs.NumberLaws.{case-long}
use Rattle.trial.specs.declared.Replied.{Replied}
use Rattle.trial.specs.declared.Replied.TheVariants.{Unsat, Fails}
use Rattle.trial.specs.Replies.{replied_said, Replies}
use Rattle.trial.specs.Trying.{value_refusal, values_refusal, case_refusal}
use Rattle.trial.proofs.RowLaws.{decides-in, refused-sheet, refused-11, claimed, spelled-case}

-- ---- no row applies exactly where the case fails
module _ (s : List ℕ) (c : List ℤ) where
  pub values-case : length c ≡ variable_count s → values_refusal s c ≡ none → Case (rule_in s) c
  unfolding values_refusal
  values-case long e = record {
    all = long ∙ sym (variable-total s);
    each = λ i l. (decides-in (domain_of (rule_in s) i) (value_in c i)).0 (unless-none _ 12 i (first-none (value_refusal s c) (variable_count s) 0 e i (omega arith) (omega arith)));
  }

  case-values : Case (rule_in s) c → values_refusal s c ≡ none
  unfolding values_refusal
  case-values h = none_first (value_refusal s c) (variable_count s) 0 (λ i l m. unless-true 12 i ((decides-in (domain_of (rule_in s) i) (value_in c i)).1 (in-every h i)))

  silent-failing : length c ≡ variable_count s → case_refusal s c ≡ none → Failing (rule_in s) c
  silent-failing long e = let w = neither (values_refusal s c) _ e in (values-case long w.0, not-true (holds (rule_in s) c) (unless-none _ 13 0 w.1))

  failing-silent : Failing (rule_in s) c → case_refusal s c ≡ none
  failing-silent f = otherwise-none _ (case-values f.0) ∙ unless-true {b = not (holds (rule_in s) c)} 13 0 (rw f.1)

-- ---- the answer
module _ (s reply : List ℕ) where
  pub replies-sheet : {e : Refused} → refusal_of most_nodes s ≡ some (told_as e) → Replies most_nodes s reply (Err e)
  replies-sheet e = record { refusals = refused-sheet s reply e; told = tt }

  module _ (e : refusal_of most_nodes s ≡ none) where
    pub replies-11 : {p : ℕ} → Leaves (Reply (variable_count s)) reply p → Replies most_nodes s reply (Err (record { cause = Reply-cause; place = p }))
    replies-11 h = record { refusals = refused-11 s reply e h; told = tt }

    pub replies-unsat : Claims reply → Replies most_nodes s reply (Ok Unsat)
    replies-unsat f = record { refusals = claimed s reply e f; told = f }

    module _ {c : List ℤ} (x : SpellsCase (variable_count s) reply c) where
      pub replies-case : {e : Refused} → case_refusal s c ≡ some (told_as e) → Replies most_nodes s reply (Err e)
      replies-case d = record { refusals = rw d at (spelled-case s reply e x); told = tt }

      pub replies-fails : case_refusal s c ≡ none → Replies most_nodes s reply (Ok Fails)
      replies-fails d = record { refusals = rw d at (spelled-case s reply e x); told = (c, x, silent-failing s c (case-long x) d) }

      pub replies-failing : Failing (rule_in s) c → Replies most_nodes s reply (Ok Fails)
      replies-failing f = replies-fails (failing-silent s c f)

-- ---- and there is one
fits-or-leaves : (v : ℕ) (s : List ℕ) → Reply v s ⊎ ((p : ℕ) × Leaves (Reply v) s p)
fits-or-leaves v s = go (stops (reply_for v) 0 s) refl
  where
    go : (o : Option ℕ) → stops (reply_for v) 0 s ≡ o → Reply v s ⊎ ((p : ℕ) × Leaves (Reply v) s p)
    go none e = inl ((accepts-exactly derive may_end pattern-reads (definite-for v) s).0 e)
    go (some p) e = inr (p, (stops-exactly derive may_end pattern-reads (definite-for v) s p).0 e)

module _ (s reply : List ℕ) where
  -- a failing case, or none: unsat, or a row of the table
  Answer : Type 0
  Answer = Replies most_nodes s reply (Ok Fails) ⊎ (Claims reply ⊎ ((r : Refusal) × Exactly (reply_rows most_nodes s reply) (some r)))

  of-case : refusal_of most_nodes s ≡ none → {c : List ℤ} → SpellsCase (variable_count s) reply c → Answer
  unfolding Answer
  of-case e {c} x = go (case_refusal s c) refl
    where
      go : (o : Option Refusal) → case_refusal s c ≡ o → Answer
      go none d = inl (replies-fails s reply e x d)
      go (some r) d = inr (inr (r, rw d at (spelled-case s reply e x)))

  of-says : refusal_of most_nodes s ≡ none → Says (variable_count s) reply → Answer
  unfolding Answer
  of-says e (unsat f) = inr (inl f)
  of-says e (sat t x) = of-case e (record { setting = t; spelled = x; case = refl })

  answered : Answer
  unfolding Answer
  answered = go (refusal_of most_nodes s) refl
    where
      go : (o : Option Refusal) → refusal_of most_nodes s ≡ o → Answer
      go none e = ⊎_elim (λ h. of-says e (reply-says (variable_count s) reply h)) (λ w. inr (inr (record { number = 11; place = w.0 }, refused-11 s reply e w.1))) (fits-or-leaves (variable_count s) reply)
      go (some r) e = inr (inr (r, refused-sheet s reply e))

-- an answer that is no refusal is to an accepted sheet
pub silent-accepted : (s reply : List ℕ) → {r : Result Replied Refused} → Replies most_nodes s reply r → replied_said r ≡ none → refusal_of most_nodes s ≡ none
silent-accepted s reply {r} h e = go (refusal_of most_nodes s) refl
  where
    go : (o : Option Refusal) → refusal_of most_nodes s ≡ o → refusal_of most_nodes s ≡ none
    go none d = d
    go (some q) d = absurd (let z : ◌≡◌ {A = ℕ} 0 1 = cc (exactly-once _ _ (refused-sheet s reply d) h.refusals, e) in omega arith)

-- so a failing case is spelled or not
pub fails-decided : (s reply : List ℕ) → Dec (Replies most_nodes s reply (Ok Fails))
unfolding Answer
fails-decided s reply = ⊎_elim (λ h. yes h) (λ w. no (λ g. ⊎_elim (λ f. not-both f g.told.1.spelled) (λ r. let z : ◌≡◌ {A = ℕ} 0 1 = cc (exactly-once _ _ r.1 g.refusals) in omega arith) w)) (answered s reply)
