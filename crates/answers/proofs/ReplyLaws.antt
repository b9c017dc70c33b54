-- The answer to a reply from what the reply comes to: unsat is claimed, the refusal's line, or the failing case. Assumes nothing.
use Prim.Native.Nat.{ℕ}
use mathlib.Core.Path.{◌≡◌, ap, subst, ◌∙◌}
use mathlib.Core.List.{List, [], ◌++◌}
use native.Mathlib.Omega.{arith}
use lib.IntN.{ℤ, pos}
use lib.ListN.{length, take, drop}
use lib.Seq.{take_at, get_or-take}
use Rattle.std.specs.Prelude.{Result, Ok, Err}
use Rattle.refusals.specs.declared.Refused.{Refused}
use Rattle.refusals.specs.Causes.{refusal_of as told_as}
use Rattle.io.specs.Counts.{IsPrefixLen}
use Rattle.lists.specs.Ascii.{ascii}
use Rattle.numbers.specs.Bytes.{Bytes}
use Rattle.meaning.specs.Cases.{Failing}
use Rattle.layout.specs.Limits.{most_nodes}
use Rattle.layout.specs.Parts.{variable_count, rule_in}
use Rattle.layout.proofs.PartLaws.{variable-total}
use Rattle.odometer.proofs.Domains.{case-narrow}
use Rattle.replies.specs.Says.{SpellsCase}
use Rattle.replies.proofs.Unique.{one-case}
use Rattle.trial.specs.declared.Replied.{Replied}
use Rattle.trial.specs.declared.Replied.TheVariants.{Unsat, Fails}
use Rattle.trial.specs.Replies.{Told, Replies, CaseRoom, RepliesInto}
use Rattle.trial.proofs.GivenLaws.{fails-accepted}
use Rattle.room.specs.Room.{Wrote}
use Rattle.room.proofs.RoomLaws.{wrote_as}
use Rattle.phrases.specs.Phrases.{refusal_line}
use Rattle.phrases.specs.Pieces.{Settled, fails_line}
use Rattle.phrases.proofs.NameValueLaws.{name_values-are}
use Rattle.answers.specs.Answers.{failing}
use Rattle.answers.specs.Replies.{reply_line, WroteReply}
use Rattle.answers.proofs.AnswerLaws.{counted}

module _ (s reply : List ℕ) {before after : List ℤ} {a : Result Replied Refused} (w : RepliesInto most_nodes s reply before a after) where
  -- ---- the failing case, and the row that it is left in
  module _ (d : a ≡ Ok Fails) where
    told : (c : List ℤ) × SpellsCase (variable_count s) reply c × Failing (rule_in s) c
    told = subst (Told s reply) d w.answer.told

    left : (c : List ℤ) × SpellsCase (variable_count s) reply c × (after ≡ c ++ drop (variable_count s) before)
    left = subst (λ (r : Result Replied Refused). CaseRoom s reply before r after) d w.room

    believed : Replies most_nodes s reply (Ok Fails)
    believed = subst (Replies most_nodes s reply) d w.answer

    case-length : length told.0 ≡ variable_count s
    case-length = told.2.0.all ∙ variable-total s

    case-is : take (variable_count s) after ≡ told.0
    case-is =
        let e : after ≡ told.0 ++ drop (variable_count s) before = left.2 ∙ ap (λ (c : List ℤ). c ++ drop (variable_count s) before) (one-case left.1 told.1) in
        ap (take (variable_count s)) e ∙ take_at told.0 _ (variable_count s) case-length

    pub reply-settled : Bytes s → Settled s after
    reply-settled b = record {
      accepted = fails-accepted s reply believed;
      narrow = λ i h. rw (← get_or-take (variable_count s) after i (pos 0) h, case-is) (case-narrow s b told.2.0 i);
    }

  -- ---- the line that is written
  module _ {x y : List ℕ} {n : ℕ} where
    pub reply-fails : a ≡ Ok Fails → Wrote (fails_line s after) x y 0 n → WroteReply most_nodes s reply x y n × IsPrefixLen n y
    unfolding failing fails_line
    reply-fails d g = (
      record {
        answer = Ok Fails;
        replies = believed d;
        case = (told d).0;
        spelled = λ e. (told d).1;
        wrote = wrote_as g (ap (λ (l : List ℕ). ascii "fails" ++ l ++ ascii "\n") (name_values-are s after (case-is d) (case-length d)));
      },
      counted g,
    )

    -- what spells no case
    reply-other : {b : Result Replied Refused} → (b ≡ Ok Fails → ⊥) → a ≡ b → Wrote (reply_line (rule_in s) [] b) x y 0 n → WroteReply most_nodes s reply x y n × IsPrefixLen n y
    reply-other {b} f d g = (record { answer = b; replies = subst (Replies most_nodes s reply) d w.answer; case = []; spelled = λ e. absurd (f e); wrote = g }, counted g)

    pub reply-unsat : a ≡ Ok Unsat → Wrote (ascii "unsat claimed\n") x y 0 n → WroteReply most_nodes s reply x y n × IsPrefixLen n y
    reply-unsat = reply-other (λ e. let z : ◌≡◌ {A = ℕ} 0 1 = cc in omega arith)

    pub reply-refused : {q : Refused} → a ≡ Err q → Wrote (refusal_line (told_as q)) x y 0 n → WroteReply most_nodes s reply x y n × IsPrefixLen n y
    reply-refused = reply-other (λ e. let z : ◌≡◌ {A = ℕ} 0 1 = cc in omega arith)
