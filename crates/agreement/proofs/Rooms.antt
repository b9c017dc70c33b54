-- What the check and the writer leave in the room that was lent: `RoomKept`. Assumes nothing.
use Prim.Native.Nat.{ℕ, ◌≤◌}
use mathlib.Core.Path.{◌≡◌, refl, sym, ap, ◌∙◌}
use mathlib.Core.Bool.{Bool, true, true≢false}
use mathlib.Core.List.{List, ◌++◌}
use mathlib.Core.Option.{Option, none, some, none-ne-some}
use native.Mathlib.Omega.{arith}
use lib.IntN.{ℤ}
use lib.ListN.{length, drop, length-append, length-drop}
use lib.Seq.{drop_at}
use Rattle.std.specs.Prelude.{Result}
use Rattle.refusals.specs.declared.Refused.{Refused}
use Rattle.refusals.specs.Causes.{refusal_of as told_as}
use Rattle.meaning.specs.Cases.{first_failure}
use Rattle.meaning.proofs.Failures.{first-fails}
use Rattle.layout.specs.Parts.{variable_count, rule_in}
use Rattle.layout.proofs.PartLaws.{variable-total}
use Rattle.refusals.specs.declared.Refusal.{Refusal}
use Rattle.refusals.proofs.AfterLaws.{passed}
use Rattle.layout.specs.Limits.{most_nodes}
use Rattle.reading.specs.Cascade.{refusal_of}
use Rattle.cases.specs.declared.Verdict.{Verdict}
use Rattle.cases.specs.Checks.{try_refusal, check_refusal, checked_said, Checks}
use Rattle.wording.specs.Form.{Form}
use Rattle.wording.specs.Script.{script}
use Rattle.writer.specs.Writes.{script_refusal, Writes}
use Rattle.agreement.specs.Statements as promise
use Rattle.agreement.specs.Statements.{CheckRoom, ScriptRoom}
use Rattle.agreement.specs.Texts.{RoomOf}
use Rattle.agreement.proofs.Filled.{room_of}

-- x at the front of the room, and the rest as it was
module _ {A : Type 0} (x room : List A) (n : ℕ) (e : length x ≡ n) (l : n ≤ length room) where
  behind : drop n (x ++ drop n room) ≡ drop n room
  behind = drop_at x (drop n room) n e

  whole : length (x ++ drop n room) ≡ length room
  whole = length-append x (drop n room) ∙ omega (arith, length-drop n room)

-- the refusals of two answers that are one
refusal-of : {A : Type 0} {x y : Option Refusal × A} → x ≡ y → x.0 ≡ y.0
refusal-of {A} e = ap (λ (z : Option Refusal × A). z.0) e

check-room : (s : List ℕ) (before after : List ℤ) (r : Result Verdict Refused) → Checks most_nodes s before r after → CheckRoom s before r after
unfolding check_refusal
check-room s before after r h = by (check_refusal most_nodes s (length before)) refl (first_failure (rule_in s)) refl
  where
    v : ℕ
    v = variable_count s

    unchanged : after ≡ before → CheckRoom s before r after
    unchanged e = record { refused = λ q p. e; holds = λ p. e; past = ap (drop v) e; size = ap length e }

    -- the answer of a check that fails is neither holds nor a refusal
    other : {c : List ℤ} → check_refusal most_nodes s (length before) ≡ none → first_failure (rule_in s) ≡ some c → checked_said r ≡ (none, true)
    other p q = h.answer ∙ rw (p, q)

    by : (o : Option Refusal) → check_refusal most_nodes s (length before) ≡ o → (f : Option (List ℤ)) → first_failure (rule_in s) ≡ f → CheckRoom s before r after
    by (some x) p f q = unchanged (h.room ∙ rw p)
    by none p none q = unchanged (h.room ∙ rw (p, q))
    by none p (some c) q =
        let n : length c ≡ v = (first-fails (rule_in s) q).0.all ∙ variable-total s in
        let l : v ≤ length before = (passed (try_refusal most_nodes s) v (length before) 9 v p).1 in
        let e : after ≡ c ++ drop v before = h.room ∙ rw (p, q, n) in
        let said = other p q in
        record {
          refused = λ x d. absurd (none-ne-some (told_as x) (refusal-of (sym said) ∙ ap (λ (t : Result Verdict Refused). (checked_said t).0) d));
          holds = λ d. absurd (true≢false (sym (ap (λ (y : Option Refusal × Bool). y.1) said) ∙ ap (λ (t : Result Verdict Refused). (checked_said t).1) d));
          past = ap (drop v) e ∙ behind c before v n l;
          size = ap length e ∙ whole c before v n l;
        }

script-room : (f : Form) (s before after : List ℕ) (r : Result ℕ Refused) → Writes most_nodes f s before r after → ScriptRoom f s before r after
unfolding script_refusal
script-room f s before after r h =
    let t : List ℕ = script f (rule_in s) in
    let w : RoomOf t before r after = room_of (record { answer = h.answer; room = h.room }) (λ e. (passed (refusal_of most_nodes s) (length t) (length before) 9 (length t) e).1) in
    record { refused = w.refused; written = w.written; size = w.size }

pub rooms-kept : promise.RoomKept
rooms-kept s = (check-room s, λ f. script-room f s)
