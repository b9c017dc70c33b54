-- What a call that writes bytes has answered, and what it has left in the room. Assumes nothing.
use Prim.Native.Nat.{ℕ, ◌≤◌}
use mathlib.Core.Path.{◌≡◌, refl, sym, ap, subst, ◌∙◌}
use mathlib.Core.List.{List, ◌++◌}
use mathlib.Core.Option.{Option, none, some}
use native.Mathlib.Omega.{arith}
use lib.ListN.{length, take, drop, length-append, length-drop}
use lib.Seq.{take_at, drop_at}
use Rattle.std.specs.Prelude.{Result, Ok, Err}
use Rattle.refusals.specs.declared.Refused.{Refused}
use Rattle.refusals.specs.Causes.{refusal_of as told_as}
use Rattle.refusals.specs.declared.Refusal.{Refusal}
use Rattle.room.specs.Room.{over}
use Rattle.room.specs.Written.{written_said, written_verdict, Fills}
use Rattle.room.proofs.WrittenLaws.{written-injective}
use Rattle.agreement.specs.Texts.{RoomOf}

verdict-refusal : (o : Option Refusal) (t : List ℕ) → (written_verdict o t).0 ≡ o
verdict-refusal none t = refl
verdict-refusal (some q) t = refl

module _ {o : Option Refusal} {t before after : List ℕ} {r : Result ℕ Refused} (h : Fills o t before r after) where
  pub said-refusal : (written_said r).0 ≡ o
  said-refusal = ap (λ (x : Option Refusal × ℕ). x.0) h.answer ∙ verdict-refusal o t

  -- where nothing is refused
  module _ (e : o ≡ none) where
    pub done : r ≡ Ok (length t)
    done = written-injective r (Ok (length t)) (h.answer ∙ rw e)

    room-is : after ≡ t ++ drop (length t) before
    unfolding over
    room-is = h.room ∙ rw e

    pub front : take (length t) after ≡ t
    front = ap (take (length t)) room-is ∙ take_at t (drop (length t) before) (length t) refl

    pub behind : drop (length t) after ≡ drop (length t) before
    behind = ap (drop (length t)) room-is ∙ drop_at t (drop (length t) before) (length t) refl

    whole : length t ≤ length before → length after ≡ length before
    whole l = ap length room-is ∙ length-append t (drop (length t) before) ∙ omega (arith, length-drop (length t) before)

  pub refused : {e : Refused} → o ≡ some (told_as e) → (r ≡ Err e) × (after ≡ before)
  refused {e} d = (written-injective r (Err e) (h.answer ∙ rw d), h.room ∙ rw d)

  -- by the answer
  pub done-passes : {n : ℕ} → r ≡ Ok n → (o ≡ none) × (length t ≡ n)
  done-passes d =
      let e : o ≡ none = sym said-refusal ∙ ap (λ (x : Result ℕ Refused). (written_said x).0) d in
      (e, sym (ap (λ (x : Result ℕ Refused). (written_said x).1) (done e)) ∙ ap (λ (x : Result ℕ Refused). (written_said x).1) d)

  refused-kept : {e : Refused} → r ≡ Err e → after ≡ before
  refused-kept d = (refused (sym said-refusal ∙ ap (λ (x : Result ℕ Refused). (written_said x).0) d)).1

  written_is : {n : ℕ} → r ≡ Ok n → (take n after ≡ t) × (drop n after ≡ drop n before)
  written_is d =
      let w = done-passes d in
      subst (λ (k : ℕ). (take k after ≡ t) × (drop k after ≡ drop k before)) w.1 (front w.0, behind w.0)

  -- bytes that are not refused go into the room
  pub room_of : (o ≡ none → length t ≤ length before) → RoomOf t before r after
  room_of fits = record { refused = λ q. refused-kept; written = λ n. written_is; size = size o refl }
    where
      size : (x : Option Refusal) → o ≡ x → length after ≡ length before
      size none e = whole e (fits e)
      size (some q) e = let k : after ≡ before = h.room ∙ rw e in ap length k
