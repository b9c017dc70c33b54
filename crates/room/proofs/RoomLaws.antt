-- Laws of a room with a text in it: one more byte, a text behind another, and a part that was lent. Assumes nothing.
use Prim.Native.Nat.{ℕ, suc, ◌+◌, ◌-◌, ◌≤◌, ◌<◌}
use mathlib.Core.Path.{◌≡◌, refl, sym, ap, ◌∙◌}
use mathlib.Core.List.{List, [], ◌++◌, append_assoc, append-nil}
use native.Mathlib.Nat.{le_refl, zero-add, add-zero, add_assoc}
use native.Mathlib.Numerals.{add-one}
use native.Mathlib.Omega.{arith}
use borrow.Rule.Slice.PartMut.{put_mid}
use lib.ListN.{length, take, drop, set, get_or, length-append, length-drop, drop_of_length-le}
use lib.Seq.{take_all, take-length, take_at, drop_at, drop-drop, length-take-le, paste-zero, paste-suc, length-paste}
use Rattle.lists.specs.Joined.{joined_below}
use Rattle.lists.proofs.JoinedLaws.{joined-none, joined-more, length-within}
use Rattle.room.specs.Room.{over, within, Wrote}

-- ---- a loop that copies s from place at on
pub within_none : (s room : List ℕ) (at : ℕ) → room ≡ within (take 0 s) at room
unfolding within
within_none s room at = paste-zero room at s

pub within-turn : (s before : List ℕ) {room : List ℕ} (at i : ℕ) → room ≡ within (take i s) at before → i < length s → at + length s ≤ length before → set room (at + i) (get_or s i 0) ≡ within (take (i + 1) s) at before
unfolding within
within-turn s before at i e h l =
    let n : length (take i s) ≡ i = length-take-le i s (omega arith) in
    let m : length (take (suc i) s) ≡ suc i = length-take-le (suc i) s h in
    rw (e, n, add-one, m) (paste-suc before at s i 0 (omega arith) h)

pub wrote-all : (s before : List ℕ) {after : List ℕ} (at i : ℕ) → after ≡ within (take i s) at before → i ≡ length s → Wrote s before after at (at + length s)
wrote-all s before at i e d = record { place = refl; room = e ∙ ap (λ (t : List ℕ). within t at before) (take_all i s (omega arith)) }

-- ---- texts one behind another
pub wrote_none : (room : List ℕ) (at : ℕ) → Wrote [] room room at at
wrote_none room at = record { place = sym (add-zero at); room = within_none [] room at }

pub wrote_as : {t u before after : List ℕ} {at r : ℕ} → Wrote t before after at r → t ≡ u → Wrote u before after at r
wrote_as w e = rw (← e) w

pub chain : {p t r₀ r₁ r₂ : List ℕ} {at q r : ℕ} → at + length p ≤ length r₀ → Wrote p r₀ r₁ at q → Wrote t r₁ r₂ q r → Wrote (p ++ t) r₀ r₂ at r
unfolding within
chain {p} {t} {r₀} {r₁} {r₂} {at} {q} {r} h w g =
    let n : length (take at r₀ ++ p) ≡ at + length p = rw (length-append, length-take-le at r₀ (omega arith)) in
    record {
      place = rw (length-append) (omega (arith, w.place, g.place));
      room =
          g.room
          ∙ rw (w.place, w.room, ← drop-drop (length t) (at + length p) ((take at r₀ ++ p) ++ drop (at + length p) r₀), take_at (take at r₀ ++ p) (drop (at + length p) r₀) (at + length p) n, drop_at (take at r₀ ++ p) (drop (at + length p) r₀) (at + length p) n, drop-drop, length-append)
          (rw (add_assoc, append_assoc (take at r₀) p t));
    }

pub chain3 : {x y z r₀ r₁ r₂ r₃ : List ℕ} {at p q r : ℕ} → at + (length x + length y) ≤ length r₀ → Wrote x r₀ r₁ at p → Wrote y r₁ r₂ p q → Wrote z r₂ r₃ q r → Wrote (x ++ y ++ z) r₀ r₃ at r
chain3 h a b c = chain (rw length-append h) (chain (omega arith) a b) c

pub chain4 : {x y z u r₀ r₁ r₂ r₃ r₄ : List ℕ} {at p q s r : ℕ} → at + (length x + length y + length z) ≤ length r₀ → Wrote x r₀ r₁ at p → Wrote y r₁ r₂ p q → Wrote z r₂ r₃ q s
    → Wrote u r₃ r₄ s r → Wrote (x ++ y ++ z ++ u) r₀ r₄ at r
chain4 h a b c d = chain (simp length-append h) (chain3 (omega arith) a b c) d

pub chain5 : {x y z u v r₀ r₁ r₂ r₃ r₄ r₅ : List ℕ} {at p q s t r : ℕ} → at + (length x + length y + length z + length u) ≤ length r₀ → Wrote x r₀ r₁ at p → Wrote y r₁ r₂ p q
    → Wrote z r₂ r₃ q s → Wrote u r₃ r₄ s t → Wrote v r₄ r₅ t r → Wrote (x ++ y ++ z ++ u ++ v) r₀ r₅ at r
chain5 h a b c d e = chain (simp length-append h) (chain4 (omega arith) a b c d) e

-- a text for each number, and one number more
pub wrote-no-texts : (f : ℕ → List ℕ) (room : List ℕ) (at : ℕ) → Wrote (joined_below f 0) room room at at
wrote-no-texts f room at = wrote_as (wrote_none room at) (sym (joined-none f))

pub wrote-more : (f : ℕ → List ℕ) {i m : ℕ} {r₀ r₁ r₂ : List ℕ} {at p q : ℕ} → i < m → at + length (joined_below f m) ≤ length r₀ → Wrote (joined_below f i) r₀ r₁ at p → Wrote (f i) r₁ r₂ p q → Wrote (joined_below f (i + 1)) r₀ r₂ at q
wrote-more f {i} {m} l h a b = wrote_as (chain (omega (arith, length-within f l)) a b) (joined-more f i)

pub wrote-length : {t before after : List ℕ} {at r : ℕ} → at + length t ≤ length before → Wrote t before after at r → length after ≡ length before
unfolding within
wrote-length {t} {before} {after} {at} h w = ap length w.room ∙ ap (λ (u : List ℕ). length (take at before ++ u ++ drop (at + length t) before)) (sym (take-length t)) ∙ length-paste before at t (length t) h (le_refl _)

-- ---- a part lent from a place on
pub lent : (room : List ℕ) (at : ℕ) → take (length room - at) (drop at room) ≡ drop at room
lent room at = take_all (length room - at) (drop at room) (rw length-drop (le_refl _))

pub lent_length : (room : List ℕ) (at : ℕ) → length (take (length room - at) (drop at room)) ≡ length room - at
lent_length room at = rw lent (length-drop at room)

-- what was written to the part's front stands in the room from the place on
pub wrote-part : {t room part : List ℕ} {r : ℕ} (at : ℕ) → Wrote t (take (length room - at) (drop at room)) part 0 r → Wrote t room (put_mid at (length room - at) room part) at (at + r)
unfolding within
wrote-part {t} {room} {part} {r} at w =
    record {
      place = omega (arith, w.place);
      room =
          ap (λ (l : List ℕ). take at room ++ (part ++ l)) (drop_of_length-le (drop at room) {i = length room - at} (rw length-drop (le_refl _)))
          ∙ rw (append-nil, w.room, lent, zero-add, drop-drop)
          (sym (append_assoc (take at room) t (drop (at + length t) room)));
    }

-- ---- from the front on
pub wrote-over : {t before after : List ℕ} {r : ℕ} → Wrote t before after 0 r → after ≡ over t before
unfolding over within
wrote-over {t} {before} w = w.room ∙ rw zero-add
