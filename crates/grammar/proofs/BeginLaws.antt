-- Laws of how far bytes begin a member: what begins one does so with fewer bytes too; there is one place, and none where the bytes are a member. Assumes nothing.
use Prim.Native.Nat.{ℕ, suc, ◌≤◌, ◌<◌}
use mathlib.Core.Path.{◌≡◌, sym, ap, subst, ◌∙◌}
use mathlib.Core.Logic.{◌↔◌, ⊎_elim, ◌⊎◌, inl, inr}
use mathlib.Core.List.{List, [], ◌++◌, append_assoc, append-nil}
use native.Mathlib.Decide.{dec_lt}
use native.Mathlib.Omega.{arith}
use lib.ListN.{length, take, drop, take-append-drop}
use lib.Seq.{take-take}
use Rattle.grammar.specs.Begins.{Begins, Leaves, at_byte, too_short}

-- less, the same, or more
order : (a b : ℕ) → (a < b) ⊎ ((a ≡ b) ⊎ (b < a))
order a b = elim (dec_lt a b) [ yes l ↦ inl l | no n ↦ elim (dec_lt b a) [ yes l ↦ inr (inr l) | no m ↦ inr (inl (omega arith)) ] ]

module _ (Member : List ℕ → Type 0) where
  member-begins : {s : List ℕ} → Member s → Begins Member s
  member-begins {s} m = record { rest = []; member = rw append-nil m }

  fewer : (p : ℕ) {s : List ℕ} → Begins Member s → Begins Member (take p s)
  fewer p {s} b = record {
    rest = drop p s ++ b.rest;
    member = subst Member (ap (λ (l : List ℕ). l ++ b.rest) (sym (take-append-drop p s)) ∙ append_assoc (take p s) (drop p s) b.rest) b.member;
  }

  begins-less : {p q : ℕ} (s : List ℕ) → p ≤ q → Begins Member (take q s) → Begins Member (take p s)
  begins-less {p} {q} s l b = subst (Begins Member) (take-take p q s l) (fewer p b)

  -- at the place, and below it, the bytes begin a member
  begins-at : {s : List ℕ} {p : ℕ} → Leaves Member s p → Begins Member (take p s)
  begins-at (at_byte p l b n) = b
  begins-at {s} (too_short b n) = fewer (length s) b

  pub place_inside : {s : List ℕ} {p : ℕ} → Leaves Member s p → p ≤ length s
  place_inside (at_byte p l b n) = omega arith
  place_inside (too_short b n) = omega arith

  -- past the place they don't
  begins-none : {s : List ℕ} {p : ℕ} (q : ℕ) → Leaves Member s p → p < q → q ≤ length s → Begins Member (take q s) → ⊥
  begins-none {s} q (at_byte p l b n) h k c = n (begins-less s h c)
  begins-none q (too_short b n) h k c = omega arith

  pub no_member : {s : List ℕ} {p : ℕ} → Leaves Member s p → Member s → ⊥
  no_member {s} (at_byte p l b n) m = n (fewer (suc p) (member-begins m))
  no_member (too_short b n) m = n m

  -- there is one place
  pub one_place : {s : List ℕ} {p q : ℕ} → Leaves Member s p → Leaves Member s q → p ≡ q
  one_place {s} {p} {q} h g =
      ⊎_elim
      (λ l. absurd (begins-none q h l (place_inside g) (begins-at g)))
      (⊎_elim (λ e. e) (λ l. absurd (begins-none p g l (place_inside h) (begins-at h))))
      (order p q)

-- the same of two sets with the same members
module _ {M N : List ℕ → Type 0} (same : (s : List ℕ) → M s ↔ N s) where
  begins-as : {s : List ℕ} → Begins M s → Begins N s
  begins-as {s} b = record { rest = b.rest; member = (same (s ++ b.rest)).0 b.member }

  as-begins : {s : List ℕ} → Begins N s → Begins M s
  as-begins {s} b = record { rest = b.rest; member = (same (s ++ b.rest)).1 b.member }

  leaves-then : {s : List ℕ} {p : ℕ} → Leaves M s p → Leaves N s p
  leaves-then (at_byte p l b n) = at_byte p l (begins-as b) (λ c. n (as-begins c))
  leaves-then {s} (too_short b n) = too_short (begins-as b) (λ m. n ((same s).1 m))

  then-leaves : {s : List ℕ} {p : ℕ} → Leaves N s p → Leaves M s p
  then-leaves (at_byte p l b n) = at_byte p l (as-begins b) (λ c. n (begins-as c))
  then-leaves {s} (too_short b n) = too_short (as-begins b) (λ m. n ((same s).0 m))

  pub leaves-as : (s : List ℕ) (p : ℕ) → Leaves M s p ↔ Leaves N s p
  leaves-as s p = (leaves-then, then-leaves)
