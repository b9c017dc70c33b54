-- How the reader passes the parts of a pattern. Assumes nothing.
use Prim.Native.Nat.{ℕ, zero, suc, ◌+◌, ◌-◌, ◌/◌, ◌%◌, ◌≤◌, ◌<◌}
use mathlib.Core.Path.{◌≡◌, refl, sym, ap, ap₂, ◌∙◌}
use mathlib.Core.Logic.{◌⊎◌, inl, inr}
use mathlib.Core.Bool.{Bool, true, false, cond, not, not-not, true≢false}
use mathlib.Core.List.{List, [], ◌∷◌}
use mathlib.Core.Option.{none, some}
use native.Mathlib.Numerals.{add-one, one-add}
use native.Mathlib.Nat.{add-zero, sub-zero}
use native.Mathlib.Omega.{arith}
use native.Mathlib.Decide.{dec_lt}
use lib.Dec.{eqb, ltb}
use lib.ListN.{length, get_or, drop, replicate, drop_of_length-le, get_or-eq_default}
use lib.Seq.{drop-cons}
use Rattle.std.proofs.lemmas.List.{drop-drop, get_or_read, take_rest}
use Rattle.std.proofs.lemmas.List.Sums.{prefix_len-le-length}
use borrow.Author.Tests.{eq-eqb, ne_eqb, eqb-true, ltb-true, ltb-false}
use Rattle.std.specs.Prelude.{Option, Some, None, Result, Ok, Err}
use Rattle.std.specs.Borrow.{Bor}
use Rattle.std.specs.List.{prefix_len, position, position_or_len}
use Rattle.std.specs.Option.{option_eq, unwrap_or}
use Rattle.std.specs.Slice.{IsItemAt, IsGetRangeResult}
use Rattle.lists.proofs.FirstLaws.{otherwise-none, otherwise-some}
use Rattle.smtlib.specs.Characters.{white_space}
use Rattle.wording.specs.Sixteen.{symbol_text}
use Rattle.grammar.specs.Patterns.{Pattern, end, anything, one, either, exact, times}
use Rattle.grammar.specs.Stops.{derive, may_end, stop, stops}
use Rattle.grammar.proofs.MachineLaws.{stop-turn, stop-off, stop-short, stop-end, stop-same, end_same}
use Rattle.grammar.proofs.PatternLaws.{derive-one, derive-off, derive-many, derive-past}
use Rattle.replies.specs.Replies.{hex_digits, binary_digits, blanks, mark, digit_to, any_value, pair, pairs, listed, claim}
use Rattle.replies.specs.Here.{stop_from, Passes, first_digit}

-- ---- where a reading stops

-- before a byte, and at the end
module _ (s : List ℕ) (k : ℕ) where
  pub byte-stop : (p : Pattern) → k < length s → stops p k (drop k s) ≡ stops p k (get_or s k 0 ∷ drop (suc k) s)
  byte-stop p l = ap (stops p k) (drop-cons s k 0 l)

  pub last-stop : (p : Pattern) → length s ≤ k → stops p k (drop k s) ≡ stops p k []
  last-stop p l = ap (stops p k) (drop_of_length-le s l)

-- two patterns that do the same before this byte, and at the end
same_stop : (s : List ℕ) (k : ℕ) (p q : Pattern) → derive p (get_or s k 0) ≡ derive q (get_or s k 0) → (length s ≤ k → may_end p ≡ may_end q) → stops p k (drop k s) ≡ stops q k (drop k s)
same_stop s k p q e d = elim (dec_lt k (length s)) [
  | yes l ↦ byte-stop s k p l ∙ stop-same derive may_end k (get_or s k 0) (drop (suc k) s) e ∙ sym (byte-stop s k q l)
  | no n ↦ let m : length s ≤ k = omega arith in last-stop s k p m ∙ end_same derive may_end k (d m) ∙ sym (last-stop s k q m)
]

-- ---- one byte

module _ (s : List ℕ) (k : ℕ) (t : ℕ → Bool) where
  pub take-one : k < length s → true ≡ t (get_or s k 0) → Passes (one t) s k (Ok (k + 1))
  take-one l e = record { same = λ p. byte-stop s k (one t p) l ∙ stop-turn derive may_end k (get_or s k 0) (drop (suc k) s) (derive-one t p _ (sym e)) ∙ sym (ap (λ (j : ℕ). stops p j (drop j s)) (add-one k)) }

  pub take_none : k < length s → false ≡ t (get_or s k 0) → Passes (one t) s k (Err k)
  take_none l e = record { same = λ p. byte-stop s k (one t p) l ∙ stop-off derive may_end k (get_or s k 0) (drop (suc k) s) (derive-off t p _ (sym e)) }

  pub take_last : length s ≤ k → Passes (one t) s k (Err k)
  unfolding may_end
  take_last l = record { same = λ p. last-stop s k (one t p) l ∙ stop-short derive may_end k refl }

-- no byte stands behind the end
pub none-there : (s : List ℕ) (k : ℕ) → length s ≤ k → 0 ≡ get_or s k 0
none-there s k l = sym (get_or-eq_default s 0 l)

-- the byte that is looked up there, if any
module _ (s : List ℕ) (k : ℕ) where
  looked : (o : Option (Bor ℕ)) (r : Bor ℕ) → IsItemAt s k o → 0 < r.now → option_eq {T = Bor ℕ} (λ x y. eqb x.now y.now) o (Some r) ≡ eqb (get_or s k 0) r.now
  looked None r l w =
      let z = none-there s k (ltb-false k (length s) (sym l.0)) in
      sym (ne_eqb _ _ (λ e. omega arith))
  looked (Some x) r l w = ap (λ (c : ℕ). eqb c r.now) (get_or_read s k x.now (ltb-true k (length s) (sym l.0)) l.1 0)

  pub looked-yes : (o : Option (Bor ℕ)) (r : Bor ℕ) {b : Bool} → IsItemAt s k o → b ≡ option_eq {T = Bor ℕ} (λ x y. eqb x.now y.now) o (Some r) → b ≡ true → 0 < r.now → get_or s k 0 ≡ r.now
  looked-yes o r l e t w = eqb-true (get_or s k 0) r.now (sym (looked o r l w) ∙ sym e ∙ t)

  pub looked-no : (o : Option (Bor ℕ)) (r : Bor ℕ) {b : Bool} → IsItemAt s k o → b ≡ option_eq {T = Bor ℕ} (λ x y. eqb x.now y.now) o (Some r) → b ≡ false → 0 < r.now → get_or s k 0 ≡ r.now → ⊥
  looked-no o r l e f w q = true≢false (sym (eq-eqb (get_or s k 0) r.now q) ∙ sym (looked o r l w) ∙ sym e ∙ f)

-- ---- one part behind another

pub pass-then : {f g : Pattern → Pattern} {s : List ℕ} {k j : ℕ} {r : Result ℕ ℕ} → Passes f s k (Ok j) → Passes g s j r → Passes (λ p. f (g p)) s k r
pass-then {g = g} x y = record { same = λ p. x.same (g p) ∙ y.same p }

pub pass-off : {f g : Pattern → Pattern} {s : List ℕ} {k e : ℕ} → Passes f s k (Err e) → Passes (λ p. f (g p)) s k (Err e)
pass-off {g = g} x = record { same = λ p. x.same (g p) }

-- ---- blanks

blanks-from : (p : Pattern) (k : ℕ) (u : List ℕ) → stops (blanks p) k u ≡ stops p (k + prefix_len white_space u) (drop (prefix_len white_space u) u)
unfolding stop may_end
blanks-from p k [] = rw add-zero
blanks-from p k (c ∷ u) = go (white_space c) refl (blanks-from p (suc k) u)
  where
    go : (t : Bool) → white_space c ≡ t → stops (blanks p) (suc k) u ≡ stops p (suc k + prefix_len white_space u) (drop (prefix_len white_space u) u) → stops (blanks p) k (c ∷ u) ≡ stops p (k + cond t (1 + prefix_len white_space u) 0) (drop (cond t (1 + prefix_len white_space u) 0) (c ∷ u))
    go true e h =
        let n = prefix_len white_space u in
        let d : suc k + n ≡ k + suc n = omega arith in
        rw one-add (stop-turn derive may_end k c u (derive-many white_space p c e) ∙ h ∙ ap (λ (m : ℕ). stops p m (drop n u)) d)
    go false e h = stop-same derive may_end k c u (derive-past white_space p c e) ∙ ap (λ (m : ℕ). stops p m (c ∷ u)) (sym (add-zero k))

pub blanks-pass : (s : List ℕ) (k n : ℕ) → n ≡ prefix_len white_space (drop k s) → Passes blanks s k (Ok (k + n))
blanks-pass s k n e =
    let m = prefix_len white_space (drop k s) in
    record { same = λ p. blanks-from p k (drop k s) ∙ ap (λ (l : List ℕ). stops p (k + m) l) (drop-drop m k s) ∙ ap (λ (j : ℕ). stops p (k + j) (drop (k + j) s)) (sym e) }

-- what is got from a place on, nothing where it lies behind the end
pub rest-got : (s : List ℕ) (k : ℕ) (o : Option (Bor (List ℕ))) (d r : Bor (List ℕ)) → IsGetRangeResult s k (length s) o → d.now ≡ [] → r ≡ unwrap_or o d → r.now ≡ drop k s
rest-got s k None d r g e f = ap (λ (b : Bor (List ℕ)). b.now) f ∙ e ∙ sym (drop_of_length-le s (behind g.0))
  where
    behind : (length s < k) ⊎ (length s < length s) → length s ≤ k
    behind (inl l) = omega arith
    behind (inr l) = omega arith
rest-got s k (Some x) d r g e f = ap (λ (b : Bor (List ℕ)). b.now) f ∙ g.0.2 ∙ take_rest s k

-- as many as stand before the first that is none
before-other : (u : List ℕ) → position_or_len (λ c. not (white_space c)) u ≡ prefix_len white_space u
before-other [] = refl
before-other (c ∷ u) = ap₂ (λ (b : Bool) (n : ℕ). cond b (1 + n) 0) (not-not (white_space c)) (before-other u)

pub before-first : (u : List ℕ) {o : Option ℕ} → o ≡ position (λ c. not (white_space c)) u → unwrap_or o (length u) ≡ prefix_len white_space u
before-first u {o} e = rw e (rw (before-other u) (go (ltb (prefix_len white_space u) (length u)) refl))
  where
    go : (b : Bool) → ltb (prefix_len white_space u) (length u) ≡ b → unwrap_or (cond b (Some (prefix_len white_space u)) None) (length u) ≡ prefix_len white_space u
    go true l = refl
    go false l =
        let m = ltb-false (prefix_len white_space u) (length u) l in
        let n = prefix_len-le-length white_space u in
        omega arith

-- ---- in a loop: what is left of f is g

pub record Left (f g : Pattern → Pattern) (s : List ℕ) (h k : ℕ) : Type 0 where
  pub left : (p : Pattern) → stops (f p) h (drop h s) ≡ stops (g p) k (drop k s)

pub left-all : {f : Pattern → Pattern} {s : List ℕ} {k : ℕ} → Left f f s k k
left-all = record { left = λ p. refl }

left-none : {f g : Pattern → Pattern} {s : List ℕ} {h k : ℕ} → Left f g s h k → ((p : Pattern) → g p ≡ p) → Passes f s h (Ok k)
left-none {s = s} {k = k} w e = record { same = λ p. w.left p ∙ ap (λ (q : Pattern). stops q k (drop k s)) (e p) }

left-pass : {f g e : Pattern → Pattern} (m : Pattern → Pattern) {s : List ℕ} {h k : ℕ} {r : Result ℕ ℕ} → Left f g s h k → ((p : Pattern) → g p ≡ e (m p)) → Passes e s k r → (p : Pattern) → stops (f p) h (drop h s) ≡ stop_from (m p) s r
left-pass m {s = s} {k = k} w q x p = w.left p ∙ ap (λ (n : Pattern). stops n k (drop k s)) (q p) ∙ x.same (m p)

-- digits: i of n are read
pub record DigitsLeft (n base i : ℕ) (s : List ℕ) (h k : ℕ) : Type 0 where
  pub digits : Left (times n (digit_to base)) (times (n - i) (digit_to base)) s h k

pub digits-begin : {n base : ℕ} {s : List ℕ} {k : ℕ} → DigitsLeft n base 0 s k k
digits-begin {n} = record { digits = rw sub-zero left-all }

module _ {n base i : ℕ} {s : List ℕ} {h k : ℕ} (x : DigitsLeft n base i s h k) where
  digits-parted : i < n → (p : Pattern) → times (n - i) (digit_to base) p ≡ one (digit_to base) (times (n - (i + 1)) (digit_to base) p)
  digits-parted l p = let e : n - i ≡ suc (n - (i + 1)) = omega arith in ap (λ (m : ℕ). times m (digit_to base) p) e

  pub digits-turn : {j : ℕ} → i < n → Passes (one (digit_to base)) s k (Ok j) → DigitsLeft n base (i + 1) s h j
  digits-turn l y = record { digits = record { left = left-pass _ x.digits (digits-parted l) y } }

  pub digits-off : {j : ℕ} → i < n → Passes (one (digit_to base)) s k (Err j) → Passes (times n (digit_to base)) s h (Err j)
  digits-off l y = record { same = left-pass _ x.digits (digits-parted l) y }

  pub digits-done : n ≤ i → Passes (times n (digit_to base)) s h (Ok k)
  digits-done l = let e : n - i ≡ 0 = omega arith in left-none x.digits (λ p. ap (λ (m : ℕ). times m (digit_to base) p) e)

-- pairs: those from variable i on are left of v
pub record PairsLeft (v i : ℕ) (s : List ℕ) (h k : ℕ) : Type 0 where
  pub those : Left (pairs 0 (replicate v any_value)) (pairs i (replicate (v - i) any_value)) s h k

pub pairs-begin : {v : ℕ} {s : List ℕ} {k : ℕ} → PairsLeft v 0 s k k
pairs-begin {v} = record { those = rw sub-zero left-all }

module _ {v i : ℕ} {s : List ℕ} {h k : ℕ} (x : PairsLeft v i s h k) where
  pairs-parted : i < v → (p : Pattern) → pairs i (replicate (v - i) any_value) p ≡ pair i any_value (pairs (i + 1) (replicate (v - (i + 1)) any_value) p)
  pairs-parted l p = let e : v - i ≡ suc (v - (i + 1)) = omega arith in ap (λ (n : ℕ). pairs i (replicate n any_value) p) e ∙ ap (λ (m : ℕ). pair i any_value (pairs m (replicate (v - (i + 1)) any_value) p)) (sym (add-one i))

  pub pairs-turn : {j : ℕ} → i < v → Passes (pair i any_value) s k (Ok j) → PairsLeft v (i + 1) s h j
  pairs-turn l y = record { those = record { left = left-pass _ x.those (pairs-parted l) y } }

  pub pairs-off : {j : ℕ} → i < v → Passes (pair i any_value) s k (Err j) → Passes (pairs 0 (replicate v any_value)) s h (Err j)
  pairs-off l y = record { same = left-pass _ x.those (pairs-parted l) y }

  pub pairs-done : v ≤ i → Passes (pairs 0 (replicate v any_value)) s h (Ok k)
  pairs-done l = let e : v - i ≡ 0 = omega arith in left-none x.those (λ p. ap (λ (n : ℕ). pairs i (replicate n any_value) p) e)

-- one of two bytes
module _ (s : List ℕ) (k : ℕ) (a : ℕ) (p q : Pattern) where
  pub fork-first : (a ≡ 0 → ⊥) → get_or s k 0 ≡ a → stops (either (one (eqb a) p) q) k (drop k s) ≡ stops (one (eqb a) p) k (drop k s)
  unfolding derive
  fork-first n e =
      let d = derive-one (eqb a) p (get_or s k 0) (eq-eqb a _ (sym e)) in
      same_stop s k (either (one (eqb a) p) q) (one (eqb a) p) (otherwise-some (derive q (get_or s k 0)) d ∙ sym d) (λ m. absurd (n (sym e ∙ sym (none-there s k m))))

  pub fork-second : (get_or s k 0 ≡ a → ⊥) → stops (either (one (eqb a) p) q) k (drop k s) ≡ stops q k (drop k s)
  unfolding derive may_end
  fork-second n =
      same_stop s k (either (one (eqb a) p) q) q (otherwise-none (derive q (get_or s k 0)) (derive-off (eqb a) p (get_or s k 0) (ne_eqb a _ (λ e. n (sym e))))) (λ m. refl)

-- ---- values and symbols

module _ {s : List ℕ} {h k : ℕ} {r : Result ℕ ℕ} (x : Passes (one (eqb 35)) s h (Ok k)) where
  pub value-hex : get_or s k 0 ≡ 120 → Passes (λ p. one (eqb 120) (times hex_digits (digit_to 16) p)) s k r → Passes any_value s h r
  value-hex e y = record { same = λ p. x.same _ ∙ fork-first s k 120 _ _ (λ z. omega arith) e ∙ y.same p }

  pub value-binary : (get_or s k 0 ≡ 120 → ⊥) → Passes (λ p. one (eqb 98) (times binary_digits (digit_to 2) p)) s k r → Passes any_value s h r
  value-binary n y = record { same = λ p. x.same _ ∙ fork-second s k 120 _ _ n ∙ y.same p }

-- a symbol is its letter, its first digit where it has two, and its last
pub symbol_split : (i : ℕ) (p : Pattern) → exact (symbol_text i) p ≡ one (eqb 118) (exact (first_digit i) (one (eqb (48 + i % 10)) p))
unfolding symbol_text
symbol_split i p = ap (one (eqb 118)) (go (ltb i 10) refl)
  where
    go : (b : Bool) → ltb i 10 ≡ b → exact (cond b ((48 + i) ∷ []) ((48 + i / 10 % 10) ∷ (48 + i % 10) ∷ [])) p ≡ exact (cond b [] ((48 + i / 10 % 10) ∷ [])) (one (eqb (48 + i % 10)) p)
    go true e =
        let l = ltb-true i 10 e in
        let d : 48 + i ≡ 48 + i % 10 = omega arith in
        ap (λ (c : ℕ). one (eqb c) p) d
    go false e = refl

pub symbol-parts : (i : ℕ) {s : List ℕ} {k : ℕ} {r : Result ℕ ℕ} → Passes (λ p. one (eqb 118) (exact (first_digit i) (one (eqb (48 + i % 10)) p))) s k r → Passes (exact (symbol_text i)) s k r
symbol-parts i {s} {k} x = record { same = λ p. ap (λ (q : Pattern). stops q k (drop k s)) (symbol_split i p) ∙ x.same p }

-- ---- the list

module _ (v : ℕ) {s : List ℕ} {k : ℕ} {r : Result ℕ ℕ} where
  pub list-none : v ≡ 0 → Passes blanks s k r → stops (listed (replicate v any_value)) k (drop k s) ≡ stop_from end s r
  list-none e x = ap (λ (n : ℕ). stops (listed (replicate n any_value)) k (drop k s)) e ∙ x.same end

  pub list-some : (v ≡ 0 → ⊥) → Passes (λ p. mark 40 (pairs 0 (replicate v any_value) (mark 41 (blanks p)))) s k r → stops (listed (replicate v any_value)) k (drop k s) ≡ stop_from end s r
  list-some n x = some-listed v n ∙ x.same end
    where
      some-listed : (m : ℕ) → (m ≡ 0 → ⊥) → stops (listed (replicate m any_value)) k (drop k s) ≡ stops (mark 40 (pairs 0 (replicate m any_value) (mark 41 (blanks end)))) k (drop k s)
      some-listed zero z = absurd (z refl)
      some-listed (suc m) z = refl

-- ---- the end

pub all_fit : (k : ℕ) (u : List ℕ) → stops anything k u ≡ none
unfolding stop derive may_end
all_fit k [] = refl
all_fit k (c ∷ u) = all_fit (suc k) u

module _ (s : List ℕ) (k : ℕ) where
  pub end_none : length s ≤ k → none ≡ stops end k (drop k s)
  unfolding may_end
  end_none l = sym (last-stop s k end l ∙ stop-end derive may_end k refl)

  pub end_some : k < length s → some k ≡ stops end k (drop k s)
  unfolding derive
  end_some l = sym (byte-stop s k end l ∙ stop-off derive may_end k (get_or s k 0) (drop (suc k) s) refl)

  -- behind `unsat`: at the end, and before a byte
  pub claim_end : length s ≤ k → none ≡ stops claim k (drop k s)
  unfolding derive may_end
  claim_end l = sym (last-stop s k claim l ∙ stop-end derive may_end k refl)

  claim-byte : {r : Result ℕ ℕ} → k < length s → Passes (one white_space) s k r → stops claim k (drop k s) ≡ stop_from anything s r
  unfolding derive
  claim-byte l x = same_stop s k claim (one white_space anything) refl (λ m. absurd (omega arith)) ∙ x.same anything

  pub claim_on : {j : ℕ} → k < length s → Passes (one white_space) s k (Ok j) → none ≡ stops claim k (drop k s)
  claim_on {j} l x = sym (claim-byte l x ∙ all_fit j (drop j s))

  pub claim_off : {j : ℕ} → k < length s → Passes (one white_space) s k (Err j) → some j ≡ stops claim k (drop k s)
  claim_off l x = sym (claim-byte l x)

pub ruleset digits_read = (digits-begin, digits-turn, digits-off, digits-done)

pub ruleset pairs_read = (pairs-begin, pairs-turn, pairs-off, pairs-done)

pub ruleset symbol_read = (symbol-parts)

pub ruleset list_read = (list-none, list-some)
