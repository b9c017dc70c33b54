-- Decimal numbers as the code tests and reads them, digit by digit. Assumes nothing.
use Prim.Native.Nat.{ℕ, suc, ◌+◌, ◌-◌, ◌*◌, ◌<◌, ◌≤◌}
use mathlib.Core.Path.{◌≡◌, refl, sym, ap, ◌∙◌}
use mathlib.Core.Bool.{Bool, true, false, not, cond, ◌&&◌, and-false, false≢true}
use mathlib.Core.List.{List, [], ◌∷◌}
use native.Mathlib.Numerals.{add-one}
use native.Mathlib.Omega.{arith}
use lib.Dec.{eqb, leb}
use lib.IntN.{pos, neg_ℤ}
use lib.ListN.{length, get_or, take, drop, drop_of_length-le}
use lib.Seq.{drop-cons}
use borrow.Author.Tests.{ne_eqb, le-leb, lt-leb, leb-true}
use Rattle.std.specs.Char.{is_ascii_digit}
use Rattle.std.specs.Str.{bytes_eq}
use Rattle.lists.proofs.TestLaws.{both, and}
use Rattle.texts.specs.Numbers.{is_digit, all_digits, value_from, spare_zero, is_decimal, zero_first, is_number, number_of}
use Rattle.texts.proofs.NumberLaws.{digit-bounds, value_grows}

-- ---- digits

ascii-digit : (c : ℕ) → is_ascii_digit c ≡ is_digit c
unfolding is_digit
ascii-digit c = refl

pub digit_least : (c : ℕ) → is_digit c ≡ true → 48 ≤ c
digit_least c e = (digit-bounds c e).0

-- ---- digits whose number is at most so much

pub at_most : ℕ → ℕ → List ℕ → Bool
at_most most n s = all_digits s && leb (value_from n s) most

pub at-most-is : (most : ℕ) (s : List ℕ) → at_most most 0 s ≡ all_digits s && leb (value_from 0 s) most
unfolding at_most
at-most-is most s = refl

digit-none : (most n c : ℕ) (s : List ℕ) → is_digit c ≡ false → at_most most n (c ∷ s) ≡ false
unfolding at_most all_digits
digit-none most n c s e = rw e

digit-more : (most n c : ℕ) (s : List ℕ) → is_digit c ≡ true → at_most most n (c ∷ s) ≡ at_most most (10 * n + (c - 48)) s
unfolding at_most all_digits
digit-more most n c s e = rw e

too_much : (most n : ℕ) (s : List ℕ) → most < n → at_most most n s ≡ false
unfolding at_most
too_much most n s h = rw (lt-leb (value_from n s) most (omega (arith, value_grows s n)), and-false)

digits-over : (most n : ℕ) → n ≤ most → at_most most n [] ≡ true
unfolding at_most all_digits
digits-over most n h = le-leb n most h

-- the test is that of the digits from k on, behind n
pub record Bounding (most : ℕ) (s : List ℕ) (n k : ℕ) : Type 0 where
  pub low : n ≤ most
  pub same : at_most most 0 s ≡ at_most most n (drop k s)

module _ {most : ℕ} {s : List ℕ} {n k : ℕ} (w : Bounding most s n k) where
  split : k < length s → at_most most 0 s ≡ at_most most n (get_or s k 0 ∷ drop (suc k) s)
  split h = w.same ∙ ap (at_most most n) (drop-cons s k 0 h)

  module _ {d : Bool} (h : k < length s) (e : d ≡ is_ascii_digit (get_or s k 0)) where
    tested : d ≡ is_digit (get_or s k 0)
    tested = e ∙ ascii-digit _

    pub bounding-none : d ≡ false → false ≡ all_digits s && leb (value_from 0 s) most
    bounding-none f = sym (sym (at-most-is most s) ∙ split h ∙ digit-none most n _ _ (sym tested ∙ f))

    pub bounding-fits : most ≤ 32768 → d ≡ true → (n ≤ 32768) × (is_digit (get_or s k 0) ≡ true)
    bounding-fits l f = (omega (arith, w.low), sym tested ∙ f)

    module _ {m : ℕ} (f : d ≡ true) (q : m ≡ 10 * n + (get_or s k 0 - 48)) where
      turned : at_most most 0 s ≡ at_most most m (drop (suc k) s)
      turned = split h ∙ digit-more most n _ _ (sym tested ∙ f) ∙ ap (λ (j : ℕ). at_most most j (drop (suc k) s)) (sym q)

      pub bounding-over : most < m → false ≡ all_digits s && leb (value_from 0 s) most
      bounding-over l = sym (sym (at-most-is most s) ∙ turned ∙ too_much most m _ l)

      pub bounding-turn : m ≤ most → Bounding most s m (k + 1)
      bounding-turn l = record { low = l; same = rw add-one turned }

  pub bounding-end : length s ≤ k → true ≡ all_digits s && leb (value_from 0 s) most
  bounding-end h = sym (sym (at-most-is most s) ∙ w.same ∙ ap (at_most most n) (drop_of_length-le s h) ∙ digits-over most n w.low)

-- ---- decimal numbers

pub decimal_tests : (most : ℕ) (s : List ℕ) → is_decimal most s ≡ not (eqb (length s) 0) && not (spare_zero s) && (all_digits s && leb (value_from 0 s) most)
unfolding is_decimal
decimal_tests most [] = refl
decimal_tests most (c ∷ s) = rw (ne_eqb (suc (length s)) 0 (omega arith)) (by (all_digits (c ∷ s)) (not (spare_zero (c ∷ s))) (leb (value_from 0 (c ∷ s)) most))
  where
    by : (x y z : Bool) → x && (y && z) ≡ y && (x && z)
    by true true z = refl
    by true false z = refl
    by false true z = refl
    by false false z = refl

-- what a decimal number gives
pub decimal-parts : (most : ℕ) (s : List ℕ) → is_decimal most s ≡ true → (all_digits s ≡ true) × (value_from 0 s ≤ most)
unfolding is_decimal
decimal-parts most [] e = absurd (false≢true e)
decimal-parts most (c ∷ s) e =
    let w = both (all_digits (c ∷ s)) _ e in
    (w.0, leb-true _ _ (both (not (spare_zero (c ∷ s))) _ w.1).1)

pub decimal-wider : (s : List ℕ) → is_decimal 32767 s ≡ true → is_decimal 32768 s ≡ true
unfolding is_decimal
decimal-wider [] e = absurd (false≢true e)
decimal-wider (c ∷ s) e =
    let w = both (all_digits (c ∷ s)) _ e in
    let v = both (not (spare_zero (c ∷ s))) _ w.1 in
    let h = leb-true (value_from 0 (c ∷ s)) 32767 v.1 in
    and w.0 (and v.0 (le-leb (value_from 0 (c ∷ s)) 32768 (omega arith)))

-- ---- their sum: n stands for the first k digits

pub record Summing (s : List ℕ) (n k : ℕ) : Type 0 where
  pub digits : all_digits (drop k s) ≡ true
  pub low : value_from 0 s ≤ 32768
  pub same : value_from 0 s ≡ value_from n (drop k s)

pub summing-begin : (s : List ℕ) → is_decimal 32768 s ≡ true → Summing s 0 0
summing-begin s e = let w = decimal-parts 32768 s e in record { digits = w.0; low = w.1; same = refl }

first-digit : (c : ℕ) (s : List ℕ) → all_digits (c ∷ s) ≡ true → (is_digit c ≡ true) × (all_digits s ≡ true)
unfolding all_digits
first-digit c s e = both (is_digit c) (all_digits s) e

module _ {s : List ℕ} {n k : ℕ} (w : Summing s n k) where
  here : k < length s → (is_digit (get_or s k 0) ≡ true) × (all_digits (drop (suc k) s) ≡ true)
  here h = first-digit _ _ (sym (ap all_digits (drop-cons s k 0 h)) ∙ w.digits)

  pub summing-fits : k < length s → (n ≤ 32768) × (is_digit (get_or s k 0) ≡ true)
  summing-fits h = (omega (arith, w.low, w.same, value_grows (drop k s) n), (here h).0)

  pub summing-turn : k < length s → {m : ℕ} → m ≡ 10 * n + (get_or s k 0 - 48) → Summing s m (k + 1)
  summing-turn h {m} e = record {
    digits = rw add-one (here h).1;
    low = w.low;
    same = rw add-one (w.same ∙ ap (value_from n) (drop-cons s k 0 h) ∙ ap (λ (j : ℕ). value_from j (drop (suc k) s)) (sym e));
  }

-- ---- numbers with their sign

-- the bytes begin with a minus sign
abbrev pub minus_first : List ℕ → Bool
minus_first s = bytes_eq (take 1 s) (45 ∷ [])

minus-at : (c : ℕ) (s : List ℕ) {A : Type 0} (x y : A) → elim (eqb c 45) [ true ↦ x | false ↦ y ] ≡ cond (minus_first (c ∷ s)) x y
minus-at c s x y = by (eqb c 45)
  where
    by : (b : Bool) → elim b [ true ↦ x | false ↦ y ] ≡ cond (b && true) x y
    by true = refl
    by false = refl

pub signed_tests : (s : List ℕ) → is_number s ≡ cond (minus_first s) (not (zero_first (drop 1 s)) && is_decimal 32768 (drop 1 s)) (is_decimal 32767 s)
unfolding is_number is_decimal
signed_tests [] = refl
signed_tests (c ∷ s) = minus-at c s (not (zero_first s) && is_decimal 32768 s) (is_decimal 32767 (c ∷ s))

module _ (s : List ℕ) (e : is_number s ≡ true) where
  pub minus_decimal : minus_first s ≡ true → is_decimal 32768 (drop 1 s) ≡ true
  minus_decimal m = (both (not (zero_first (drop 1 s))) _ (sym (signed_tests s ∙ ap (λ (b : Bool). cond b (not (zero_first (drop 1 s)) && is_decimal 32768 (drop 1 s)) (is_decimal 32767 s)) m) ∙ e)).1

  plain : minus_first s ≡ false → is_decimal 32767 s ≡ true
  plain m = sym (signed_tests s ∙ ap (λ (b : Bool). cond b (not (zero_first (drop 1 s)) && is_decimal 32768 (drop 1 s)) (is_decimal 32767 s)) m) ∙ e

  pub plain_decimal : minus_first s ≡ false → is_decimal 32768 s ≡ true
  plain_decimal m = decimal-wider s (plain m)

  pub plain_small : minus_first s ≡ false → value_from 0 s < 32768
  plain_small m = omega (arith, (decimal-parts 32767 s (plain m)).1)

pub value_tests : (s : List ℕ) → number_of s ≡ cond (minus_first s) (neg_ℤ (pos (value_from 0 (drop 1 s)))) (pos (value_from 0 s))
unfolding number_of
value_tests [] = refl
value_tests (c ∷ s) = minus-at c s (neg_ℤ (pos (value_from 0 s))) (pos (value_from 0 (c ∷ s)))
