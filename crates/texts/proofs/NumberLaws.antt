-- Decimal numbers of 16 bits: the test holds of what `signed` writes and of nothing else, and the value is the number written. Assumes nothing.
use Prim.Native.Nat.{ℕ, zero, suc, ◌+◌, ◌*◌, ◌-◌, ◌/◌, ◌%◌, ◌≤◌, ◌<◌}
use mathlib.Core.Path.{◌≡◌, refl, sym, ap, ◌∙◌}
use mathlib.Core.Bool.{Bool, true, false, not, ◌&&◌, true≢false, false≢true}
use mathlib.Core.List.{List, [], ◌∷◌, ◌++◌, append_assoc, append-nil}
use native.Mathlib.Omega.{arith}
use lib.Dec.{eqb, leb, ltb}
use lib.IntN.{ℤ, pos, negsuc, neg_ℤ}
use lib.ListN.{length, length-append}
use borrow.Author.Tests.{eqb-true, ne_eqb, eq-eqb, leb-true, le-leb, ltb-true, ltb-false, lt-ltb, le-ltb, not-true}
use Rattle.lists.proofs.TestLaws.{both, and}
use Rattle.numbers.specs.Ranges.{Narrow}
use Rattle.numbers.specs.Decimal.{decimal_in, decimal, signed}
use Rattle.numbers.proofs.Zed.{zed, pos-ud, negsuc-ud}
use Rattle.texts.specs.Numbers.{is_digit, all_digits, value_from, spare_zero, is_decimal, zero_first, is_number, number_of}

not-of : {t : Bool} → t ≡ false → not t ≡ true
not-of e = rw e

-- ---- digits

pub digit-bounds : (c : ℕ) → is_digit c ≡ true → (48 ≤ c) × (c ≤ 57)
unfolding is_digit
digit-bounds c e = let w = both (leb 48 c) (leb c 57) e in (leb-true 48 c w.0, leb-true c 57 w.1)

bounds-digit : (c : ℕ) → 48 ≤ c → c ≤ 57 → is_digit c ≡ true
unfolding is_digit
bounds-digit c l h = and (le-leb 48 c l) (le-leb c 57 h)

digit-first : (c : ℕ) (s : List ℕ) → all_digits (c ∷ s) ≡ true → (is_digit c ≡ true) × (all_digits s ≡ true)
unfolding all_digits
digit-first c s e = both (is_digit c) (all_digits s) e

digits_more : (t : List ℕ) (c : ℕ) → all_digits t ≡ true → is_digit c ≡ true → all_digits (t ++ (c ∷ [])) ≡ true
unfolding all_digits
digits_more [] c e h = and h refl
digits_more (d ∷ t) c e h = let w = both (is_digit d) (all_digits t) e in and w.0 (digits_more t c w.1 h)

value-more : (t : List ℕ) (n c : ℕ) → value_from n (t ++ (c ∷ [])) ≡ 10 * value_from n t + (c - 48)
value-more [] n c = refl
value-more (d ∷ t) n c = value-more t (10 * n + (d - 48)) c

-- further digits make a number no smaller
pub value_grows : (s : List ℕ) (n : ℕ) → n ≤ value_from n s
value_grows [] n = omega arith
value_grows (c ∷ s) n = let h = value_grows s (10 * n + (c - 48)) in omega arith

-- a digit that isn't 0
not-zero : (c : ℕ) → is_digit c ≡ true → eqb c 48 ≡ false → 1 ≤ c - 48
not-zero c e z = by (c - 48) refl
  where
    by : (m : ℕ) → c - 48 ≡ m → 1 ≤ m
    by zero h = let b = digit-bounds c e in let q : c ≡ 48 = omega arith in absurd (true≢false (sym (eq-eqb c 48 q) ∙ z))
    by (suc m) h = omega arith

-- where no zero is first, none is spare
lead-spare : (t : List ℕ) → zero_first t ≡ false → spare_zero t ≡ false
lead-spare [] e = refl
lead-spare (c ∷ []) e = refl
lead-spare (c ∷ d ∷ s) e = e

lead-more : (t : List ℕ) (c : ℕ) → 1 ≤ length t → zero_first t ≡ false → zero_first (t ++ (c ∷ [])) ≡ false
lead-more [] c l e = absurd (omega arith)
lead-more (d ∷ t) c l e = e

-- ---- what is written is a decimal number

-- t is n in decimal
record Written (n : ℕ) (t : List ℕ) : Type 0 where
  some : 1 ≤ length t
  digits : all_digits t ≡ true
  value : value_from 0 t ≡ n
  spare : spare_zero t ≡ false
  lead : 1 ≤ n → zero_first t ≡ false

one-digit : {n : ℕ} → n < 10 → Written n ((48 + n) ∷ [])
unfolding all_digits
one-digit {n} h = record {
  some = omega arith;
  digits = and (bounds-digit (48 + n) (omega arith) (omega arith)) refl;
  value = omega arith;
  spare = refl;
  lead = λ l. ne_eqb (48 + n) 48 (λ e. omega arith);
}

digit-more : {n : ℕ} {t : List ℕ} → 10 ≤ n → Written (n / 10) t → Written n (t ++ ((48 + n % 10) ∷ []))
digit-more {n} {t} h w =
    let lead = lead-more t (48 + n % 10) w.some (w.lead (omega arith)) in
    record {
      some = omega (arith, length-append t ((48 + n % 10) ∷ []), w.some);
      digits = digits_more t (48 + n % 10) w.digits (bounds-digit (48 + n % 10) (omega arith) (omega arith));
      value = omega (arith, value-more t 0 (48 + n % 10), w.value);
      spare = lead-spare (t ++ ((48 + n % 10) ∷ [])) lead;
      lead = λ l. lead;
    }

written_in : (k n : ℕ) → n < k → Written n (decimal_in k n)
unfolding decimal_in
written_in zero n h = absurd (omega arith)
written_in (suc k) n h = by (ltb n 10) refl (written_in k (n / 10))
  where
    by : (b : Bool) → ltb n 10 ≡ b → (n / 10 < k → Written (n / 10) (decimal_in k (n / 10))) → Written n (elim b [ true ↦ (48 + n) ∷ [] | false ↦ decimal_in k (n / 10) ++ ((48 + n % 10) ∷ []) ])
    by true e more = one-digit (ltb-true n 10 e)
    by false e more = let l = ltb-false n 10 e in digit-more l (more (omega arith))

written : (n : ℕ) → Written n (decimal n)
unfolding decimal
written n = written_in (suc n) n (omega arith)

pub decimal-digits : (n : ℕ) → all_digits (decimal n) ≡ true
decimal-digits n = (written n).digits

written_is : {n most : ℕ} (t : List ℕ) → n ≤ most → Written n t → is_decimal most t ≡ true
unfolding is_decimal
written_is [] l w = absurd (omega (arith, w.some))
written_is {n} {most} (c ∷ s) l w = and w.digits (and (not-of w.spare) (le-leb (value_from 0 (c ∷ s)) most (omega (arith, w.value))))

-- ---- and a decimal number is what is written

-- any fuel that is enough gives the same
fuel : (k m n : ℕ) → n < k → n < m → decimal_in k n ≡ decimal_in m n
unfolding decimal_in
fuel zero m n h l = absurd (omega arith)
fuel (suc k) zero n h l = absurd (omega arith)
fuel (suc k) (suc m) n h l = by (ltb n 10) refl (fuel k m (n / 10))
  where
    by : (b : Bool) → ltb n 10 ≡ b → (n / 10 < k → n / 10 < m → decimal_in k (n / 10) ≡ decimal_in m (n / 10)) →
        ◌≡◌ {A = List ℕ} (elim b [ true ↦ (48 + n) ∷ [] | false ↦ decimal_in k (n / 10) ++ ((48 + n % 10) ∷ []) ]) (elim b [ true ↦ (48 + n) ∷ [] | false ↦ decimal_in m (n / 10) ++ ((48 + n % 10) ∷ []) ])
    by true e more = refl
    by false e more = let q = ltb-false n 10 e in ap (λ (t : List ℕ). t ++ ((48 + n % 10) ∷ [])) (more (omega arith) (omega arith))

decimal-one : {n : ℕ} → n < 10 → decimal n ≡ (48 + n) ∷ []
unfolding decimal decimal_in
decimal-one {n} h = rw (lt-ltb n 10 h, decimal_in)

decimal-long : {m n d : ℕ} → m ≡ 10 * n + d → 1 ≤ n → d < 10 → decimal m ≡ decimal n ++ ((48 + d) ∷ [])
unfolding decimal decimal_in
decimal-long {m} {n} {d} e h l =
    let f : m / 10 ≡ n = omega arith in
    let g : m % 10 ≡ d = omega arith in
    let b : 10 ≤ m = omega arith in
    rw (le-ltb m 10 b, decimal_in, f, g) (ap (λ (t : List ℕ). t ++ ((48 + d) ∷ [])) (fuel m (suc n) n (omega arith) (omega arith)))

-- digits behind a number that is not zero
decimal-on : (s : List ℕ) (n : ℕ) → 1 ≤ n → all_digits s ≡ true → decimal (value_from n s) ≡ decimal n ++ s
decimal-on [] n h e = sym (append-nil (decimal n))
decimal-on (c ∷ s) n h e =
    let w = digit-first c s e in
    let b = digit-bounds c w.0 in
    let q : 48 + (c - 48) ≡ c = omega arith in
    decimal-on s (10 * n + (c - 48)) (omega arith) w.1
    ∙ ap (λ (t : List ℕ). t ++ s) (decimal-long refl h (omega arith) ∙ ap (λ (x : ℕ). decimal n ++ (x ∷ [])) q)
    ∙ append_assoc (decimal n) (c ∷ []) s

decimal-of : (c : ℕ) (s : List ℕ) → all_digits (c ∷ s) ≡ true → spare_zero (c ∷ s) ≡ false → decimal (value_from 0 (c ∷ s)) ≡ c ∷ s
decimal-of c [] e z =
    let b = digit-bounds c (digit-first c [] e).0 in
    let q : 48 + (10 * 0 + (c - 48)) ≡ c = omega arith in
    decimal-one (omega arith) ∙ ap (λ (x : ℕ). x ∷ []) q
decimal-of c (d ∷ s) e z =
    let w = digit-first c (d ∷ s) e in
    let b = digit-bounds c w.0 in
    let q : 48 + (10 * 0 + (c - 48)) ≡ c = omega arith in
    let a = not-zero c w.0 z in
    decimal-on (d ∷ s) (10 * 0 + (c - 48)) (omega arith) w.1
    ∙ ap (λ (t : List ℕ). t ++ (d ∷ s)) (decimal-one (omega arith) ∙ ap (λ (x : ℕ). x ∷ []) q)

-- what the test of a decimal number gives
record Right (most : ℕ) (t : List ℕ) : Type 0 where
  digits : all_digits t ≡ true
  bound : value_from 0 t ≤ most
  text : decimal (value_from 0 t) ≡ t

decimal-right : (most : ℕ) (t : List ℕ) → is_decimal most t ≡ true → Right most t
unfolding is_decimal
decimal-right most [] e = absurd (false≢true e)
decimal-right most (c ∷ s) e =
    let w = both (all_digits (c ∷ s)) (not (spare_zero (c ∷ s)) && leb (value_from 0 (c ∷ s)) most) e in
    let v = both (not (spare_zero (c ∷ s))) (leb (value_from 0 (c ∷ s)) most) w.1 in
    record {
      digits = w.0;
      bound = leb-true (value_from 0 (c ∷ s)) most v.1;
      text = decimal-of c s w.0 (not-true (spare_zero (c ∷ s)) v.0);
    }

-- ---- with a sign

-- no digit is a minus
no_minus : (c : ℕ) (s : List ℕ) → all_digits (c ∷ s) ≡ true → eqb c 45 ≡ false
no_minus c s e = let b = digit-bounds c (digit-first c s e).0 in ne_eqb c 45 (λ q. omega arith)

plain-number : (t : List ℕ) → all_digits t ≡ true → is_decimal 32767 t ≡ true → is_number t ≡ true
unfolding is_number is_decimal
plain-number [] d e = absurd (false≢true e)
plain-number (c ∷ s) d e = rw (no_minus c s d, is_number) e

plain_value : (t : List ℕ) → all_digits t ≡ true → number_of t ≡ pos (value_from 0 t)
unfolding number_of
plain_value [] d = refl
plain_value (c ∷ s) d = rw (no_minus c s d, number_of)

pub number_is : {z : ℤ} → Narrow z → is_number (signed z) ≡ true
unfolding signed is_number
number_is {z = pos n} h =
    let l : n ≤ 32767 = omega (zed, h.high, pos-ud n, pos-ud 32767) in
    plain-number (decimal n) (decimal-digits n) (written_is (decimal n) l (written n))
number_is {z = negsuc n} h =
    let l : suc n ≤ 32768 = omega (zed, h.low, negsuc-ud n, negsuc-ud 32767) in
    and (not-of ((written (suc n)).lead (omega arith))) (written_is (decimal (suc n)) l (written (suc n)))

pub number-of : {z : ℤ} → Narrow z → number_of (signed z) ≡ z
unfolding signed number_of
number-of {z = pos n} h = plain_value (decimal n) (decimal-digits n) ∙ ap pos (written n).value
number-of {z = negsuc n} h = ap (λ (m : ℕ). neg_ℤ (pos m)) (written (suc n)).value

-- the ends of 16 bits
narrow-pos : {n : ℕ} → n ≤ 32767 → Narrow (pos n)
narrow-pos {n} h = omega (zed, pos-ud n, pos-ud 32767, negsuc-ud 32767)

narrow-neg : {n : ℕ} → suc n ≤ 32768 → Narrow (negsuc n)
narrow-neg {n} h = omega (zed, negsuc-ud n, pos-ud 32767, negsuc-ud 32767)

-- below zero: the value is not 0
below : (m : ℕ) (s : List ℕ) → 1 ≤ m → m ≤ 32768 → decimal m ≡ s → Narrow (neg_ℤ (pos m)) × (signed (neg_ℤ (pos m)) ≡ 45 ∷ s)
unfolding signed
below zero s l h e = absurd (omega arith)
below (suc m) s l h e = (narrow-neg h, ap (λ (t : List ℕ). 45 ∷ t) e)

some-value : (s : List ℕ) → zero_first s ≡ false → 1 ≤ length s → all_digits s ≡ true → 1 ≤ value_from 0 s
some-value [] z l e = absurd (omega arith)
some-value (c ∷ s) z l e =
    let b = digit-bounds c (digit-first c s e).0 in
    let g = value_grows s (10 * 0 + (c - 48)) in
    let p = not-zero c (digit-first c s e).0 z in
    omega arith

some-decimal : (most : ℕ) (s : List ℕ) → is_decimal most s ≡ true → 1 ≤ length s
unfolding is_decimal
some-decimal most [] e = absurd (false≢true e)
some-decimal most (c ∷ s) e = omega arith

pub is-number : (w : List ℕ) → is_number w ≡ true → Narrow (number_of w) × (signed (number_of w) ≡ w)
unfolding is_number number_of signed
is-number [] e = absurd (false≢true e)
is-number (c ∷ s) e = by (eqb c 45) refl e
  where
    by : (b : Bool) → eqb c 45 ≡ b → elim b [ true ↦ not (zero_first s) && is_decimal 32768 s | false ↦ is_decimal 32767 (c ∷ s) ] ≡ true →
        Narrow (elim b [ true ↦ neg_ℤ (pos (value_from 0 s)) | false ↦ pos (value_from 0 (c ∷ s)) ]) × (signed (elim b [ true ↦ neg_ℤ (pos (value_from 0 s)) | false ↦ pos (value_from 0 (c ∷ s)) ]) ≡ c ∷ s)
    by true h k =
        let w = both (not (zero_first s)) (is_decimal 32768 s) k in
        let r = decimal-right 32768 s w.1 in
        let v = some-value s (not-true (zero_first s) w.0) (some-decimal 32768 s w.1) r.digits in
        let m = below (value_from 0 s) s v r.bound r.text in
        (m.0, m.1 ∙ ap (λ (x : ℕ). x ∷ s) (sym (eqb-true c 45 h)))
    by false h k = let r = decimal-right 32767 (c ∷ s) k in (narrow-pos r.bound, r.text)
