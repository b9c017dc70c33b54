-- A number in decimal, digit by digit. Assumes nothing.
use Prim.Native.Nat.{ℕ, zero, suc, ◌+◌, ◌-◌, ◌/◌, ◌%◌, ◌^◌, ◌≤◌, ◌<◌, zero-le}
use mathlib.Core.Path.{◌≡◌, refl, sym, ap, ◌∙◌}
use mathlib.Core.List.{List, [], ◌∷◌, ◌++◌}
use native.Mathlib.Decide.{dec_lt}
use native.Mathlib.Nat.{pow-suc, one-le-pow}
use native.Mathlib.Numerals.{add-one}
use native.Mathlib.Omega.{arith}
use borrow.Author.Tests.{lt-ltb, le-ltb}
use lib.Dec.{lit<, lit≤}
use lib.ListN.{length, take, drop, length-append}
use Rattle.room.proofs.RoomLaws.{lent}
use Rattle.numbers.specs.Decimal.{decimal_in, decimal}

-- ---- the first digit alone, and one digit more
one-digit : (f : ℕ) {n : ℕ} → n < 10 → decimal_in (suc f) n ≡ (48 + n) ∷ []
unfolding decimal_in
one-digit f {n} h = rw (lt-ltb n 10 h, decimal_in)

more-digits : (f : ℕ) {n : ℕ} → 10 ≤ n → decimal_in (suc f) n ≡ decimal_in f (n / 10) ++ ((48 + n % 10) ∷ [])
unfolding decimal_in
more-digits f {n} h = rw (le-ltb n 10 h, decimal_in)

-- ---- the last k digits, with zeros in front where there are fewer
abbrev pub last_digits : ℕ → ℕ → List ℕ
last_digits zero n = []
last_digits (suc k) n = last_digits k (n / 10) ++ ((48 + n % 10) ∷ [])

-- a number's digits are so many of its last
own-in : (f n : ℕ) → n < f → decimal_in f n ≡ last_digits (length (decimal_in f n)) n
own-in zero n l = absurd (omega arith)
own-in (suc f) n l =
    elim (dec_lt n 10) [
      | yes h ↦ let e : n ≡ n % 10 = omega arith in rw (one-digit f h) (ap (λ (d : ℕ). (48 + d) ∷ []) e)
      | no h ↦
          let ten : 10 ≤ n = omega arith in
          let less : n / 10 < f = omega arith in
          rw (more-digits f ten, length-append, add-one) (ap (λ (t : List ℕ). t ++ ((48 + n % 10) ∷ [])) (own-in f (n / 10) less))
    ]

pub own-digits : (n : ℕ) → decimal n ≡ last_digits (length (decimal n)) n
unfolding decimal
own-digits n = own-in (suc n) n (omega arith)

-- ---- how many they are: at most and at least k + 1
short-in : (k f n : ℕ) → n < 10 ^ suc k → length (decimal_in f n) ≤ suc k
unfolding decimal_in
short-in k zero n h = zero-le
short-in zero (suc f) n h = rw (one-digit f h) (lit≤ tt)
short-in (suc k) (suc f) n h =
    let p = pow-suc 10 (suc k) in
    let high : n / 10 < 10 ^ suc k = omega arith in
    let rest = short-in k f (n / 10) high in
    elim (dec_lt n 10) [
      | yes l ↦ rw (one-digit f l) (omega arith)
      | no l ↦ let ten : 10 ≤ n = omega arith in rw (more-digits f ten, length-append) (omega arith)
    ]

long-in : (k f n : ℕ) → n < f → (0 < k → 10 ^ k ≤ n) → suc k ≤ length (decimal_in f n)
long-in k zero n l h = absurd (omega arith)
long-in zero (suc f) n l h =
    elim (dec_lt n 10) [
      | yes s ↦ rw (one-digit f s) (lit≤ tt)
      | no s ↦ let ten : 10 ≤ n = omega arith in rw (more-digits f ten, length-append) (omega arith)
    ]
long-in (suc k) (suc f) n l h =
    let low : 10 ^ suc k ≤ n = h (omega arith) in
    let one : 1 ≤ 10 ^ k = one-le-pow k 10 (lit< tt) in
    let p = pow-suc 10 k in
    let ten : 10 ≤ n = omega arith in
    let less : n / 10 < f = omega arith in
    let rest : 10 ^ k ≤ n / 10 = omega arith in
    let more = long-in k f (n / 10) less (λ z. rest) in
    rw (more-digits f ten, length-append) (omega arith)

module _ (k n : ℕ) (h : n < 10 ^ suc k) where
  pub decimal-short : length (decimal n) ≤ suc k
  unfolding decimal
  decimal-short = short-in k (suc n) n h

  pub decimal-length : (0 < k → 10 ^ k ≤ n) → suc k ≡ length (decimal n)
  unfolding decimal
  decimal-length l = let a = short-in k (suc n) n h in let b = long-in k (suc n) n (omega arith) l in omega arith

-- ---- those that the code works out
module _ (n : ℕ) {a b c d e : ℕ} (p : a ≡ 48 + n / 10000 % 10) (q : b ≡ 48 + n / 1000 % 10) (r : c ≡ 48 + n / 100 % 10) (s : d ≡ 48 + n / 10 % 10) (t : e ≡ 48 + n % 10) where
  -- the last k of five
  last-of : (k : ℕ) → k ≤ 5 → drop (5 - k) (a ∷ b ∷ c ∷ d ∷ e ∷ []) ≡ last_digits k n
  last-of zero h = refl
  last-of (suc zero) h = cc
  last-of (suc (suc zero)) h = cc
  last-of (suc (suc (suc zero))) h = let i : n / 10 / 10 ≡ n / 100 = omega arith in cc
  last-of (suc (suc (suc (suc zero)))) h =
      let i : n / 10 / 10 ≡ n / 100 = omega arith in
      let j : n / 10 / 10 / 10 ≡ n / 1000 = omega arith in
      cc
  last-of (suc (suc (suc (suc (suc zero))))) h =
      let i : n / 10 / 10 ≡ n / 100 = omega arith in
      let j : n / 10 / 10 / 10 ≡ n / 1000 = omega arith in
      let l : n / 10 / 10 / 10 / 10 ≡ n / 10000 = omega arith in
      cc
  last-of (suc (suc (suc (suc (suc (suc k)))))) h = absurd (omega arith)

  -- the last of five, as many as there are
  pub of-five : {k : ℕ} → k ≡ length (decimal n) → k ≤ 5 → take (5 - (5 - k)) (drop (5 - k) (a ∷ b ∷ c ∷ d ∷ e ∷ [])) ≡ decimal n
  of-five {k} x h = lent (a ∷ b ∷ c ∷ d ∷ e ∷ []) (5 - k) ∙ last-of k h ∙ rw (← x) at (sym (own-digits n))
