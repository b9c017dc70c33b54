-- A number in decimal: it is what `io::decimal` writes, and how many digits it has. Assumes nothing.
use Prim.Native.Nat.{ℕ, zero, suc, ◌+◌, ◌-◌, ◌/◌, ◌%◌, ◌≤◌, ◌<◌}
use mathlib.Core.Path.{◌≡◌, refl, sym, ap₂, ◌∙◌}
use mathlib.Core.List.{List, [], ◌∷◌, ◌++◌}
use native.Mathlib.Omega.{arith}
use borrow.Author.Tests.{lt-ltb}
use lib.ListN.{length, take}
use mir.Syntax.{w64}
use mir.Val.{Fits}
use Rattle.io.specs.Digits.{hex_digit_ascii, last_digits, IsDigitCount}
use Rattle.numbers.specs.Decimal.{decimal}
use Rattle.spelling.proofs.DigitLaws as digits
use Rattle.phrases.specs.Sizes.{longest_decimal}

-- a digit below ten as `io` has it
digit-low : (n : ℕ) → hex_digit_ascii (n % 10) ≡ 48 + n % 10
digit-low n = let h : n % 10 < 10 = omega arith in rw (lt-ltb (n % 10) 10 h)

-- the last k digits as `io` has them
last-are : (k n : ℕ) → last_digits 10 k n ≡ digits.last_digits k n
last-are zero n = refl
last-are (suc k) n = ap₂ (λ (t : List ℕ) (d : ℕ). t ++ (d ∷ [])) (last-are k (n / 10)) (digit-low n)

decimal-is : {n : ℕ} (k : ℕ) → IsDigitCount 10 1 n k → last_digits 10 k n ≡ decimal n
decimal-is zero w = absurd (omega (arith, w.0))
decimal-is {n} (suc k) w =
    let e : suc k - 1 ≡ k = omega arith in
    let l = digits.decimal-length k n w.1 (λ z. rw e at (w.2 (omega arith))) in
    last-are (suc k) n ∙ rw (← l) at (sym (digits.own-digits n))

pub digits_are : (n k : ℕ) (out : List ℕ) → IsDigitCount 10 1 n k → take k out ≡ last_digits 10 k n → take k out ≡ decimal n
digits_are n k out w e = e ∙ decimal-is k w

-- a number of 64 bits has at most 20 digits
pub decimal-short : {n : ℕ} → Fits w64 n → length (decimal n) ≤ longest_decimal
decimal-short {n} f =
    let h : n < 18446744073709551616 = f.fits in
    digits.decimal-short 19 n (omega arith)
