-- A number's text in decimal is a numeral of SMT-LIB, and the numeral's number is that number. Assumes nothing.
use Prim.Native.Nat.{ℕ, zero, suc, ◌+◌, ◌/◌, ◌%◌, ◌≤◌, ◌<◌}
use mathlib.Core.Path.{◌≡◌, refl, ap, ◌∙◌}
use mathlib.Core.Bool.{Bool, true, false}
use mathlib.Core.List.{List, [], ◌∷◌, ◌++◌, map}
use native.Mathlib.Omega.{arith}
use lib.Dec.{ltb}
use borrow.Author.Tests.{ltb-true, ltb-false}
use Rattle.numbers.specs.Decimal.{decimal_in, decimal}
use Rattle.smtlib.specs.Tokens.{numeral}
use Rattle.smtlib.specs.Terms.{number_of}
use Rattle.smtlib.specs.Spelling.{digit_byte, Spelled}
use Rattle.smtlib.proofs.Spelling.{Digits, spelled-numeral}
use Rattle.forms.proofs.Digits.{number_append, digits_append, digit-byte, bytes-append}

-- the values of the digits, the first one first: at most k, and as many as there are
unfoldable digits_in : ℕ → ℕ → List ℕ
digits_in zero n = []
digits_in (suc k) n = elim (ltb n 10) [ true ↦ n ∷ [] | false ↦ digits_in k (n / 10) ++ (n % 10 ∷ []) ]

pub decimal_digits : ℕ → List ℕ
decimal_digits n = digits_in (suc n) n

-- the first one isn't 0
abbrev Leading : List ℕ → Type 0
Leading [] = ⊥
Leading (d ∷ ds) = 1 ≤ d

leading-append : (ds es : List ℕ) → Leading ds → Leading (ds ++ es)
leading-append [] es h = absurd h
leading-append (d ∷ ds) es h = h

-- the text is n's, and these are its digits
record Written (n : ℕ) (t ds : List ℕ) : Type 0 where
  bytes : t ≡ map digit_byte ds
  digits : Digits 10 ds
  number : number_of 10 ds ≡ n
  leading : 1 ≤ n → Leading ds

one-digit : {n : ℕ} → n < 10 → Written n ((48 + n) ∷ []) (n ∷ [])
one-digit {n} h = record { bytes = ap (λ (b : ℕ). b ∷ []) (digit-byte n h); digits = (h, tt); number = omega arith; leading = λ l. l }

digit-more : {n : ℕ} {t ds : List ℕ} → 10 ≤ n → Written (n / 10) t ds → Written n (t ++ ((48 + n % 10) ∷ [])) (ds ++ (n % 10 ∷ []))
digit-more {n} {t} {ds} h w =
    record {
      bytes = bytes-append ds (n % 10) (omega arith) w.bytes;
      digits = digits_append 10 ds w.digits (omega arith);
      number = number_append 10 0 ds (n % 10) ∙ omega (arith, w.number);
      leading = λ l. leading-append ds (n % 10 ∷ []) (w.leading (omega arith));
    }

written_in : (k n : ℕ) → n < k → Written n (decimal_in k n) (digits_in k n)
unfolding decimal_in digits_in
written_in zero n h = absurd (omega arith)
written_in (suc k) n h = by (ltb n 10) refl (written_in k (n / 10))
  where
    by : (b : Bool) → ltb n 10 ≡ b → (n / 10 < k → Written (n / 10) (decimal_in k (n / 10)) (digits_in k (n / 10)))
        → Written n (elim b [ true ↦ (48 + n) ∷ [] | false ↦ decimal_in k (n / 10) ++ ((48 + n % 10) ∷ []) ]) (elim b [ true ↦ n ∷ [] | false ↦ digits_in k (n / 10) ++ (n % 10 ∷ []) ])
    by true e more = one-digit (ltb-true n 10 e)
    by false e more =
        let l = ltb-false n 10 e in
        digit-more l (more (omega arith))

written : (n : ℕ) → Written n (decimal n) (decimal_digits n)
unfolding decimal decimal_digits
written n = written_in (suc n) n (omega arith)

-- ---- so it is spelt as SMT-LIB has numerals
leading-spelled : (ds : List ℕ) → Leading ds → Digits 10 ds → Spelled (numeral ds)
leading-spelled [] l h = absurd l
leading-spelled (d ∷ ds) l h = spelled-numeral d ds l h

module _ (n : ℕ) where
  pub decimal-bytes : decimal n ≡ map digit_byte (decimal_digits n)
  decimal-bytes = (written n).bytes

  pub decimal-spelled : 1 ≤ n → Spelled (numeral (decimal_digits n))
  decimal-spelled l = leading-spelled (decimal_digits n) ((written n).leading l) (written n).digits

  pub decimal-number : number_of 10 (decimal_digits n) ≡ n
  decimal-number = (written n).number
