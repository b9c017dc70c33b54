-- The form with constants in binary can be read, at every width, with models and without. Assumes nothing.
use Prim.Native.Nat.{ℕ, zero, suc, ◌/◌, ◌%◌, ◌^◌, ◌≤◌, ◌<◌}
use mathlib.Core.Path.{◌≡◌, refl, ap, ap₂, ◌∙◌}
use mathlib.Core.Bool.{Bool}
use mathlib.Core.List.{List, [], ◌∷◌, ◌++◌, map}
use native.Mathlib.Numerals.{unary_clauses}
use native.Mathlib.Omega.{arith}
use lib.ListN.{length, length-append}
use Rattle.lists.specs.Ascii.{ascii}
use Rattle.numbers.specs.Two.{enc}
use Rattle.numbers.proofs.Coding.{enc-lt}
use Rattle.smtlib.specs.Tokens.{binary}
use Rattle.smtlib.specs.Values.{bits}
use Rattle.smtlib.specs.Terms.{number_of}
use Rattle.smtlib.specs.Spelling.{digit_byte, Spelled}
use Rattle.smtlib.proofs.Spelling.{Digits, spelled-binary}
use Rattle.smtlib.proofs.TermLaws.{value-binary}
use Rattle.wording.specs.Binary.{bits_text, in_bits}
use Rattle.forms.specs.Readable.{Readable}
use Rattle.forms.proofs.Digits.{number_append, digits_append, bytes-append}
use Rattle.forms.proofs.Sixteen.{symbol-spelled, symbol-theory, symbol-solver, symbol-distinct}

-- the values of the digits
abbrev bits_of : ℕ → ℕ → List ℕ
bits_of zero x = []
bits_of (suc w) x = bits_of w (x / 2) ++ (x % 2 ∷ [])

bits-bytes : (w x : ℕ) → bits_text w x ≡ map digit_byte (bits_of w x)
bits-bytes zero x = refl
bits-bytes (suc w) x = bytes-append (bits_of w (x / 2)) (x % 2) (omega arith) (bits-bytes w (x / 2))

bits-length : (w x : ℕ) → length (bits_of w x) ≡ w
bits-length zero x = refl
bits-length (suc w) x = length-append (bits_of w (x / 2)) (x % 2 ∷ []) ∙ omega (arith, bits-length w (x / 2))

-- they give the number
bits-number : (w x : ℕ) → x < 2 ^ w → number_of 2 (bits_of w x) ≡ x
bits-number zero x h = omega arith
bits-number (suc w) x h =
    let l = simp unary_clauses at h in
    let e = bits-number w (x / 2) (omega arith) in
    number_append 2 0 (bits_of w (x / 2)) (x % 2) ∙ omega arith

-- they are spelt as SMT-LIB has binary constants
bits-digits : (w x : ℕ) → Digits 2 (bits_of w x)
bits-digits zero x = tt
bits-digits (suc w) x = digits_append 2 (bits_of w (x / 2)) (bits-digits w (x / 2)) (omega arith)

spelled-some : (ds : List ℕ) → 1 ≤ length ds → Digits 2 ds → Spelled (binary ds)
spelled-some [] l h = absurd (omega arith)
spelled-some (d ∷ ds) l h = spelled-binary d ds h

-- ---- the form
pub form-bits : (models : Bool) (w : ℕ) → 1 ≤ w → Readable (in_bits models w) 100
form-bits models w some_bits = record {
  constant = λ z. binary (bits_of w (enc w z));
  literals = λ z. ap (λ (t : List ℕ). ascii "#b" ++ t) (bits-bytes w (enc w z));
  constants = λ z. spelled-some (bits_of w (enc w z)) (rw (bits-length w (enc w z)) some_bits) (bits-digits w (enc w z));
  names = symbol-spelled;
  texts = record {
    some_bits = some_bits;
    constants = λ env z. value-binary env (bits_of w (enc w z)) ∙ ap₂ bits (bits-length w (enc w z)) (bits-number w (enc w z) (enc-lt w z));
    theory = symbol-theory;
    solver = symbol-solver;
    distinct = symbol-distinct;
  };
}
