-- Document 01's form can be read, with models and without: constants in hexadecimal at 16 bits, variables' numbers below 100. Assumes nothing.
use Prim.Native.Nat.{ℕ, ◌+◌, ◌-◌, ◌/◌, ◌%◌, ◌<◌}
use mathlib.Core.Path.{◌≡◌, refl, sym, ap, ◌∙◌}
use mathlib.Core.Bool.{Bool, true, false}
use mathlib.Core.List.{List, [], ◌∷◌, map}
use native.Mathlib.Omega.{arith}
use lib.Dec.{eqb, ltb, lit≤}
use lib.IntN.{ℤ}
use borrow.Author.Tests.{eqb-true, ltb-true}
use Rattle.lists.specs.Names.{same_bytes}
use Rattle.lists.specs.Places.{all_below}
use Rattle.lists.proofs.TestLaws.{and, all_true}
use Rattle.numbers.specs.Two.{enc}
use Rattle.numbers.proofs.Bytes16.{enc16-lt}
use Rattle.smtlib.specs.Characters.{every, letter_char, digit_char, symbol_char}
use Rattle.smtlib.specs.Tokens.{Atom, symbol, hexadecimal, reserved_words, simple}
use Rattle.smtlib.specs.Sexps.{atom}
use Rattle.smtlib.specs.Values.{bits}
use Rattle.smtlib.specs.Theory.{functions, other_names, theory_name}
use Rattle.smtlib.specs.Terms.{Environment, number_of, value}
use Rattle.smtlib.specs.Scripts.{solver_name}
use Rattle.smtlib.specs.Spelling.{digit_byte, spelling, Spelled}
use Rattle.smtlib.proofs.TermLaws.{four_digits, four-number, value-hexadecimal}
use Rattle.smtlib.proofs.Spelling.{spelled-symbol, spelled-hexadecimal}
use Rattle.wording.specs.Sixteen.{hex_digit, hex_text, literal, symbol_text}
use Rattle.wording.specs.Form.{sixteen}
use Rattle.forms.specs.Readable.{Texts, Readable}

-- ---- a constant

unfoldable pub constant16 : ℤ → Atom
constant16 z = hexadecimal (four_digits (enc 16 z))

pub literal-spelling : (z : ℤ) → literal z ≡ spelling (constant16 z)
unfolding literal hex_text hex_digit constant16 digit_byte
literal-spelling z = refl

pub constant-spelled : (z : ℤ) → Spelled (constant16 z)
unfolding constant16
constant-spelled z =
    let x : ℕ = enc 16 z in
    spelled-hexadecimal _ _ (omega arith)

constant-value : (env : Environment) (z : ℤ) → value env (atom (constant16 z)) ≡ bits 16 (enc 16 z)
unfolding constant16
constant-value env z = value-hexadecimal env (four_digits (enc 16 z)) ∙ ap (bits 16) (four-number (enc 16 z) (enc16-lt z))

-- ---- a variable
digit_char_lem : (d : ℕ) → d < 10 → symbol_char (48 + d) ≡ true
unfolding symbol_char letter_char digit_char all_below
digit_char_lem d h = all_true (λ j. symbol_char (48 + j)) 10 refl d h

pub symbol-spelled : (i : ℕ) → Spelled (symbol (symbol_text i))
unfolding same_bytes symbol_text every symbol_char letter_char digit_char reserved_words
symbol-spelled i = spelled-symbol (symbol_text i) (by (ltb i 10) refl) refl
  where
    by : (b : Bool) → ltb i 10 ≡ b → simple (symbol_text i) ≡ true
    by true e = rw e (and (digit_char_lem i (ltb-true i 10 e)) refl)
    by false e = rw e (and (digit_char_lem (i / 10 % 10) (omega arith)) (and (digit_char_lem (i % 10) (omega arith)) refl))

pub symbol-theory : (i : ℕ) → theory_name (symbol_text i) ≡ false
unfolding same_bytes symbol_text functions theory_name other_names
symbol-theory i = refl

pub symbol-solver : (i : ℕ) → solver_name (symbol_text i) ≡ false
unfolding symbol_text
symbol-solver i = refl

-- the number behind the letter
abbrev number_in : List ℕ → ℕ
number_in [] = 0
number_in (c ∷ ds) = number_of 10 (map (λ d. d - 48) ds)

symbol-number : (i : ℕ) → i < 100 → number_in (symbol_text i) ≡ i
unfolding symbol_text all_below
symbol-number i h = eqb-true (number_in (symbol_text i)) i (all_true (λ j. eqb (number_in (symbol_text j)) j) 100 refl i h)

pub symbol-distinct : (i j : ℕ) → i < 100 → j < 100 → symbol_text i ≡ symbol_text j → i ≡ j
symbol-distinct i j h k e = sym (symbol-number i h) ∙ ap number_in e ∙ symbol-number j k

-- ---- the form
pub texts16 : Texts constant16 symbol_text 16 100
texts16 = record { some_bits = lit≤ tt; constants = constant-value; theory = symbol-theory; solver = symbol-solver; distinct = symbol-distinct }

unfoldable pub form16 : (models : Bool) → Readable (sixteen models) 100
form16 models = record { constant = constant16; literals = literal-spelling; constants = constant-spelled; names = symbol-spelled; texts = texts16 }
