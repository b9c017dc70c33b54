-- A text's bytes as tokens (SMT-LIB 2.6, section 3.1). String literals and decimals are rejected: no command or term that is read here has one.
use Rattle.std.specs.Prelude.{ℕ, ◌-◌, Bool, true, false, cond, not, ◌&&◌, List, [], ◌∷◌, ◌++◌, eqb, ltb}
use Rattle.std.proofs.Math.Option.{Option, none, some}
use Rattle.lists.specs.Names.{listed, words}
use Rattle.smtlib.specs.Characters.{every, among, digit_char, symbol_char, line_break, character, quotable, Class, in_word, blank, left_paren, right_paren, semicolon, bar, no_token, class_of}

-- a token that is no parenthesis; numbers are given by the values of their digits, the first one first
pub data Atom : Type 0 where
  -- by its name: v0 and |v0| are one symbol
  symbol : List ℕ → Atom
  reserved : List ℕ → Atom
  numeral hexadecimal binary : List ℕ → Atom
  -- without its colon
  keyword : List ℕ → Atom

pub data Token : Type 0 where
  opening closing : Token
  single : Atom → Token
  -- bytes that are no token
  wrong : Token

-- the reserved words, and then the names of commands, which are reserved too
unfoldable pub reserved_words : List (List ℕ)
reserved_words =
    words "_ ! as let exists forall match par BINARY DECIMAL HEXADECIMAL NUMERAL STRING"
    ++ (words "assert check-sat check-sat-assuming declare-const declare-datatype declare-datatypes declare-fun declare-sort"
    ++ (words "define-fun define-fun-rec define-funs-rec define-sort echo exit get-assertions get-assignment get-info get-model"
    ++ (words "get-option get-proof get-unsat-assumptions get-unsat-core get-value pop push reset reset-assertions"
    ++ words "set-info set-logic set-option")))

-- ---- words

-- a digit's value, in either case; 16 where the byte is no digit
unfoldable pub digit_value : ℕ → ℕ
digit_value c = cond (digit_char c) (c - 48) (cond (among 97 102 c) (c - 87) (cond (among 65 70 c) (c - 55) 16))

-- the values of digits to a base up to 16
unfoldable pub digits : ℕ → List ℕ → Option (List ℕ)
digits base [] = some []
digits base (c ∷ s) = elim (digits base s) [
  | none ↦ none
  | some ds ↦ elim (ltb (digit_value c) base) [ true ↦ some (digit_value c ∷ ds) | false ↦ none ]
]

-- spelled as a simple symbol is
abbrev pub simple : List ℕ → Bool
simple [] = false
simple (c ∷ s) = not (digit_char c) && every symbol_char (c ∷ s)

-- a number has at least one digit
abbrev pub number : (List ℕ → Atom) → Option (List ℕ) → Token
number kind none = wrong
number kind (some []) = wrong
number kind (some (d ∷ ds)) = single (kind (d ∷ ds))

-- a numeral begins with 0 only if it is 0
abbrev pub leading_zero : List ℕ → Bool
leading_zero [] = false
leading_zero (c ∷ []) = false
leading_zero (c ∷ d ∷ s) = eqb c 48

abbrev pub hashed : List ℕ → Token
hashed [] = wrong
hashed (c ∷ s) = cond (eqb c 120) (number hexadecimal (digits 16 s)) (cond (eqb c 98) (number binary (digits 2 s)) wrong)

abbrev pub plain_word : List ℕ → Token
plain_word w = cond (simple w) (single (cond (listed reserved_words w) (reserved w) (symbol w))) wrong

-- the token of a whole word, by its first byte
unfoldable pub token_of : List ℕ → Token
token_of [] = wrong
token_of (c ∷ s) =
    cond (digit_char c) (cond (leading_zero (c ∷ s)) wrong (number numeral (digits 10 (c ∷ s)))) (
    cond (eqb c 35) (hashed s) (
    cond (eqb c 58) (cond (simple s) (single (keyword s)) wrong) (plain_word (c ∷ s))))

-- ---- the whole text

-- where in the text: outside, behind the bytes of a word that has begun; in a quoted symbol, behind these bytes; in a comment
pub data Mode : Type 0 where
  outside in_quotes : List ℕ → Mode
  in_comment : Mode

-- the word that ends here, if one has begun
abbrev pub ended : List ℕ → List Token → List Token
ended [] ts = ts
ended (c ∷ w) ts = token_of (c ∷ w) ∷ ts

-- outside, at a byte of a class
abbrev pub outside_at : List ℕ → ℕ → Class → List Token × Mode
outside_at w c in_word = ([], outside (w ++ (c ∷ [])))
outside_at w c blank = (ended w [], outside [])
outside_at w c left_paren = (ended w (opening ∷ []), outside [])
outside_at w c right_paren = (ended w (closing ∷ []), outside [])
outside_at w c semicolon = (ended w [], in_comment)
outside_at w c bar = (ended w [], in_quotes [])
outside_at w c no_token = (wrong ∷ [], outside [])

-- the tokens that are complete at a byte, and the mode behind it
unfoldable pub step : Mode → ℕ → List Token × Mode
step (outside w) c = outside_at w c (class_of c)
step (in_quotes w) c = cond (eqb c 124) (single (symbol w) ∷ [], outside []) (cond (quotable c) ([], in_quotes (w ++ (c ∷ []))) (wrong ∷ [], in_quotes w))
step in_comment c = cond (line_break c) ([], outside []) (cond (character c) ([], in_comment) (wrong ∷ [], in_comment))

-- a comment may end with the text, a quoted symbol may not
abbrev pub last : Mode → List Token
last (outside w) = ended w []
last (in_quotes w) = wrong ∷ []
last in_comment = []

unfoldable pub tokens : Mode → List ℕ → List Token
tokens m [] = last m
tokens m (c ∷ s) = (step m c).0 ++ tokens (step m c).1 s
