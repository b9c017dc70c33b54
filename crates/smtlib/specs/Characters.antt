-- What each byte may be part of (SMT-LIB 2.6, section 3.1).
use Rattle.std.specs.Prelude.{ℕ, Bool, true, false, cond, not, ◌&&◌, ◌||◌, List, [], ◌∷◌, eqb, leb}
use Rattle.lists.specs.Ascii.{ascii}

-- c is one of these bytes
abbrev pub one_of : List ℕ → ℕ → Bool
one_of [] c = false
one_of (d ∷ s) c = elim (eqb c d) [ true ↦ true | false ↦ one_of s c ]

-- every byte passes the test
unfoldable pub every : (ℕ → Bool) → List ℕ → Bool
every test [] = true
every test (c ∷ s) = test c && every test s

-- c is one of the bytes from a to b
abbrev pub among : ℕ → ℕ → ℕ → Bool
among a b c = leb a c && leb c b

unfoldable pub digit_char : ℕ → Bool
digit_char c = among 48 57 c

unfoldable pub letter_char : ℕ → Bool
letter_char c = among 97 122 c || among 65 90 c

-- what a simple symbol is made of
unfoldable pub symbol_char : ℕ → Bool
symbol_char c = letter_char c || (digit_char c || one_of (ascii "~!@$%^&*_-+=<>.?/") c)

-- what a word is made of: a simple symbol, a reserved word, a number (with # for its base) or a keyword (with a colon)
unfoldable pub word_char : ℕ → Bool
word_char c = symbol_char c || one_of (ascii "#:") c

unfoldable pub line_break : ℕ → Bool
line_break c = one_of (ascii "\n\r") c

unfoldable pub white_space : ℕ → Bool
white_space c = one_of (ascii " \n\t\r") c

-- white space, or printable in Latin-1; what is neither is no character
unfoldable pub character : ℕ → Bool
character c = among 32 126 c || (among 128 255 c || white_space c)

-- what may stand between the bars of a quoted symbol
unfoldable pub quotable : ℕ → Bool
quotable c = character c && not (one_of (ascii "|\\") c)

-- what a byte does outside quoted symbols and comments
pub data Class : Type 0 where
  in_word blank left_paren right_paren semicolon bar no_token : Class

unfoldable pub class_of : ℕ → Class
class_of c =
    cond (word_char c) in_word (
    cond (white_space c) blank (
    cond (eqb c 40) left_paren (
    cond (eqb c 41) right_paren (
    cond (eqb c 59) semicolon (
    cond (eqb c 124) bar no_token)))))
