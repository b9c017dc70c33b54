-- The replies to a script with v variables (document 02, item 1), in the item's order. No part of a reply is a comment.
use Rattle.std.specs.Prelude.{ℕ, suc, Bool, List, [], ◌∷◌, eqb, ltb, replicate}
use Rattle.lists.specs.Ascii.{ascii}
use Rattle.smtlib.specs.Characters.{white_space}
use Rattle.smtlib.specs.Tokens.{digit_value}
use Rattle.wording.specs.Sixteen.{symbol_text}
use Rattle.grammar.specs.Patterns.{Pattern, end, anything, one, many, either, exact, times, Fits}

-- blanks as SMT-LIB has them, any number, and then
abbrev pub blanks : Pattern → Pattern
blanks p = many white_space p

-- blanks and a parenthesis, and then
abbrev pub mark : ℕ → Pattern → Pattern
mark c p = blanks (one (eqb c) p)

-- behind `unsat`: a blank or the end; the rest isn't read
abbrev pub claim : Pattern
claim = either end (one white_space anything)

-- a variable and its value: two words, so at least one blank between them
abbrev pub pair : ℕ → (Pattern → Pattern) → Pattern → Pattern
pair i value p = mark 40 (blanks (exact (symbol_text i) (one white_space (blanks (value (mark 41 p))))))

-- each variable once, in order, from number i on
abbrev pub pairs : ℕ → List (Pattern → Pattern) → Pattern → Pattern
pairs i [] p = p
pairs i (value ∷ values) p = pair i value (pairs (suc i) values p)

-- behind `sat`: where there are variables, the list; then nothing but blanks
abbrev pub listed : List (Pattern → Pattern) → Pattern
listed [] = blanks end
listed (value ∷ values) = mark 40 (pairs 0 (value ∷ values) (mark 41 (blanks end)))

-- a reply whose values are spelled so; blanks may stand before its first word
abbrev pub reply_of : List (Pattern → Pattern) → Pattern
reply_of values = blanks (either (exact (ascii "unsat") claim) (exact (ascii "sat") (listed values)))

-- the bits of a value, and how many digits of each kind spell them
abbrev pub value_bits : ℕ
value_bits = 16

abbrev pub hex_digits : ℕ
hex_digits = 4

abbrev pub binary_digits : ℕ
binary_digits = 16

-- a digit to the base, a letter in either case
abbrev pub digit_to : ℕ → ℕ → Bool
digit_to base c = ltb (digit_value c) base

-- any value: four hexadecimal digits or sixteen binary ones
abbrev pub any_value : Pattern → Pattern
any_value p = exact (ascii "#") (either (exact (ascii "x") (times hex_digits (digit_to 16) p)) (exact (ascii "b") (times binary_digits (digit_to 2) p)))

-- a reply for v variables
abbrev pub reply_for : ℕ → Pattern
reply_for v = reply_of (replicate v any_value)

abbrev pub Reply : ℕ → List ℕ → Type 0
Reply v = Fits (reply_for v)
