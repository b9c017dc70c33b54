-- How an atom is spelled by one word (SMT-LIB 2.6, section 3.1): the bytes that stand for it. Digits are in lower case.
use Rattle.std.specs.Prelude.{ℕ, ◌+◌, ◌≡◌, true, cond, List, ◌++◌, map, ltb}
use Rattle.lists.specs.Ascii.{ascii}
use Rattle.smtlib.specs.Characters.{every, word_char}
use Rattle.smtlib.specs.Tokens.{Atom, symbol, reserved, numeral, hexadecimal, binary, keyword, single, token_of}

unfoldable pub digit_byte : ℕ → ℕ
digit_byte d = cond (ltb d 10) (48 + d) (87 + d)

abbrev pub spelling : Atom → List ℕ
spelling (symbol n) = n
spelling (reserved w) = w
spelling (numeral ds) = map digit_byte ds
spelling (hexadecimal ds) = ascii "#x" ++ map digit_byte ds
spelling (binary ds) = ascii "#b" ++ map digit_byte ds
spelling (keyword w) = ascii ":" ++ w

-- the spelling is one word, and is read as that atom
pub record Spelled (a : Atom) : Type 0 where
  pub word : every word_char (spelling a) ≡ true
  pub reads : token_of (spelling a) ≡ single a
