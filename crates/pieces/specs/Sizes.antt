-- Follows the code: how many bytes the pieces of a script have.
use Rattle.std.specs.Prelude.{ℕ}

-- the most letters of a word
abbrev pub longest_word : ℕ
longest_word = 6

-- a constant: `#x` and four digits
abbrev pub constant_bytes : ℕ
constant_bytes = 6

-- the longest symbol: `v` and two digits
abbrev pub longest_symbol : ℕ
longest_symbol = 3
