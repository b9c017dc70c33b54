-- Follows the code: how long words can be.
use Rattle.std.specs.Prelude.{ℕ, length}
use Rattle.lists.specs.Ascii.{ascii}

-- the longest number of 16 bits, and the longest word of a kind
abbrev pub longest_number : ℕ
longest_number = length (ascii "-32768")

abbrev pub longest_plain : ℕ
longest_plain = length (ascii "implies")
