-- Follows the code: how long the phrases of an answer can be, which is what their functions ask of the room.
use Rattle.std.specs.Prelude.{ℕ, ◌+◌, ◌*◌, length}
use Rattle.lists.specs.Ascii.{ascii}
use Rattle.layout.specs.Limits.{most_name_bytes, most_variables}
use Rattle.spelling.specs.Spelling.{longest_number}

-- the longest number of 64 bits
abbrev pub longest_decimal : ℕ
longest_decimal = length (ascii "18446744073709551615")

-- two numbers behind words of so many bytes, such a line, and a refusal's
abbrev pub longest_pair : ℕ → ℕ → ℕ
longest_pair first second = first + longest_decimal + second + longest_decimal

abbrev pub longest_numbers : ℕ → ℕ → ℕ
longest_numbers first second = longest_pair first second + length (ascii "\n")

abbrev pub longest_refusal : ℕ
longest_refusal = longest_numbers (length (ascii "refused ")) (length (ascii " at "))

-- a variable's name and value, and the line of a check that fails
abbrev pub longest_name_value : ℕ
longest_name_value = length (ascii " ") + most_name_bytes + length (ascii "=") + longest_number

abbrev pub longest_fails : ℕ
longest_fails = length (ascii "fails") + longest_name_value * most_variables + length (ascii "\n")
