-- Follows the code: the lines of a text, by the sheet's records, and how long they can be.
use Rattle.std.specs.Prelude.{ℕ, ◌+◌, List, ◌++◌, length}
use Rattle.lists.specs.Ascii.{ascii}
use Rattle.numbers.specs.Two.{dec}
use Rattle.numbers.specs.Decimal.{signed}
use Rattle.layout.specs.Limits.{most_name_bytes}
use Rattle.layout.specs.Parts.{goal_at, variable_at}
use Rattle.spelling.specs.Spelling.{longest_number}
use Rattle.texts.specs.Plain.{variable_line}
use Rattle.expressions.specs.Phrases.{phrase_at}

-- variable i's line
unfoldable pub line_at : List ℕ → ℕ → List ℕ
line_at s i = variable_line (variable_at s i)

-- it in two parts: up to the name, and behind it, by the bits of the ends
unfoldable pub line_start : List ℕ → ℕ → List ℕ
line_start s i = ascii "var " ++ (variable_at s i).name

unfoldable pub line_end : ℕ → ℕ → List ℕ
line_end low high = (ascii " " ++ signed (dec 16 low)) ++ (ascii " " ++ signed (dec 16 high)) ++ ascii "\n"

-- the longest line of a variable
abbrev pub longest_line : ℕ
longest_line = length (ascii "var ") + most_name_bytes + length (ascii " ") + longest_number + length (ascii " ") + longest_number + length (ascii "\n")

-- the goal's line
unfoldable pub goal_text : List ℕ → List ℕ
goal_text s = ascii "goal" ++ (ascii " " ++ phrase_at s (goal_at s)) ++ ascii "\n"
