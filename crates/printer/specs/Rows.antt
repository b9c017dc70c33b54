-- Document 02's row 19 for the printer (item 4) and row 9, and where they stand: after the sheet's own rows, in this order.
use Rattle.std.specs.Prelude.{ℕ, ◌<◌, List, length}
use Rattle.refusals.specs.Rows.{Row, row, ◌then◌, each_of}
use Rattle.layout.specs.Parts.{variable_count, variable_at, rule_in}
use Rattle.reading.specs.Rows.{sheet_rows}
use Rattle.texts.specs.Plain.{text_of}
use Rattle.texts.specs.Texts.{Word}

-- 19: variable i's name is a word
abbrev pub Row19 : List ℕ → ℕ → Type 0
Row19 s i = Word (variable_at s i).name

-- 9: the text's bytes don't go into the room
abbrev pub Row9 : List ℕ → ℕ → Type 0
Row9 s room = room < length (text_of (rule_in s))

-- with room for so many bytes
abbrev pub text_rows : ℕ → List ℕ → ℕ → List Row
text_rows limit s room =
    sheet_rows limit s
    then each_of (λ i. row 19 i (Row19 s i)) 0 (variable_count s)
    then row 9 (length (text_of (rule_in s))) (Row9 s room)
