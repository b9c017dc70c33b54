-- Document 02's rows for a text that says a draft (item 4): 4, then those of its sheet, then 9. Row 18, for bytes that are no text, comes before them.
use Rattle.std.specs.Prelude.{ℕ, ◌<◌, List, length}
use Rattle.refusals.specs.Rows.{Row, row, ◌then◌}
use Rattle.layout.specs.Limits.{most_variables}
use Rattle.reading.specs.Rows.{sheet_rows}
use Rattle.grammar.specs.Begins.{Leaves}
use Rattle.texts.specs.Expressions.{records_of, Draft, draft_sheet}
use Rattle.texts.specs.Texts.{Text}

-- 18: the first byte that fits no text, or the length where the bytes stop short
abbrev pub Row18 : List ℕ → ℕ → Type 0
Row18 text place = Leaves Text text place

-- 4: more variables or nodes than a sheet may have
pub data Row4 (limit : ℕ) (d : Draft) : Type 0 where
  variables : most_variables < length d.variables → Row4 limit d
  nodes : limit < length (records_of d.goal 0) → Row4 limit d

-- 9: the sheet's bytes don't go into the room
abbrev pub Row9 : Draft → ℕ → Type 0
Row9 d room = room < length (draft_sheet d)

-- with room for so many bytes
abbrev pub draft_rows : ℕ → Draft → ℕ → List Row
draft_rows limit d room = row 4 0 (Row4 limit d) then sheet_rows limit (draft_sheet d) then row 9 (length (draft_sheet d)) (Row9 d room)
