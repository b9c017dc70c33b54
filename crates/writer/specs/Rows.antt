-- Document 01's row 9 for the script, in any form, and where it stands: after the sheet's own rows.
use Rattle.std.specs.Prelude.{ℕ, ◌<◌, List, length}
use Rattle.refusals.specs.Rows.{Row, row, ◌then◌}
use Rattle.layout.specs.Parts.{rule_in}
use Rattle.reading.specs.Rows.{sheet_rows}
use Rattle.wording.specs.Form.{Form}
use Rattle.wording.specs.Script.{script}

-- 9: the script's bytes don't go into the room
abbrev pub Row9 : Form → List ℕ → ℕ → Type 0
Row9 f s room = room < length (script f (rule_in s))

-- with room for so many bytes
abbrev pub script_rows : ℕ → Form → List ℕ → ℕ → List Row
script_rows limit f s room = sheet_rows limit s then row 9 (length (script f (rule_in s))) (Row9 f s room)
