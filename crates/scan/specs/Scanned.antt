-- Follows the code: what a scan of bytes says of them.
use Rattle.std.specs.Prelude.{ℕ, List, Result, Ok, Err}
use Rattle.grammar.specs.Begins.{Leaves}
use Rattle.texts.specs.Texts.{Text}

abbrev pub ScanSays : List ℕ → Result Unit ℕ → Type 0
ScanSays s (Ok _) = Text s
ScanSays s (Err p) = Leaves Text s p
