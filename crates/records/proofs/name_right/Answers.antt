-- `name_right` meets its contract: a letter, and bytes of a name behind it. Assumes nothing.
use mathlib.Core.Path.{sym, ◌∙◌}
use Rattle.records.proofs.StepLaws.{name-started}
use Rattle.records.proofs.name_right.Goals as goal

pub returns-then-letter : goal.returns-then-letter
returns-then-letter c = c.name_bytes.ensures ∙ name-started _ c.in-len1-up.len_at_least (sym c.letter.ensures ∙ c.if-letter.true)
