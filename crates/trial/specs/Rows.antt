-- Document 02's rows 11 to 13 for a reply (item 1), and where they stand: after the sheet's own rows, in this order.
use Rattle.std.specs.Prelude.{ℕ, suc, ◌≡◌, true, List, ℤ, length}
use Rattle.refusals.specs.Rows.{Row, row, ◌then◌, each_of}
use Rattle.numbers.specs.Ranges.{In}
use Rattle.meaning.specs.Rule.{domain_of, value_in}
use Rattle.meaning.specs.Cases.{holds}
use Rattle.layout.specs.Parts.{variable_count, rule_in}
use Rattle.reading.specs.Rows.{sheet_rows}
use Rattle.grammar.specs.Begins.{Leaves}
use Rattle.replies.specs.Replies.{Reply}
use Rattle.replies.specs.Says.{SpellsCase}

-- 11: the first byte that fits no reply for V variables, or the length where the reply stops short
abbrev pub Row11 : List ℕ → List ℕ → ℕ → Type 0
Row11 s reply place = Leaves (Reply (variable_count s)) reply place

-- 12: variable i's value leaves its domain
abbrev pub Row12 : List ℕ → List ℕ → ℕ → Type 0
Row12 s reply i = (c : List ℤ) × SpellsCase (variable_count s) reply c × (In (domain_of (rule_in s) i) (value_in c i) → ⊥)

-- 13: the case doesn't fail
abbrev pub Row13 : List ℕ → List ℕ → Type 0
Row13 s reply = (c : List ℤ) × SpellsCase (variable_count s) reply c × (holds (rule_in s) c ≡ true)

abbrev pub reply_rows : ℕ → List ℕ → List ℕ → List Row
reply_rows limit s reply =
    sheet_rows limit s
    then each_of (λ p. row 11 p (Row11 s reply p)) 0 (suc (length reply))
    then each_of (λ i. row 12 i (Row12 s reply i)) 0 (variable_count s)
    then row 13 0 (Row13 s reply)
