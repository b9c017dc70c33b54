-- What `name` hands back (document 01, "Cases, first failure, tally"): the very part of the sheet in which the name stands.
use Rattle.std.specs.Prelude.{ℕ, ◌+◌, ◌<◌, ◌≡◌, List}
use Rattle.std.proofs.Math.Option.{none}
use Rattle.std.specs.Borrow.{Bor}
use Rattle.lists.specs.Part.{PartWhere}
use Rattle.layout.specs.Limits.{name_start, variable_place}
use Rattle.layout.specs.Parts.{variable_count, name_size}
use Rattle.reading.specs.Cascade.{refusal_of}

-- the sheet is accepted, and variable i is below V
abbrev pub NameGiven : ℕ → List ℕ → ℕ → Type 0
NameGiven limit s i = (refusal_of limit s ≡ none) × (i < variable_count s)

-- the name of variable i where it is given, else the empty part at the sheet's start
abbrev pub NamePart : ℕ → Bor (List ℕ) → ℕ → Bor (List ℕ) → Type 0
NamePart limit sheet i part = PartWhere (NameGiven limit sheet.now i) sheet part (variable_place i + name_start) (name_size sheet.now (variable_place i))
