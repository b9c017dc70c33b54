-- Follows the code: the pieces of a failing check's line, by the numbers of the variables, and what is asked of the row of values.
use Rattle.std.specs.Prelude.{ℕ, ◌≤◌, ◌<◌, ◌≡◌, List, ◌++◌, ℤ, pos, length, get_or}
use Rattle.std.proofs.Math.Option.{none}
use Rattle.lists.specs.Ascii.{ascii}
use Rattle.lists.specs.Joined.{joined_below}
use Rattle.numbers.specs.Ranges.{Narrow}
use Rattle.layout.specs.Limits.{most_name_bytes, most_nodes}
use Rattle.layout.specs.Parts.{variable_count, variable_at}
use Rattle.reading.specs.Cascade.{refusal_of}
use Rattle.phrases.specs.Phrases.{name_value}

-- the bytes are variable i's name, at most 16 of them
pub record Named (s : List ℕ) (i : ℕ) (t : List ℕ) : Type 0 where
  pub name : t ≡ (variable_at s i).name
  pub short : length t ≤ most_name_bytes

-- the sheet is accepted, and the row's values of its variables have 16 bits
pub record Settled (s : List ℕ) (row : List ℤ) : Type 0 where
  pub accepted : refusal_of most_nodes s ≡ none
  pub narrow : (i : ℕ) → i < variable_count s → Narrow (get_or row i (pos 0))

-- variable i's name and the row's value for it
unfoldable pub name_value_at : List ℕ → List ℤ → ℕ → List ℕ
name_value_at s row i = name_value (variable_at s i).name (get_or row i (pos 0))

-- those of the first n variables
unfoldable pub name_values_at : List ℕ → List ℤ → ℕ → List ℕ
name_values_at s row n = joined_below (name_value_at s row) n

-- the line of a check that fails with the row's values
unfoldable pub fails_line : List ℕ → List ℤ → List ℕ
fails_line s row = ascii "fails" ++ name_values_at s row (variable_count s) ++ ascii "\n"
