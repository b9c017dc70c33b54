-- Follows the code: what is asked of a row of numbers, whose first V are a case of an accepted sheet and the others 0.
use Rattle.std.specs.Prelude.{ℕ, ◌≤◌, ◌≡◌, List, ℤ, pos, get_or, take}
use Rattle.std.proofs.Math.Option.{none}
use Rattle.meaning.specs.Rule.{Case}
use Rattle.layout.specs.Limits.{most_nodes}
use Rattle.layout.specs.Parts.{variable_count, rule_in}
use Rattle.reading.specs.Cascade.{refusal_of}

pub record Standing (s : List ℕ) (numbers : List ℤ) : Type 0 where
  pub accepted : refusal_of most_nodes s ≡ none
  pub present : Case (rule_in s) (take (variable_count s) numbers)
  pub zeros : (i : ℕ) → variable_count s ≤ i → get_or numbers i (pos 0) ≡ pos 0
