-- Follows the code: how often a byte stands in a list.
use Rattle.std.specs.Prelude.{ℕ, suc, true, false, List, [], ◌∷◌, eqb}

unfoldable pub occurrences : ℕ → List ℕ → ℕ
occurrences c [] = 0
occurrences c (d ∷ s) = elim (eqb c d) [ true ↦ suc (occurrences c s) | false ↦ occurrences c s ]
