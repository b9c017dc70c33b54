-- Patterns of which each byte can be read in one way only. Assumes nothing.
use Prim.Native.Nat.{ℕ}
use mathlib.Core.Path.{◌≡◌}
use mathlib.Core.Bool.{true}
use mathlib.Core.Logic.{◌⊎◌}
use mathlib.Core.Option.{none}
use Rattle.grammar.specs.Patterns.{Pattern, end, anything, one, many, either}
use Rattle.grammar.specs.Stops.{derive}

-- each class has a byte, and each byte can be read in one way only
unfoldable pub OneWay : Pattern → Type 0
OneWay end = Unit {0}
OneWay anything = Unit {0}
OneWay (one t p) = ((c : ℕ) × (t c ≡ true)) × OneWay p
OneWay (many t p) = ((c : ℕ) → t c ≡ true → derive p c ≡ none) × OneWay p
OneWay (either p q) = ((c : ℕ) → (derive p c ≡ none) ⊎ (derive q c ≡ none)) × OneWay p × OneWay q

-- the same as a record, so that it shows its pattern
pub record Definite (p : Pattern) : Type 0 where
  pub one_way : OneWay p
