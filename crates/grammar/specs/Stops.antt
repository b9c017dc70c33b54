-- Follows the code: where a reader stops that takes one byte after another. Proved to be the place that `Begins` says (proofs/MachineLaws, PatternLaws).
use Rattle.std.specs.Prelude.{ℕ, suc, Bool, true, false, ◌||◌, List, [], ◌∷◌}
use Rattle.std.proofs.Math.Option.{Option, none, some}
use Rattle.lists.specs.First.{◌otherwise◌}
use Rattle.grammar.specs.Patterns.{Pattern, end, anything, one, many, either}

module _ {State : Type 0} (step : State → ℕ → Option State) (accepts : State → Bool) where
  -- the place at which the reader stops, from state q on, k bytes being read; none where it accepts
  unfoldable pub stop : State → ℕ → List ℕ → Option ℕ
  stop q k [] = elim (accepts q) [ true ↦ none | false ↦ some k ]
  stop q k (c ∷ s) = elim (step q c) [ none ↦ some k | some r ↦ stop r (suc k) s ]

-- what is left of a pattern behind a byte; none where the byte doesn't fit
unfoldable pub derive : Pattern → ℕ → Option Pattern
derive end c = none
derive anything c = some anything
derive (one t p) c = elim (t c) [ true ↦ some p | false ↦ none ]
derive (many t p) c = elim (t c) [ true ↦ some (many t p) | false ↦ derive p c ]
derive (either p q) c = derive p c otherwise derive q c

-- the pattern may end here
unfoldable pub may_end : Pattern → Bool
may_end end = true
may_end anything = true
may_end (one t p) = false
may_end (many t p) = may_end p
may_end (either p q) = may_end p || may_end q

-- the same of a pattern: a state is what is left of it
abbrev pub stops : Pattern → ℕ → List ℕ → Option ℕ
stops = stop derive may_end
