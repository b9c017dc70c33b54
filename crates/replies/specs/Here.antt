-- Follows the code: what a part of the reader does, by the part of a pattern that it passes. It goes on before a place, or is off at it, since the byte there fits no reply.
use Rattle.std.specs.Prelude.{ℕ, ◌+◌, ◌/◌, ◌%◌, ◌≡◌, Bool, cond, List, [], ◌∷◌, ltb, drop, Result, Ok, Err}
use Rattle.std.proofs.Math.Option.{Option, none, some}
use Rattle.grammar.specs.Patterns.{Pattern, one}
use Rattle.grammar.specs.Stops.{stops}

-- where the reading stops that goes on through a pattern
abbrev pub stop_from : Pattern → List ℕ → Result ℕ ℕ → Option ℕ
stop_from p s (Ok k) = stops p k (drop k s)
stop_from p s (Err k) = some k

-- from place k to r the reader passes what f puts before a pattern
pub record Passes (f : Pattern → Pattern) (s : List ℕ) (k : ℕ) (r : Result ℕ ℕ) : Type 0 where
  pub same : (p : Pattern) → stop_from (f p) s (Ok k) ≡ stop_from p s r

-- one byte, whatever class the test is of
abbrev pub Takes : List ℕ → ℕ → (ℕ → Bool → Type 0) → Result ℕ ℕ → Type 0
Takes s k Says r = (t : ℕ → Bool) → ((c : ℕ) (b : Bool) → Says c b → b ≡ t c) → Passes (one t) s k r

-- the first of a symbol's two digits
abbrev pub first_digit : ℕ → List ℕ
first_digit i = cond (ltb i 10) [] ((48 + i / 10 % 10) ∷ [])

abbrev pub place_of : Result Unit ℕ → Option ℕ
place_of (Ok _) = none
place_of (Err p) = some p
