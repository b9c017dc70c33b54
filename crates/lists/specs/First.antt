-- The first answer of several, in order.
use Rattle.std.specs.Prelude.{ℕ, zero, suc}
use Rattle.std.proofs.Math.Option.{Option, none, some}

-- the first answer, or where there is none the second
abbrev pub ◌otherwise◌ : {A : Type 0} → Option A → Option A → Option A
none otherwise b = b
some x otherwise b = some x

infixr 20 ◌otherwise◌
-- what f answers of an answer
abbrev pub and_then : {A B : Type 0} → Option A → (A → Option B) → Option B
and_then none f = none
and_then (some x) f = f x

-- the first answer that f gives at the n numbers from k on
unfoldable pub first : {A : Type 0} → (ℕ → Option A) → ℕ → ℕ → Option A
first f k zero = none
first f k (suc n) = elim (f k) [ none ↦ first f (suc k) n | some x ↦ some x ]
