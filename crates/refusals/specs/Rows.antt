-- A table of refusals: rows, one after another. What a call answers by it is the first row that applies (document 01, "When a sheet is turned away").
use Rattle.std.specs.Prelude.{ℕ, zero, suc, ◌<◌, ◌≡◌, ◌↔◌, List, [], ◌∷◌, ◌++◌}
use Rattle.std.proofs.Math.Option.{Option, none, some}
use Rattle.refusals.specs.declared.Refusal.{Refusal}

-- a row: under this condition, this number at this place
pub record Row : Type 1 where
  pub number : ℕ
  pub place : ℕ
  pub condition : Type 0

-- a table of one row; one table after another; and a table for each of the n numbers from k on, in order
abbrev pub row : ℕ → ℕ → Type 0 → List Row
row number place condition = record { number = number; place = place; condition = condition } ∷ []

abbrev pub ◌then◌ : List Row → List Row → List Row
xs then ys = xs ++ ys

infixr 20 ◌then◌
abbrev pub each_of : (ℕ → List Row) → ℕ → ℕ → List Row
each_of table k zero = []
each_of table k (suc n) = table k then each_of table (suc k) n

-- the row at this rank, counted from 0, applies, and has the refusal's number and place
abbrev pub Applies : List Row → ℕ → Refusal → Type 0
Applies [] rank r = ⊥
Applies (x ∷ xs) zero r = x.condition × (x.number ≡ r.number) × (x.place ≡ r.place)
Applies (x ∷ xs) (suc rank) r = Applies xs rank r

-- such a row applies, and none of an earlier rank does
pub record Answered (rows : List Row) (r : Refusal) : Type 0 where
  pub rank : ℕ
  pub applies : Applies rows rank r
  pub first : (i : ℕ) (q : Refusal) → i < rank → Applies rows i q → ⊥

-- no row applies
abbrev pub NoneApplies : List Row → Type 0
NoneApplies rows = (rank : ℕ) (r : Refusal) → Applies rows rank r → ⊥

-- the answer is exactly what the table says
pub record Exactly (rows : List Row) (answer : Option Refusal) : Type 0 where
  pub refused : (r : Refusal) → (answer ≡ some r) ↔ Answered rows r
  pub passed : (answer ≡ none) ↔ NoneApplies rows
