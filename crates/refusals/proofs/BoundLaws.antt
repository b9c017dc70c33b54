-- A bound on number and place that each row of a table keeps, where no earlier row applies, every refusal by the table keeps. Assumes nothing.
use Prim.Native.Nat.{ℕ, zero, suc, ◌+◌, ◌≤◌, ◌<◌}
use mathlib.Core.Path.{◌≡◌, refl}
use mathlib.Core.Logic.{⊎_elim}
use mathlib.Core.List.{List}
use mathlib.Core.Option.{Option, some}
use native.Mathlib.Omega.{arith}
use Rattle.refusals.specs.declared.Refusal.{Refusal}
use Rattle.refusals.specs.Rows.{Row, row, ◌then◌, each_of, Applies, Answered, NoneApplies, Exactly}
use Rattle.refusals.proofs.RowLaws.{answered-split}

pub record Bounded (P : ℕ → ℕ → Type 0) (rows : List Row) : Type 0 where
  pub keeps : (r : Refusal) → Answered rows r → P r.number r.place

-- a row that stands alone and doesn't apply
pub not-applied : {C : Type 0} {n p : ℕ} → NoneApplies (row n p C) → C → ⊥
not-applied {C} {n} {p} f h = f 0 (record { number = n; place = p }) (h, refl, refl)

module _ {P : ℕ → ℕ → Type 0} where
  pub bounded-row : (n p : ℕ) (C : Type 0) → (C → P n p) → Bounded P (row n p C)
  bounded-row n p C f = record { keeps = λ r a. go r a.rank a.applies }
    where
      go : (r : Refusal) (i : ℕ) → Applies (row n p C) i r → P r.number r.place
      go r zero a = rw (← a.1, ← a.2) (f a.0)
      go r (suc i) a = absurd a

  pub bounded-then : {xs ys : List Row} → Bounded P xs → (NoneApplies xs → Bounded P ys) → Bounded P (xs then ys)
  bounded-then {xs} {ys} f g = record { keeps = λ r a. ⊎_elim (f.keeps r) (λ w. (g w.0).keeps r w.1) (answered-split xs ys a) }

  pub bounded-each : {table : ℕ → List Row} (n k : ℕ) → ((i : ℕ) → k ≤ i → i < k + n → Bounded P (table i)) → Bounded P (each_of table k n)
  bounded-each zero k h = record { keeps = λ r a. absurd a.applies }
  bounded-each (suc n) k h = bounded-then (h k (omega arith) (omega arith)) (λ a. bounded-each n (suc k) (λ i l m. h i (omega arith) (omega arith)))

  -- so does what is answered exactly by the table
  pub bounded-answer : {rows : List Row} {o : Option Refusal} {r : Refusal} → Bounded P rows → Exactly rows o → o ≡ some r → P r.number r.place
  bounded-answer {r = r} b x e = b.keeps r ((x.refused r).0 e)

-- a bound that follows
pub bounded-as : {P Q : ℕ → ℕ → Type 0} {rows : List Row} → ((n p : ℕ) → P n p → Q n p) → Bounded P rows → Bounded Q rows
bounded-as f b = record { keeps = λ r a. f r.number r.place (b.keeps r a) }
