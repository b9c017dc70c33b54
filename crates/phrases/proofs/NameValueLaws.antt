-- The names and values of a case, one variable after another. Assumes nothing.
use Prim.Native.Nat.{ℕ, zero, suc, ◌+◌, ◌≤◌, ◌<◌, min}
use mathlib.Core.Path.{◌≡◌, refl, sym, ap, ◌∙◌}
use mathlib.Core.List.{List, ◌++◌}
use mathlib.Core.Option.{none}
use native.Mathlib.Omega.{arith}
use lib.IntN.{ℤ, pos}
use lib.ListN.{length, get_or, take, drop, length-take}
use mir.Syntax.{w16}
use mir.Val.{SFits, to_z, of_z}
use Rattle.lists.specs.Ascii.{ascii}
use Rattle.lists.specs.Places.{at, from}
use Rattle.lists.specs.Joined.{joined, joined_below}
use Rattle.lists.proofs.RunLaws.{stands_from, run-part}
use Rattle.lists.proofs.JoinedLaws.{joined-more}
use Rattle.numbers.specs.Ranges.{Narrow}
use Rattle.numbers.proofs.Fit.{i16-of-narrow}
use Rattle.layout.specs.Limits.{most_variables, variable_place, most_nodes}
use Rattle.layout.specs.Parts.{variable_count, variable_at, name_size, name_in, rule_in}
use Rattle.reading.specs.Cascade.{refusal_of}
use Rattle.reading.proofs.RuleLaws.{accepted-counted, accepted-kept}
use Rattle.room.specs.Room.{Wrote}
use Rattle.room.proofs.RoomLaws.{wrote_as, wrote-no-texts, chain}
use Rattle.numbers.specs.Decimal.{signed}
use Rattle.phrases.specs.Phrases.{name_value, name_values}
use Rattle.phrases.specs.Pieces.{Named, name_value_at, name_values_at, fails_line}
use Rattle.spelling.proofs.NumberLaws.{kept-is}

-- ---- a variable's name in an accepted sheet
module _ (s : List ℕ) (e : refusal_of most_nodes s ≡ none) where
  pub few-variables : variable_count s ≤ most_variables
  few-variables = (accepted-counted s e).few

  module _ {i p : ℕ} (h : i < variable_count s) (ep : p ≡ variable_place i) where
    pub named : {t : List ℕ} → t ≡ take (name_size s p) (drop (p + 6) s) → Named s i t
    named et =
        let k = (accepted-kept s e i h).0.short in
        let m : length (name_in s (variable_place i)) ≡ min (name_size s (variable_place i)) (length (drop (variable_place i + 6) s)) = length-take _ _ in
        let q = et ∙ ap (name_in s) ep in
        record { name = q; short = rw q (omega arith) }

pub ruleset few = (few-variables)

pub name-value-from : (t : List ℕ) {z : ℤ} → SFits w16 z → ascii " " ++ t ++ ascii "=" ++ signed (to_z w16 (of_z w16 z)) ≡ name_value t z
unfolding name_value
name-value-from t f = rw (kept-is f)

-- ---- one variable more
pub begin : (s : List ℕ) (row : List ℤ) (room : List ℕ) (at : ℕ) → Wrote (name_values_at s row 0) room room at at
unfolding name_values_at
begin s row room at = wrote-no-texts (name_value_at s row) room at

pub turn : (s : List ℕ) (row : List ℤ) (i : ℕ) {r₀ r₁ r₂ : List ℕ} {at p q : ℕ} → Narrow (get_or row i (pos 0)) → p ≤ length r₀ → Wrote (name_values_at s row i) r₀ r₁ at p → Wrote (name_value (variable_at s i).name (to_z w16 (of_z w16 (get_or row i (pos 0))))) r₁ r₂ p q → Wrote (name_values_at s row (i + 1)) r₀ r₂ at q
unfolding name_values_at name_value_at
turn s row i n h a b = wrote_as (chain (omega (arith, a.place)) a b) (ap (λ (z : ℤ). joined_below (name_value_at s row) i ++ name_value (variable_at s i).name z) (kept-is (i16-of-narrow n)) ∙ joined-more (name_value_at s row) i)

pub fails-from : (s : List ℕ) (row : List ℤ) {n : ℕ} → n ≡ variable_count s → ascii "fails" ++ name_values_at s row n ++ ascii "\n" ≡ fails_line s row
unfolding fails_line
fails-from s row e = rw e

-- ---- by their numbers, and as lists
module _ (s : List ℕ) (row : List ℤ) where
  listed : (i k : ℕ) → joined (name_value_at s row) (from (λ (j : ℕ). j) i k) ≡ name_values (from (variable_at s) i k) (from (at (pos 0) row) i k)
  unfolding name_values name_value_at
  listed i zero = refl
  listed i (suc k) = ap (λ (l : List ℕ). name_value_at s row i ++ l) (listed (suc i) k)

  pub name_values-are : {c : List ℤ} → take (variable_count s) row ≡ c → length c ≡ variable_count s → name_values_at s row (variable_count s) ≡ name_values (rule_in s).variables c
  unfolding name_values_at joined_below
  name_values-are {c} e n =
      let v = variable_count s in
      let h : v ≤ length row = omega (arith, length-take v row, ap length e) in
      let l : length (take v row) ≡ v = ap length e ∙ n in
      let f : from (at (pos 0) row) 0 v ≡ c = ap (from (at (pos 0) row) 0) (sym l) ∙ stands_from (at (pos 0) row) (take v row) 0 (run-part row (pos 0) 0 v (omega arith)).each ∙ e in
      listed 0 v ∙ ap (name_values (from (variable_at s) 0 v)) f
