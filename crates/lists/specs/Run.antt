-- Serves proofs: a list that stands at numbered places, one thing after another.
use Rattle.std.specs.Prelude.{ℕ, suc, ◌+◌, ◌≡◌, List, [], ◌∷◌, length}

module _ {A : Type 0} (f : ℕ → A) where
  -- the list's things stand in f from number i on
  abbrev pub Stands : ℕ → List A → Type 0
  Stands i [] = Unit {0}
  Stands i (x ∷ xs) = (f i ≡ x) × Stands (suc i) xs

  -- and they end before number e
  pub record Run (i : ℕ) (xs : List A) (e : ℕ) : Type 0 where
    pub each : Stands i xs
    pub end : i + length xs ≡ e
