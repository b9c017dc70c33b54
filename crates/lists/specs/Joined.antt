-- Lists one behind the other.
use Rattle.std.specs.Prelude.{ℕ, List, [], ◌∷◌, ◌++◌}
use Rattle.lists.specs.Places.{from}

-- what f gives for each thing of a list
abbrev pub joined : {A B : Type 0} → (A → List B) → List A → List B
joined f [] = []
joined f (x ∷ xs) = f x ++ joined f xs

-- what f gives for each number below n
unfoldable pub joined_below : {B : Type 0} → (ℕ → List B) → ℕ → List B
joined_below f n = joined f (from (λ (i : ℕ). i) 0 n)
