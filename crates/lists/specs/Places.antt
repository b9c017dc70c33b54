-- A list as what it has at each number.
use Rattle.std.specs.Prelude.{ℕ, zero, suc, Bool, true, ◌&&◌, get_or}
use mathlib.Core.List.{List, [], ◌∷◌, Memᴰ}

-- what the list has at number j, and d past its end
abbrev pub at : {A : Type 0} → A → List A → ℕ → A
at d l j = get_or l j d

-- the k things from number i on
abbrev pub from : {A : Type 0} → (ℕ → A) → ℕ → ℕ → List A
from f i zero = []
from f i (suc k) = f i ∷ from f (suc i) k

-- follows the code: the test holds at every number below n
unfoldable pub all_below : (ℕ → Bool) → ℕ → Bool
all_below t zero = true
all_below t (suc n) = t n && all_below t n

-- no thing of the list stands in it again, after itself
abbrev pub NoRepeats : {A : Type 0} → List A → Type 0
NoRepeats [] = Unit {0}
NoRepeats (x ∷ l) = (Memᴰ x l → ⊥) × NoRepeats l
