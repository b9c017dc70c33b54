-- Numbers in decimal, as bytes.
use Rattle.std.specs.Prelude.{ℕ, zero, suc, ◌+◌, ◌/◌, ◌%◌, true, false, List, [], ◌∷◌, ◌++◌, ltb, ℤ, pos, negsuc}
use Rattle.lists.specs.Ascii.{ascii}

-- n in decimal, in at most k digits
unfoldable pub decimal_in : ℕ → ℕ → List ℕ
decimal_in zero n = []
decimal_in (suc k) n = elim (ltb n 10) [ true ↦ (48 + n) ∷ [] | false ↦ decimal_in k (n / 10) ++ ((48 + n % 10) ∷ []) ]

-- n in decimal, no zero in front: n + 1 digits are always enough
unfoldable pub decimal : ℕ → List ℕ
decimal n = decimal_in (suc n) n

-- an integer in decimal
unfoldable pub signed : ℤ → List ℕ
signed (pos n) = decimal n
signed (negsuc n) = ascii "-" ++ decimal (suc n)
