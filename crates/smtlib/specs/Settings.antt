-- Settings: a number for each declared symbol, in the order of the declarations, and what the symbols then stand for.
use Rattle.std.specs.Prelude.{ℕ, ◌<◌, ◌^◌, true, false, List, [], ◌∷◌, eqb}
use Rattle.lists.specs.Names.{same_bytes}
use Rattle.smtlib.specs.Values.{Sort, bool, bit_vec, Value, truth, bits, rejected}
use Rattle.smtlib.specs.Commands.{Declaration}

-- how many values a sort has; they are numbered from 0 on
abbrev pub sort_size : Sort → ℕ
sort_size bool = 2
sort_size (bit_vec m) = 2 ^ m

-- the value with this number: of Bool, false is 0 and true is 1
abbrev pub value_at : Sort → ℕ → Value
value_at bool n = truth (eqb n 1)
value_at (bit_vec m) n = bits m n

-- the setting has a number for each symbol and no more, each of them that of a value of the symbol's sort
abbrev pub Assigns : List Declaration → List ℕ → Type 0
Assigns [] [] = Unit {0}
Assigns [] (n ∷ s) = ⊥
Assigns (d ∷ ds) [] = ⊥
Assigns (d ∷ ds) (n ∷ s) = (n < sort_size d.sort) × Assigns ds s

-- what a name stands for: rejected where it is not declared
unfoldable pub environment : List Declaration → List ℕ → List ℕ → Value
environment [] s n = rejected
environment (d ∷ ds) [] n = rejected
environment (d ∷ ds) (k ∷ s) n = elim (same_bytes d.name n) [ true ↦ value_at d.sort k | false ↦ environment ds s n ]

-- the setting in which every number is 0
abbrev pub zeros : List Declaration → List ℕ
zeros [] = []
zeros (d ∷ ds) = 0 ∷ zeros ds
