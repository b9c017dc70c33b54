-- Follows the code: decimal numbers of 16 bits, as tests and values. Proved to be what `signed` writes.
use Rattle.std.specs.Prelude.{ℕ, ◌+◌, ◌*◌, ◌-◌, Bool, true, false, not, ◌&&◌, List, [], ◌∷◌, eqb, leb, ℤ, pos, neg_ℤ}

unfoldable pub is_digit : ℕ → Bool
is_digit c = leb 48 c && leb c 57

unfoldable pub all_digits : List ℕ → Bool
all_digits [] = true
all_digits (c ∷ s) = is_digit c && all_digits s

-- the number that digits give behind n
abbrev pub value_from : ℕ → List ℕ → ℕ
value_from n [] = n
value_from n (c ∷ s) = value_from (10 * n + (c - 48)) s

-- a zero in front of other digits
abbrev pub spare_zero : List ℕ → Bool
spare_zero [] = false
spare_zero (c ∷ []) = false
spare_zero (c ∷ d ∷ s) = eqb c 48

-- at least one digit, no spare zero, at most so much
unfoldable pub is_decimal : ℕ → List ℕ → Bool
is_decimal most [] = false
is_decimal most (c ∷ s) = all_digits (c ∷ s) && (not (spare_zero (c ∷ s)) && leb (value_from 0 (c ∷ s)) most)

-- the first byte is a zero
abbrev pub zero_first : List ℕ → Bool
zero_first [] = false
zero_first (c ∷ s) = eqb c 48

-- a decimal number of 16 bits: no plus, no -0
unfoldable pub is_number : List ℕ → Bool
is_number [] = false
is_number (c ∷ s) = elim (eqb c 45) [ true ↦ not (zero_first s) && is_decimal 32768 s | false ↦ is_decimal 32767 (c ∷ s) ]

-- its value
unfoldable pub number_of : List ℕ → ℤ
number_of [] = pos 0
number_of (c ∷ s) = elim (eqb c 45) [ true ↦ neg_ℤ (pos (value_from 0 s)) | false ↦ pos (value_from 0 (c ∷ s)) ]
