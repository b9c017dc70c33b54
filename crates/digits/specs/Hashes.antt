-- Where a variable's digits stand in a reply that spells a case (document 02, item 1): hashes stand only before values, so behind the hash of its number, and behind the base.
use Rattle.std.specs.Prelude.{ℕ, zero, suc, ◌+◌, true, false, cond, List, [], ◌∷◌, map, eqb, get_or, take, drop}
use Rattle.smtlib.specs.Tokens.{digit_value}
use Rattle.smtlib.specs.Terms.{number_of}
use Rattle.replies.specs.Replies.{hex_digits, binary_digits}

-- the place behind hash number i, k bytes being passed; behind the end where there are fewer
unfoldable pub place_behind : ℕ → ℕ → List ℕ → ℕ
place_behind i k [] = k
place_behind i k (c ∷ s) = elim (eqb c 35) [ true ↦ elim i [ zero ↦ suc k | suc j ↦ place_behind j (suc k) s ] | false ↦ place_behind i (suc k) s ]

-- at the place p of an `x` or a `b`: how many digits stand behind it, to which base, and their number
abbrev pub size_at : List ℕ → ℕ → ℕ
size_at reply p = cond (eqb (get_or reply p 0) 120) hex_digits binary_digits

abbrev pub base_at : List ℕ → ℕ → ℕ
base_at reply p = cond (eqb (get_or reply p 0) 120) 16 2

abbrev pub number_at : List ℕ → ℕ → ℕ
number_at reply p = number_of (base_at reply p) (map digit_value (take (size_at reply p) (drop (p + 1) reply)))

-- variable i's digits: where the first one stands, how many they are, and to which base
abbrev pub digits_place : ℕ → List ℕ → ℕ
digits_place i reply = place_behind i 0 reply + 1

abbrev pub digits_size : ℕ → List ℕ → ℕ
digits_size i reply = size_at reply (place_behind i 0 reply)

abbrev pub digits_base : ℕ → List ℕ → ℕ
digits_base i reply = base_at reply (place_behind i 0 reply)
