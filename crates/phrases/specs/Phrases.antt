-- The phrases of an answer, in bytes: a refusal's line, and variables with their values.
use Rattle.std.specs.Prelude.{ℕ, List, [], ◌∷◌, ◌++◌, ℤ}
use Rattle.lists.specs.Ascii.{ascii}
use Rattle.numbers.specs.Decimal.{decimal, signed}
use Rattle.refusals.specs.declared.Refusal.{Refusal}
use Rattle.meaning.specs.Rule.{Variable}

-- two numbers, each behind its word, and such a line
unfoldable pub numbers_text : List ℕ → ℕ → List ℕ → ℕ → List ℕ
numbers_text a m b n = a ++ decimal m ++ b ++ decimal n

unfoldable pub numbers_line : List ℕ → ℕ → List ℕ → ℕ → List ℕ
numbers_line a m b n = numbers_text a m b n ++ ascii "\n"

-- a refusal's line
unfoldable pub refusal_line : Refusal → List ℕ
refusal_line r = numbers_line (ascii "refused ") r.number (ascii " at ") r.place

-- a variable's name and its value
unfoldable pub name_value : List ℕ → ℤ → List ℕ
name_value name z = ascii " " ++ name ++ ascii "=" ++ signed z

-- each variable's name and its value in a case
unfoldable pub name_values : List Variable → List ℤ → List ℕ
name_values [] c = []
name_values (v ∷ vs) [] = []
name_values (v ∷ vs) (z ∷ c) = name_value v.name z ++ name_values vs c
