-- Constants and variables as document 01 writes them: `#x` and four lowercase hexadecimal digits; `v` and the decimal number.
use Rattle.std.specs.Prelude.{ℕ, ◌+◌, ◌/◌, ◌%◌, cond, List, [], ◌∷◌, ◌++◌, ltb, ℤ}
use Rattle.lists.specs.Ascii.{ascii}
use Rattle.numbers.specs.Two.{enc}

-- 0 to 9, then a to f
unfoldable pub hex_digit : ℕ → ℕ
hex_digit n = cond (ltb n 10) (48 + n) (87 + n)

unfoldable pub hex_text : ℕ → List ℕ
hex_text x = ascii "#x" ++ (hex_digit (x / 4096 % 16) ∷ hex_digit (x / 256 % 16) ∷ hex_digit (x / 16 % 16) ∷ hex_digit (x % 16) ∷ [])

-- a constant, in 16 bits
unfoldable pub literal : ℤ → List ℕ
literal z = hex_text (enc 16 z)

-- a variable, its number below 100
unfoldable pub symbol_text : ℕ → List ℕ
symbol_text i = ascii "v" ++ cond (ltb i 10) ((48 + i) ∷ []) ((48 + i / 10 % 10) ∷ (48 + i % 10) ∷ [])
