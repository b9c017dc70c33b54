-- Numbers in bytes, the lower byte first (document 01, "The sheet in 512-byte blocks": little-endian, i16 in two's complement).
use Rattle.std.specs.Prelude.{List, [], ◌∷◌, ℕ, ◌+◌, ◌-◌, ◌*◌, ◌/◌, ◌%◌, ◌<◌, get_or, ℤ}
use Rattle.numbers.specs.Two.{dec}

-- how many numbers a byte can hold, the greatest of them, and how many two bytes can
abbrev pub byte_limit : ℕ
byte_limit = 256

abbrev pub most_byte : ℕ
most_byte = byte_limit - 1

abbrev pub word_limit : ℕ
word_limit = byte_limit * byte_limit

-- byte j, and 0 past the end
abbrev pub byte_at : List ℕ → ℕ → ℕ
byte_at s j = get_or s j 0

-- the number in the two bytes from j on, unsigned and signed
abbrev pub u16_at : List ℕ → ℕ → ℕ
u16_at s j = byte_at s j + byte_limit * byte_at s (j + 1)

abbrev pub i16_at : List ℕ → ℕ → ℤ
i16_at s j = dec 16 (u16_at s j)

-- the two bytes of a number that has room in them
abbrev pub pair : ℕ → List ℕ
pair x = x % byte_limit ∷ x / byte_limit ∷ []

-- the list holds bytes
abbrev pub Bytes : List ℕ → Type 0
Bytes s = (j : ℕ) → byte_at s j < byte_limit
