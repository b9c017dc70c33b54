-- What document 01, "Variable record", demands of a variable's record, as propositions: refusal 5 is that it fails.
use Rattle.std.specs.Prelude.{ℕ, ◌+◌, ◌≤◌, ◌<◌, ◌≡◌, List, [], ◌∷◌, ◌⊎◌, length, ◌≤ℤ◌}
use Rattle.numbers.specs.Bytes.{byte_at, i16_at}
use Rattle.layout.specs.Limits.{variable_bytes, max_offset, name_start, most_name_bytes, name_end, variable_place}
use Rattle.layout.specs.Parts.{name_size, zero_byte, name_in}

-- ASCII: A to Z and a to z; 0 to 9; the underscore
abbrev pub Letter : ℕ → Type 0
Letter b = ((65 ≤ b) × (b ≤ 90)) ⊎ ((97 ≤ b) × (b ≤ 122))

abbrev pub NameByte : ℕ → Type 0
NameByte b = (Letter b ⊎ ((48 ≤ b) × (b ≤ 57))) ⊎ (b ≡ 95)

-- the first byte is a letter, all others are name bytes, and no name is empty
abbrev pub Name : List ℕ → Type 0
Name [] = ⊥
Name (b ∷ bs) = Letter b × ((j : ℕ) → j < length bs → NameByte (byte_at bs j))

-- the variable record at place i keeps its own rules
pub record VariableRule (s : List ℕ) (i : ℕ) : Type 0 where
  pub order : i16_at s i ≤ℤ i16_at s (i + max_offset)
  pub long : 1 ≤ name_size s i
  pub short : name_size s i ≤ most_name_bytes
  pub gap : zero_byte s i ≡ 0
  pub name : Name (name_in s i)
  pub past : (j : ℕ) → name_size s i ≤ j → j < most_name_bytes → byte_at s (i + name_start + j) ≡ 0
  pub end : (j : ℕ) → name_end ≤ j → j < variable_bytes → byte_at s (i + j) ≡ 0

-- variable n's record keeps them, and no lower variable has its name
abbrev pub VariableKept : List ℕ → ℕ → Type 0
VariableKept s n = VariableRule s (variable_place n) × ((m : ℕ) → m < n → name_in s (variable_place m) ≡ name_in s (variable_place n) → ⊥)
