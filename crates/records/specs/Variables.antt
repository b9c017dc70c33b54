-- Follows the code: refusal 5 as tests, which say what `Names` says in propositions.
use Rattle.std.specs.Prelude.{ℕ, ◌+◌, ◌-◌, Bool, true, false, not, ◌&&◌, ◌||◌, List, [], ◌∷◌, eqb, leb}
use Rattle.std.proofs.Math.Option.{Option}
use Rattle.std.specs.Int.Signed.{le_z}
use Rattle.lists.specs.Places.{all_below}
use Rattle.lists.specs.First.{first}
use Rattle.lists.specs.Names.{same_bytes}
use Rattle.refusals.specs.declared.Refusal.{Refusal}
use Rattle.numbers.specs.Bytes.{i16_at}
use Rattle.layout.specs.Limits.{max_offset, name_start, most_name_bytes, name_field, variable_place}
use Rattle.layout.specs.Parts.{variable_count, name_size, zero_byte, name_in}
use Rattle.refusals.specs.Said.{unless}
use Rattle.header.specs.Header.{zeros}

unfoldable pub is_letter : ℕ → Bool
is_letter b = leb 65 b && leb b 90 || leb 97 b && leb b 122

unfoldable pub is_name_byte : ℕ → Bool
is_name_byte b = is_letter b || leb 48 b && leb b 57 || eqb b 95

unfoldable pub all_name_bytes : List ℕ → Bool
all_name_bytes [] = true
all_name_bytes (b ∷ bs) = is_name_byte b && all_name_bytes bs

unfoldable pub name_right : List ℕ → Bool
name_right [] = false
name_right (b ∷ bs) = is_letter b && all_name_bytes bs

-- the record at place i: min ≤ max, a name of 1 to 16 bytes that is a name, the zero byte, and zeros behind the name to the record's end
unfoldable pub variable_right : List ℕ → ℕ → Bool
variable_right s i =
    le_z (i16_at s i) (i16_at s (i + max_offset))
    && leb 1 (name_size s i)
    && leb (name_size s i) most_name_bytes
    && eqb (zero_byte s i) 0
    && name_right (name_in s i)
    && zeros s (i + name_start + name_size s i) (name_field - name_size s i)

-- no lower variable has variable n's name
unfoldable pub fresh : List ℕ → ℕ → Bool
fresh s n = all_below (λ m. not (same_bytes (name_in s (variable_place m)) (name_in s (variable_place n)))) n

-- refusal 5 at variable n
abbrev pub variable_refusal : List ℕ → ℕ → Option Refusal
variable_refusal s n = unless (variable_right s (variable_place n) && fresh s n) 5 n

abbrev pub variables : List ℕ → Option Refusal
variables s = first (variable_refusal s) 0 (variable_count s)
