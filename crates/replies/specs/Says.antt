-- What a reply says (document 02, item 1): that the script is claimed unsatisfiable, or a number for each variable.
use Rattle.std.specs.Prelude.{ℕ, ◌≡◌, Bool, List, [], ◌∷◌, map, eqb, ltb, ℤ, length}
use Rattle.lists.specs.Ascii.{ascii}
use Rattle.numbers.specs.Two.{dec}
use Rattle.smtlib.specs.Tokens.{digit_value}
use Rattle.smtlib.specs.Terms.{number_of}
use Rattle.grammar.specs.Patterns.{Pattern, one, exact, All, Fits}
use Rattle.replies.specs.Replies.{value_bits, hex_digits, binary_digits, blanks, listed, claim}

-- a value as it is written: by the values of its digits, the first one first
pub data Numeral : Type 0 where
  hexadecimal binary : List ℕ → Numeral

-- its number
abbrev pub number_in : Numeral → ℕ
number_in (hexadecimal ds) = number_of 16 ds
number_in (binary ds) = number_of 2 ds

-- of 16 bits: so many digits, each below the base
abbrev pub Sixteen : Numeral → Type 0
Sixteen (hexadecimal ds) = (length ds ≡ hex_digits) × All (λ d. ltb d 16) ds
Sixteen (binary ds) = (length ds ≡ binary_digits) × All (λ d. ltb d 2) ds

abbrev pub AllSixteen : List Numeral → Type 0
AllSixteen [] = Unit {0}
AllSixteen (n ∷ ns) = Sixteen n × AllSixteen ns

-- a digit of this value, a letter in either case
abbrev pub valued : ℕ → ℕ → Bool
valued d c = eqb (digit_value c) d

-- digits of these values, and then
abbrev pub digits : List ℕ → Pattern → Pattern
digits [] p = p
digits (d ∷ ds) p = one (valued d) (digits ds p)

-- the value so written, and then
abbrev pub written : Numeral → Pattern → Pattern
written (hexadecimal ds) p = exact (ascii "#x") (digits ds p)
written (binary ds) p = exact (ascii "#b") (digits ds p)

-- the reply claims that nothing satisfies the script
abbrev pub Claims : List ℕ → Type 0
Claims = Fits (blanks (exact (ascii "unsat") claim))

-- the reply spells these values
abbrev pub Spells : List Numeral → List ℕ → Type 0
Spells ns = Fits (blanks (exact (ascii "sat") (listed (map written ns))))

-- the reply spells this setting: a number of 16 bits for each of v symbols
pub record SpellsSetting (v : ℕ) (reply setting : List ℕ) : Type 0 where
  pub numerals : List Numeral
  pub each : length numerals ≡ v
  pub sixteen : AllSixteen numerals
  pub spelled : Spells numerals reply
  pub numbers : map number_in numerals ≡ setting

-- the reply spells this case, in two's complement
pub record SpellsCase (v : ℕ) (reply : List ℕ) (c : List ℤ) : Type 0 where
  pub setting : List ℕ
  pub spelled : SpellsSetting v reply setting
  pub case : map (dec value_bits) setting ≡ c

-- what a reply for v symbols says
pub data Says (v : ℕ) (reply : List ℕ) : Type 0 where
  unsat : Claims reply → Says v reply
  sat : (setting : List ℕ) → SpellsSetting v reply setting → Says v reply
