-- Follows the code: the places of a plain text, which words may stand at each, and how a word begins, as tests.
use Rattle.std.specs.Prelude.{ℕ, zero, suc, ◌+◌, Bool, true, false, ◌&&◌, ◌||◌, List, [], ◌∷◌, ◌++◌, eqb, leb, ltb, length, take, drop}
use Rattle.std.proofs.Math.Option.{Option, none, some}
use Rattle.lists.specs.Ascii.{ascii}
use Rattle.lists.specs.Names.{same_bytes}
use Rattle.kinds.specs.declared.Kind.{Kind}
use Rattle.layout.specs.Limits.{most_name_bytes}
use Rattle.records.specs.Variables.{name_right}
use Rattle.grammar.specs.Words.{Onward, word_length, reach_from}
use Rattle.texts.specs.Plain.{plain_of}
use Rattle.texts.specs.WordKinds.{worded, behind_word, is_none}
use Rattle.texts.specs.Numbers.{is_number}

-- a space or a line feed
unfoldable pub separates : ℕ → Bool
separates c = eqb c 32 || eqb c 10

-- the word at the front of the bytes
unfoldable pub first_word : List ℕ → List ℕ
first_word s = take (word_length separates s) s

-- ---- names

-- a name, and no word
unfoldable pub is_plain_name : List ℕ → Bool
is_plain_name w = name_right w && leb (length w) most_name_bytes && is_none (behind_word w)

-- the number of the first of these names that is w, and their number where none is
unfoldable pub index_in : List (List ℕ) → List ℕ → ℕ
index_in [] w = 0
index_in (n ∷ ns) w = elim (same_bytes n w) [ true ↦ 0 | false ↦ suc (index_in ns w) ]

unfoldable pub is_declared : List (List ℕ) → List ℕ → Bool
is_declared names w = ltb (index_in names w) (length names)

-- behind a word of an expression: of a kind, a number, or a declared name
abbrev pub or_none : Bool → Option ℕ
or_none true = some 0
or_none false = none

unfoldable pub operands_of : List (List ℕ) → List ℕ → Option ℕ
operands_of names w = elim (behind_word w) [ some n ↦ some n | none ↦ or_none (is_number w || is_declared names w) ]

-- ---- the names in the first n lines

-- behind the first line feed
unfoldable pub behind_line : List ℕ → List ℕ
behind_line [] = []
behind_line (c ∷ s) = elim (eqb c 10) [ true ↦ s | false ↦ behind_line s ]

-- a line's second word: the one behind `var` and a space
abbrev pub behind_var : ℕ
behind_var = 4

unfoldable pub names_in : ℕ → List ℕ → List (List ℕ)
names_in zero s = []
names_in (suc n) s = first_word (drop behind_var s) ∷ names_in n (behind_line s)

-- ---- places

-- with the names declared before; in an expression, with the operands that are to come behind the next one
pub data Place : Type 0 where
  line named least most : List (List ℕ) → Place
  operand : List (List ℕ) → ℕ → Place
  done : Place

abbrev pub onward : ℕ → Place → Option (Onward Place)
onward c p = some (record { separator = c; place = p })

abbrev pub pending : List (List ℕ) → ℕ → Option (Onward Place)
pending names zero = onward 10 done
pending names (suc n) = onward 32 (operand names n)

unfoldable pub allowed : Place → List ℕ → Option (Onward Place)
allowed (line names) w = elim (same_bytes (ascii "var") w) [ true ↦ onward 32 (named names) | false ↦ elim (same_bytes (ascii "goal") w) [ true ↦ onward 32 (operand names 0) | false ↦ none ] ]
allowed (named names) w = elim (is_plain_name w) [ true ↦ onward 32 (least (names ++ (w ∷ []))) | false ↦ none ]
allowed (least names) w = elim (is_number w) [ true ↦ onward 32 (most names) | false ↦ none ]
allowed (most names) w = elim (is_number w) [ true ↦ onward 10 (line names) | false ↦ none ]
allowed (operand names n) w = elim (operands_of names w) [ none ↦ none | some k ↦ pending names (k + n) ]
allowed done w = none

unfoldable pub final : Place → Bool
final (line names) = false
final (named names) = false
final (least names) = false
final (most names) = false
final (operand names n) = false
final done = true

-- ---- how words begin

-- u begins w
unfoldable pub beginning : List ℕ → List ℕ → Bool
beginning [] w = true
beginning (c ∷ u) [] = false
beginning (c ∷ u) (d ∷ w) = eqb c d && beginning u w

unfoldable pub begins_any : List (List ℕ) → List ℕ → Bool
begins_any [] u = false
begins_any (w ∷ ws) u = beginning u w || begins_any ws u

abbrev pub plain_words : List Kind → List (List ℕ)
plain_words [] = []
plain_words (k ∷ ks) = plain_of k ∷ plain_words ks

unfoldable pub begins_number : List ℕ → Bool
begins_number [] = true
begins_number (c ∷ s) = is_number (c ∷ s) || same_bytes (c ∷ s) (ascii "-")

unfoldable pub begins_name : List ℕ → Bool
begins_name [] = true
begins_name (c ∷ s) = name_right (c ∷ s) && leb (length (c ∷ s)) most_name_bytes

-- u begins a word that may stand there
unfoldable pub begins : Place → List ℕ → Bool
begins (line names) u = beginning u (ascii "var") || beginning u (ascii "goal")
begins (named names) u = begins_name u
begins (least names) u = begins_number u
begins (most names) u = begins_number u
begins (operand names n) u = begins_any (plain_words worded) u || (begins_number u || begins_any names u)
begins done u = false

-- how many bytes of w begin a word that may stand there
abbrev pub reach : Place → List ℕ → ℕ
reach p w = reach_from (begins p) [] w
