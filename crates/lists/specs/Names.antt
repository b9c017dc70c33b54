-- Names as lists of bytes: when two are the same, lists of names, and tables with a name on each row.
use Rattle.std.specs.Prelude.{ℕ, Bool, true, false, ◌&&◌, List, [], ◌∷◌, eqb}
use Prim.Native.String.{String}
use Rattle.std.proofs.Math.Option.{Option, none, some}
use Rattle.lists.specs.Ascii.{ascii}

-- byte for byte
unfoldable pub same_bytes : List ℕ → List ℕ → Bool
same_bytes [] [] = true
same_bytes [] (c ∷ cs) = false
same_bytes (b ∷ bs) [] = false
same_bytes (b ∷ bs) (c ∷ cs) = eqb b c && same_bytes bs cs

-- n is one of these names
abbrev pub listed : List (List ℕ) → List ℕ → Bool
listed [] n = false
listed (m ∷ ms) n = elim (same_bytes m n) [ true ↦ true | false ↦ listed ms n ]

-- what the first row with this name has
abbrev pub entry : {A : Type 0} → List (List ℕ × A) → List ℕ → Option A
entry [] n = none
entry (r ∷ rs) n = elim (same_bytes r.0 n) [ true ↦ some r.1 | false ↦ entry rs n ]

-- the words of a text, parted by single blanks
abbrev pub begun : ℕ → List (List ℕ) → List (List ℕ)
begun c [] = (c ∷ []) ∷ []
begun c (w ∷ ws) = (c ∷ w) ∷ ws

abbrev pub words_of : List ℕ → List (List ℕ)
words_of [] = [] ∷ []
words_of (c ∷ s) = elim (eqb c 32) [ true ↦ [] ∷ words_of s | false ↦ begun c (words_of s) ]

abbrev pub words : String → List (List ℕ)
words t = words_of (ascii t)
