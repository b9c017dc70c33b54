-- Texts by their words: the bridge from the places of a text to what it says. Assumes nothing.
use Prim.Native.Nat.{ℕ}
use mathlib.Core.Path.{◌≡◌}
use mathlib.Core.Bool.{true}
use mathlib.Core.List.{List, [], ◌∷◌, ◌++◌}
use mathlib.Core.Option.{some}
use Rattle.lists.specs.Ascii.{ascii}
use Rattle.texts.specs.Numbers.{is_number}
use Rattle.texts.specs.Places.{is_plain_name, operands_of}

-- an expression as its words
pub data Prefixed (names : List (List ℕ)) : List (List ℕ) → Type 0 where
  none-behind : {w : List ℕ} → operands_of names w ≡ some 0 → Prefixed names (w ∷ [])
  one-behind : {w : List ℕ} {a : List (List ℕ)} → operands_of names w ≡ some 1 → Prefixed names a → Prefixed names (w ∷ a)
  two-behind : {w : List ℕ} {a b : List (List ℕ)} → operands_of names w ≡ some 2 → Prefixed names a → Prefixed names b → Prefixed names (w ∷ a ++ b)
  three-behind : {w : List ℕ} {a b c : List (List ℕ)} → operands_of names w ≡ some 3 → Prefixed names a → Prefixed names b → Prefixed names c → Prefixed names (w ∷ a ++ (b ++ c))

-- words, a space before each
abbrev pub spaced : List (List ℕ) → List ℕ
spaced [] = []
spaced (w ∷ ws) = 32 ∷ (w ++ spaced ws)

-- the lines that may stand behind the declarations of these names
pub data Lines : List (List ℕ) → List ℕ → Type 0 where
  goal : {names : List (List ℕ)} (e : List (List ℕ)) → Prefixed names e → Lines names (ascii "goal" ++ (spaced e ++ (10 ∷ [])))
  var :
      {names : List (List ℕ)} (name low high : List ℕ) {s : List ℕ} →
      is_plain_name name ≡ true → is_number low ≡ true → is_number high ≡ true → Lines (names ++ (name ∷ [])) s →
      Lines names (ascii "var" ++ 32 ∷ (name ++ 32 ∷ (low ++ 32 ∷ (high ++ 10 ∷ s))))
