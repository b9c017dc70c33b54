-- Follows the code: texts made of words, each with the separator behind it. A place in the text says which words may stand there, and what comes behind each.
use Rattle.std.specs.Prelude.{ℕ, suc, ◌≡◌, Bool, true, false, List, [], ◌∷◌, ◌++◌}
use Rattle.std.proofs.Math.Option.{Option, some}

-- no byte of the list is a separator
abbrev pub Without : (ℕ → Bool) → List ℕ → Type 0
Without t [] = Unit {0}
Without t (c ∷ s) = (t c ≡ false) × Without t s

-- how many bytes stand before the first separator
unfoldable pub word_length : (ℕ → Bool) → List ℕ → ℕ
word_length t [] = 0
word_length t (c ∷ s) = elim (t c) [ true ↦ 0 | false ↦ suc (word_length t s) ]

-- what a word leads to: the separator behind it, and the next place
pub record Onward (Place : Type 0) : Type 0 where
  pub separator : ℕ
  pub place : Place

module _ {Place : Type 0} (allowed : Place → List ℕ → Option (Onward Place)) (final : Place → Bool) where
  -- the texts from a place on
  pub data Texts : Place → List ℕ → Type 0 where
    finished : {p : Place} → final p ≡ true → Texts p []
    word : {p : Place} (w : List ℕ) (x : Onward Place) {s : List ℕ} → allowed p w ≡ some x → Texts x.place s → Texts p (w ++ x.separator ∷ s)

-- how many of the bytes w, behind those of u, begin a word: `begins` says which bytes do
unfoldable pub reach_from : (List ℕ → Bool) → List ℕ → List ℕ → ℕ
reach_from begins u [] = 0
reach_from begins u (c ∷ w) = elim (begins (u ++ (c ∷ []))) [ true ↦ suc (reach_from begins (u ++ (c ∷ [])) w) | false ↦ 0 ]
