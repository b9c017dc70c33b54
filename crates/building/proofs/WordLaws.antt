-- Words that stand in a text: where the first one ends, what it is, and what stands behind it. Assumes nothing.
use Prim.Native.Nat.{ℕ, suc, ◌+◌, ◌-◌, ◌<◌}
use mathlib.Core.Path.{◌≡◌, sym, ap, ◌∙◌}
use mathlib.Core.List.{List, [], ◌∷◌, ◌++◌, append_assoc}
use native.Mathlib.Omega.{arith}
use lib.ListN.{length, take, drop, length-append, length-drop}
use lib.Seq.{take_at, drop_at, drop-drop}
use Rattle.lists.specs.Ascii.{ascii}
use Rattle.grammar.specs.Words.{Without, word_length}
use Rattle.grammar.proofs.ScanLaws.{word-length}
use Rattle.texts.specs.Places.{separates}
use Rattle.texts.proofs.SpellingLaws.{space-separates}
use Rattle.building.specs.Building.{WordsAt}

module _ {text : List ℕ} {at : ℕ} {w : List ℕ} (h : WordsAt text at w) where
  pub inside : at + length w < length text
  inside = omega (arith, length-drop at text, ap length h.here, length-append w (h.separator ∷ h.rest))

  module _ (u : Without separates w) {end : ℕ} (e : end ≡ at + word_length separates (drop at text)) where
    -- where a word ends
    pub ends : end ≡ at + length w
    ends = e ∙ ap (λ (s : List ℕ). at + word_length separates s) h.here ∙ ap (λ (n : ℕ). at + n) (word-length separates w (h.separator ∷ h.rest) u h.separates)

    -- and what it is
    pub word-is : take (end - at) (drop at text) ≡ w
    word-is =
        let n : length w ≡ end - at = omega (arith, ends) in
        ap (take (end - at)) h.here ∙ take_at w (h.separator ∷ h.rest) (end - at) n

-- ---- words behind words
module _ {text : List ℕ} {at : ℕ} (w u : List ℕ) (h : WordsAt text at (w ++ (ascii " " ++ u))) where
  apart : drop at text ≡ w ++ 32 ∷ (u ++ h.separator ∷ h.rest)
  apart = h.here ∙ append_assoc w (32 ∷ u) (h.separator ∷ h.rest)

  pub words-first : WordsAt text at w
  words-first = record { separator = 32; rest = u ++ h.separator ∷ h.rest; here = apart; separates = space-separates }

  pub words-next : {end : ℕ} → end ≡ at + length w → WordsAt text (end + 1) u
  words-next {end} e = record { separator = h.separator; rest = h.rest; here = there; separates = h.separates }
    where
      there : drop (end + 1) text ≡ u ++ h.separator ∷ h.rest
      there =
          let n : end + 1 ≡ at + suc (length w) = omega arith in
          let m : length (w ++ (32 ∷ [])) ≡ suc (length w) = omega (arith, length-append w (32 ∷ [])) in
          ap (λ (k : ℕ). drop k text) n ∙ sym (drop-drop (suc (length w)) at text) ∙ ap (drop (suc (length w))) (apart ∙ sym (append_assoc w (32 ∷ []) (u ++ h.separator ∷ h.rest)))
          ∙ drop_at (w ++ (32 ∷ [])) (u ++ h.separator ∷ h.rest) (suc (length w)) m
