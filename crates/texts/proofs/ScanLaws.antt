-- Where a plain text is left, word by word. Assumes nothing.
use Prim.Native.Nat.{ℕ, suc, ◌+◌, ◌≤◌, ◌<◌}
use mathlib.Core.Path.{◌≡◌, refl, sym, ap, subst, ◌∙◌}
use mathlib.Core.Logic.{inl}
use mathlib.Core.Bool.{true, false}
use mathlib.Core.Option.{Option, none, some}
use mathlib.Core.List.{List, [], ◌∷◌, ◌++◌, append-nil}
use native.Mathlib.Omega.{arith}
use lib.ListN.{length, drop, get_or, take-append-drop, length-drop, drop_of_length-le}
use lib.Seq.{length-take-le, drop-cons, drop-drop, take_at}
use Rattle.grammar.specs.Words.{Without, word_length, Onward}
use Rattle.grammar.proofs.PatternLaws.{silent}
use Rattle.grammar.proofs.ScanLaws.{Ends, word-without, word-ends, word-inside, word-length, place_from, Amiss, stops-word, stops-final, stops-here, passes, reach-allowed}
use Rattle.texts.specs.Places.{separates, first_word, Place, done, allowed, final, begins, reach}
use Rattle.texts.proofs.PlaceLaws.{text-wordly}

-- where the text is left, from place p on, k bytes being read; none where it is a text
abbrev pub place_behind : Place → ℕ → List ℕ → Option ℕ
place_behind p k s = place_from allowed final separates begins p k s

-- ---- the first word

pub first-without : (s : List ℕ) → Without separates (first_word s)
unfolding first_word
first-without s = word-without separates s

pub first-length : (s : List ℕ) → length (first_word s) ≡ word_length separates s
unfolding first_word
first-length s = length-take-le (word_length separates s) s (word-inside separates s)

-- it is what stands before a separator or the end
pub first-is : (w r : List ℕ) → Without separates w → Ends separates r → first_word (w ++ r) ≡ w
unfolding first_word
first-is w r h e = take_at w r (word_length separates (w ++ r)) (sym (word-length separates w r h e))

pub first_rest : (s : List ℕ) → first_word s ++ drop (word_length separates s) s ≡ s
unfolding first_word
first_rest s = take-append-drop (word_length separates s) s

-- ---- behind the goal's line

done-final : final done ≡ true
unfolding final
done-final = refl

no-word-done : (w : List ℕ) → allowed done w ≡ none
unfolding allowed
no-word-done w = refl

none-begins-done : (u : List ℕ) → begins done u ≡ false
unfolding begins
none-begins-done u = refl

pub done_end : (k : ℕ) → place_behind done k [] ≡ none
done_end k = stops-final allowed final separates begins done k done-final

pub done_more : (k c : ℕ) (s : List ℕ) → place_behind done k (c ∷ s) ≡ some k
done_more k c s = stops-here allowed final separates begins done no-word-done none-begins-done k c s

-- ---- a word and what stands behind it

module _ (p : Place) (w : List ℕ) (k : ℕ) (plain : Without separates w) where
  -- a word that may stand there, and its separator
  pub pass-word : {x : Onward Place} (s : List ℕ) → allowed p w ≡ some x → place_behind p k (w ++ x.separator ∷ s) ≡ place_behind x.place (suc (k + length w)) s
  pass-word s h = passes allowed final separates begins text-wordly p w k s plain h

  -- no word that may stand there
  pub stop-none : (t : List ℕ) → final p ≡ false → Ends separates t → allowed p w ≡ none → place_behind p k (w ++ t) ≡ some (k + reach p w)
  stop-none t f e h = stops-word allowed final separates begins p w t k plain e (amiss t) (inl f)
    where
      amiss : (t : List ℕ) → Amiss allowed final separates begins p w t
      amiss [] = tt
      amiss (c ∷ s) = λ x g q. silent h g

  -- the end, where there should be a separator
  pub stop-short : final p ≡ false → place_behind p k w ≡ some (k + reach p w)
  stop-short f = ap (place_behind p k) (sym (append-nil w)) ∙ stops-word allowed final separates begins p w [] k plain tt tt (inl f)

  -- another separator
  pub stop-other : {x : Onward Place} (c : ℕ) (s : List ℕ) → final p ≡ false → separates c ≡ true → allowed p w ≡ some x → (x.separator ≡ c → ⊥) → place_behind p k (w ++ c ∷ s) ≡ some (k + length w)
  stop-other {x} c s f e h no_other =
      stops-word allowed final separates begins p w (c ∷ s) k plain e (λ y g q. no_other (let d : x.separator ≡ c = cc in d)) (inl f)
      ∙ ap (λ (n : ℕ). some (k + n)) (reach-allowed allowed final separates begins text-wordly p w h)

-- ---- the same of a text s that has been read up to k, with the n bytes of the next word

module _ (p : Place) (s : List ℕ) (k : ℕ) {n : ℕ} (size : n ≡ word_length separates (drop k s)) where
  behind-word : drop (word_length separates (drop k s)) (drop k s) ≡ drop (k + n) s
  behind-word = drop-drop (word_length separates (drop k s)) k s ∙ ap (λ (m : ℕ). drop (k + m) s) (sym size)

  word-and-rest : first_word (drop k s) ++ drop (k + n) s ≡ drop k s
  word-and-rest = ap (λ (l : List ℕ). first_word (drop k s) ++ l) (sym behind-word) ∙ first_rest (drop k s)

  rest-ends : Ends separates (drop (k + n) s)
  rest-ends = subst (Ends separates) behind-word (word-ends separates (drop k s))

  word_size : length (first_word (drop k s)) ≡ n
  word_size = first-length (drop k s) ∙ sym size

  pub next-inside : k ≤ length s → k + n ≤ length s
  next-inside l = omega (arith, word-inside separates (drop k s), length-drop k s)

  -- a separator stands behind the word, or nothing
  pub next-separates : k + n < length s → separates (get_or s (k + n) 0) ≡ true
  next-separates l = subst (Ends separates) (drop-cons s (k + n) 0 l) rest-ends

  pub pass-at : {x : Onward Place} → k + n < length s → allowed p (first_word (drop k s)) ≡ some x → x.separator ≡ get_or s (k + n) 0 → place_behind p k (drop k s) ≡ place_behind x.place (suc (k + n)) (drop (suc (k + n)) s)
  pass-at {x} l h q =
      ap (place_behind p k)
      (sym word-and-rest ∙ ap (λ (r : List ℕ). first_word (drop k s) ++ r) (drop-cons s (k + n) 0 l ∙ ap (λ (c : ℕ). c ∷ drop (suc (k + n)) s) (sym q)))
      ∙ pass-word p (first_word (drop k s)) k (first-without (drop k s)) (drop (suc (k + n)) s) h
      ∙ ap (λ (m : ℕ). place_behind x.place (suc (k + m)) (drop (suc (k + n)) s)) word_size

  pub stop-none-at : final p ≡ false → allowed p (first_word (drop k s)) ≡ none → place_behind p k (drop k s) ≡ some (k + reach p (first_word (drop k s)))
  stop-none-at f h = ap (place_behind p k) (sym word-and-rest) ∙ stop-none p (first_word (drop k s)) k (first-without (drop k s)) (drop (k + n) s) f rest-ends h

  pub stop-short-at : final p ≡ false → length s ≤ k + n → place_behind p k (drop k s) ≡ some (k + reach p (first_word (drop k s)))
  stop-short-at f l =
      ap (place_behind p k) (sym word-and-rest ∙ ap (λ (r : List ℕ). first_word (drop k s) ++ r) (drop_of_length-le s l) ∙ append-nil (first_word (drop k s)))
      ∙ stop-short p (first_word (drop k s)) k (first-without (drop k s)) f

  pub stop-other-at : {x : Onward Place} → final p ≡ false → k + n < length s → allowed p (first_word (drop k s)) ≡ some x → (x.separator ≡ get_or s (k + n) 0 → ⊥) → place_behind p k (drop k s) ≡ some (k + n)
  stop-other-at f l h other =
      ap (place_behind p k) (sym word-and-rest ∙ ap (λ (r : List ℕ). first_word (drop k s) ++ r) (drop-cons s (k + n) 0 l))
      ∙ stop-other p (first_word (drop k s)) k (first-without (drop k s)) (get_or s (k + n) 0) (drop (suc (k + n)) s) f (next-separates l) h other
      ∙ ap (λ (m : ℕ). some (k + m)) word_size

  -- all of a word that may stand there begins one
  pub reach-at : {x : Onward Place} → allowed p (first_word (drop k s)) ≡ some x → reach p (first_word (drop k s)) ≡ n
  reach-at h = reach-allowed allowed final separates begins text-wordly p (first_word (drop k s)) h ∙ word_size

-- at the end of the text, and behind the goal's line
pub done_at_end : (s : List ℕ) (k : ℕ) → length s ≤ k → place_behind done k (drop k s) ≡ none
done_at_end s k l = ap (place_behind done k) (drop_of_length-le s l) ∙ done_end k

pub done-at-more : (s : List ℕ) (k : ℕ) → k < length s → place_behind done k (drop k s) ≡ some k
done-at-more s k l = ap (place_behind done k) (drop-cons s k 0 l) ∙ done_more k (get_or s k 0) (drop (suc k) s)
