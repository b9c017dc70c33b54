-- Where the machine of texts made of words stops, word by word. Assumes nothing.
use Prim.Native.Nat.{ℕ, suc, ◌+◌, ◌<◌, ◌≤◌}
use mathlib.Core.Path.{◌≡◌, refl, sym, ap, subst, ◌∙◌}
use mathlib.Core.Logic.{◌⊎◌, inl, inr}
use mathlib.Core.Bool.{Bool, true, false, ◌&&◌}
use mathlib.Core.Option.{Option, none, some}
use mathlib.Core.List.{List, [], ◌∷◌, ◌++◌, append_assoc, append-nil}
use native.Mathlib.Nat.{add-zero}
use native.Mathlib.Decide.{dec_lt}
use native.Mathlib.Omega.{arith}
use lib.ListN.{length, take, drop}
use borrow.Author.Tests.{ne_eqb}
use Rattle.grammar.specs.Stops.{stop}
use Rattle.grammar.specs.Words.{Without, word_length, Onward, reach_from}
use Rattle.grammar.proofs.MachineLaws.{stop-turn, stop-off, stop-end, stop-short}
use Rattle.grammar.proofs.PatternLaws.{silent}
use Rattle.grammar.proofs.WordLaws.{Wordly, at, behind, step, accepts, empty, step-sep, step-on, step-none, behind-yes}

-- ---- the word at the front

-- a word may end before these bytes: there are none, or a separator comes first
abbrev pub Ends : (ℕ → Bool) → List ℕ → Type 0
Ends t [] = Unit {0}
Ends t (c ∷ s) = t c ≡ true

module _ (t : ℕ → Bool) where
  length-stop : (c : ℕ) (s : List ℕ) → t c ≡ true → word_length t (c ∷ s) ≡ 0
  unfolding word_length
  length-stop c s e = rw (e, word_length)

  length_more : (c : ℕ) (s : List ℕ) → t c ≡ false → word_length t (c ∷ s) ≡ suc (word_length t s)
  unfolding word_length
  length_more c s e = rw (e, word_length)

  no_word : word_length t [] ≡ 0
  unfolding word_length
  no_word = refl

  -- what stands before it has no separator
  pub word-without : (s : List ℕ) → Without t (take (word_length t s) s)
  word-without [] = subst (λ (n : ℕ). Without t (take n [])) (sym no_word) tt
  word-without (c ∷ s) = go (t c) refl (word-without s)
    where
      go : (b : Bool) → t c ≡ b → Without t (take (word_length t s) s) → Without t (take (word_length t (c ∷ s)) (c ∷ s))
      go true e more = subst (λ (n : ℕ). Without t (take n (c ∷ s))) (sym (length-stop c s e)) tt
      go false e more = subst (λ (n : ℕ). Without t (take n (c ∷ s))) (sym (length_more c s e)) (e, more)

  -- behind it there is nothing, or a separator
  pub word-ends : (s : List ℕ) → Ends t (drop (word_length t s) s)
  word-ends [] = subst (λ (n : ℕ). Ends t (drop n [])) (sym no_word) tt
  word-ends (c ∷ s) = go (t c) refl (word-ends s)
    where
      go : (b : Bool) → t c ≡ b → Ends t (drop (word_length t s) s) → Ends t (drop (word_length t (c ∷ s)) (c ∷ s))
      go true e more = subst (λ (n : ℕ). Ends t (drop n (c ∷ s))) (sym (length-stop c s e)) e
      go false e more = subst (λ (n : ℕ). Ends t (drop n (c ∷ s))) (sym (length_more c s e)) more

  pub word-inside : (s : List ℕ) → word_length t s ≤ length s
  word-inside [] = omega (arith, no_word)
  word-inside (c ∷ s) = go (t c) refl (word-inside s)
    where
      go : (b : Bool) → t c ≡ b → word_length t s ≤ length s → word_length t (c ∷ s) ≤ length (c ∷ s)
      go true e more = omega (arith, length-stop c s e)
      go false e more = omega (arith, length_more c s e)

  -- a word is as long as it is
  pub word-length : (w r : List ℕ) → Without t w → Ends t r → word_length t (w ++ r) ≡ length w
  word-length [] [] h e = no_word
  word-length [] (c ∷ r) h e = length-stop c r e
  word-length (c ∷ w) r h e = length_more c (w ++ r) h.0 ∙ ap suc (word-length w r h.1 e)

-- ---- how far a word begins

module _ (begins : List ℕ → Bool) where
  pub reach-on : (u : List ℕ) (c : ℕ) (w : List ℕ) → begins (u ++ (c ∷ [])) ≡ true → reach_from begins u (c ∷ w) ≡ suc (reach_from begins (u ++ (c ∷ [])) w)
  unfolding reach_from
  reach-on u c w e = rw (e, reach_from)

  pub reach-off : (u : List ℕ) (c : ℕ) (w : List ℕ) → begins (u ++ (c ∷ [])) ≡ false → reach_from begins u (c ∷ w) ≡ 0
  unfolding reach_from
  reach-off u c w e = rw (e, reach_from)

  pub reach-end : (u : List ℕ) → reach_from begins u [] ≡ 0
  unfolding reach_from
  reach-end u = refl

  pub reach-inside : (u w : List ℕ) → reach_from begins u w ≤ length w
  reach-inside u [] = omega (arith, reach-end u)
  reach-inside u (c ∷ w) = go (begins (u ++ (c ∷ []))) refl (reach-inside (u ++ (c ∷ [])) w)
    where
      go : (b : Bool) → begins (u ++ (c ∷ [])) ≡ b → reach_from begins (u ++ (c ∷ [])) w ≤ length w → reach_from begins u (c ∷ w) ≤ length (c ∷ w)
      go true e more = omega (arith, reach-on u c w e)
      go false e more = omega (arith, reach-off u c w e)

  -- where each part of the word begins one
  pub reach-all : (u w : List ℕ) → ((v r : List ℕ) → w ≡ v ++ r → begins (u ++ v) ≡ true) → reach_from begins u w ≡ length w
  reach-all u [] h = reach-end u
  reach-all u (c ∷ w) h =
      reach-on u c w (h (c ∷ []) w refl)
      ∙ ap suc (reach-all (u ++ (c ∷ [])) w (λ v r e. ap begins (append_assoc u (c ∷ []) v) ∙ h (c ∷ v) r (ap (λ (l : List ℕ). c ∷ l) e)))

-- ---- where the machine stops

module _ {Place : Type 0} (allowed : Place → List ℕ → Option (Onward Place)) (final : Place → Bool) (separates : ℕ → Bool) (begins : Place → List ℕ → Bool) where
  -- the word u having begun
  abbrev within : Place → List ℕ → ℕ → List ℕ → Option ℕ
  within p u k s = stop (step allowed final separates begins) (accepts allowed final separates begins) (at allowed final separates begins p u) k s

  -- the place at which it stops, from place p on, k bytes being read; none where it accepts
  abbrev pub place_from : Place → ℕ → List ℕ → Option ℕ
  place_from p k s = within p [] k s

  module _ (p : Place) where
    within_on : (u : List ℕ) (k c : ℕ) (s : List ℕ) → separates c ≡ false → begins p (u ++ (c ∷ [])) ≡ true → within p u k (c ∷ s) ≡ within p (u ++ (c ∷ [])) (suc k) s
    within_on u k c s e h = stop-turn (step allowed final separates begins) (accepts allowed final separates begins) k c s (step-on allowed final separates begins (at allowed final separates begins p u) c e h)

    within-off : (u : List ℕ) (k c : ℕ) (s : List ℕ) → separates c ≡ false → begins p (u ++ (c ∷ [])) ≡ false → within p u k (c ∷ s) ≡ some k
    within-off u k c s e h = stop-off (step allowed final separates begins) (accepts allowed final separates begins) k c s (step-none allowed final separates begins (at allowed final separates begins p u) c e h)

    -- a word that begins as one that may stand there
    through : (u w t : List ℕ) (k : ℕ) → Without separates w → reach_from (begins p) u w ≡ length w → within p u k (w ++ t) ≡ within p (u ++ w) (k + length w) t
    through u [] t k n e = (λ i. within p (sym (append-nil u) i) (sym (add-zero k) i) t)
    through u (c ∷ w) t k n e = go (begins p (u ++ (c ∷ []))) refl (through (u ++ (c ∷ [])) w t (suc k) n.1)
      where
        go : (b : Bool) → begins p (u ++ (c ∷ [])) ≡ b →
            (reach_from (begins p) (u ++ (c ∷ [])) w ≡ length w → within p (u ++ (c ∷ [])) (suc k) (w ++ t) ≡ within p ((u ++ (c ∷ [])) ++ w) (suc k + length w) t) →
            within p u k (c ∷ (w ++ t)) ≡ within p (u ++ c ∷ w) (k + length (c ∷ w)) t
        go true h more =
            let q : suc k + length w ≡ k + length (c ∷ w) = omega arith in
            within_on u k c (w ++ t) n.0 h
            ∙ more (omega (arith, e, reach-on (begins p) u c w h))
            ∙ (λ i. within p (append_assoc u (c ∷ []) w i) (q i) t)
        go false h more = absurd (omega (arith, e, reach-off (begins p) u c w h))

    -- a word that doesn't
    inside : (u w t : List ℕ) (k : ℕ) → Without separates w → reach_from (begins p) u w < length w → within p u k (w ++ t) ≡ some (k + reach_from (begins p) u w)
    inside u [] t k n l = absurd (omega arith)
    inside u (c ∷ w) t k n l = go (begins p (u ++ (c ∷ []))) refl (inside (u ++ (c ∷ [])) w t (suc k) n.1)
      where
        go : (b : Bool) → begins p (u ++ (c ∷ [])) ≡ b →
            (reach_from (begins p) (u ++ (c ∷ [])) w < length w → within p (u ++ (c ∷ [])) (suc k) (w ++ t) ≡ some (suc k + reach_from (begins p) (u ++ (c ∷ [])) w)) →
            within p u k (c ∷ (w ++ t)) ≡ some (k + reach_from (begins p) u (c ∷ w))
        go true h more =
            let q : suc k + reach_from (begins p) (u ++ (c ∷ [])) w ≡ k + reach_from (begins p) u (c ∷ w) = omega (arith, reach-on (begins p) u c w h) in
            within_on u k c (w ++ t) n.0 h ∙ more (omega (arith, reach-on (begins p) u c w h)) ∙ ap some q
        go false h more =
            let q : k ≡ k + reach_from (begins p) u (c ∷ w) = omega (arith, reach-off (begins p) u c w h) in
            within-off u k c (w ++ t) n.0 h ∙ ap some q

    -- ---- behind the word

    behind-none : (c : ℕ) → behind allowed final separates begins none c ≡ none
    unfolding behind
    behind-none c = refl

    behind-other : (x : Onward Place) (c : ℕ) → (x.separator ≡ c → ⊥) → behind allowed final separates begins (some x) c ≡ none
    unfolding behind
    behind-other x c h = rw (ne_eqb x.separator c h, behind)

    behind-off : (w : List ℕ) (c : ℕ) → ((x : Onward Place) → allowed p w ≡ some x → x.separator ≡ c → ⊥) → behind allowed final separates begins (allowed p w) c ≡ none
    behind-off w c off = go (allowed p w) refl
      where
        go : (o : Option (Onward Place)) → allowed p w ≡ o → behind allowed final separates begins o c ≡ none
        go none e = behind-none c
        go (some x) e = behind-other x c (off x e)

    unaccepted : (w : List ℕ) → (final p ≡ false) ⊎ (0 < length w) → accepts allowed final separates begins (at allowed final separates begins p w) ≡ false
    unfolding accepts empty
    unaccepted w (inl e) = rw e
    unaccepted [] (inr l) = absurd (omega arith)
    unaccepted (c ∷ w) (inr l) = go (final p)
      where
        go : (b : Bool) → b && false ≡ false
        go true = refl
        go false = refl

    -- there is a word to come, or a byte: the place is not final, or there are bytes left
    abbrev pub Open : List ℕ → Type 0
    Open s = (final p ≡ false) ⊎ (0 < length s)

    -- no word that may stand there ends so
    abbrev pub Amiss : List ℕ → List ℕ → Type 0
    Amiss w [] = Unit {0}
    Amiss w (c ∷ s) = (x : Onward Place) → allowed p w ≡ some x → x.separator ≡ c → ⊥

    stops-behind : (w t : List ℕ) (k : ℕ) → Ends separates t → Amiss w t → Open (w ++ t) → within p w k t ≡ some k
    stops-behind w [] k e off o = stop-short (step allowed final separates begins) (accepts allowed final separates begins) k (unaccepted w (subst Open (append-nil w) o))
    stops-behind w (c ∷ s) k e off o =
        stop-off (step allowed final separates begins) (accepts allowed final separates begins) k c s
        (step-sep allowed final separates begins (at allowed final separates begins p w) c e ∙ behind-off w c off)

    -- the machine stops at the first byte of the word that begins none, or behind the word
    pub stops-word : (w t : List ℕ) (k : ℕ) → Without separates w → Ends separates t → Amiss w t → Open (w ++ t) → place_from p k (w ++ t) ≡ some (k + reach_from (begins p) [] w)
    stops-word w t k n e off o = elim (dec_lt (reach_from (begins p) [] w) (length w)) [
      | yes l ↦ inside [] w t k n l
      | no m ↦
          let q : reach_from (begins p) [] w ≡ length w = omega (arith, reach-inside (begins p) [] w) in
          through [] w t k n q ∙ stops-behind w t (k + length w) e off o ∙ ap (λ (j : ℕ). some (k + j)) (sym q)
    ]

    -- at a final place nothing more need come
    pub stops-final : (k : ℕ) → final p ≡ true → place_from p k [] ≡ none
    unfolding accepts empty
    stops-final k e = stop-end (step allowed final separates begins) (accepts allowed final separates begins) k (rw e)

    -- where no word may stand, the machine stops at the next byte
    pub stops-here : ((w : List ℕ) → allowed p w ≡ none) → ((u : List ℕ) → begins p u ≡ false) → (k c : ℕ) (s : List ℕ) → place_from p k (c ∷ s) ≡ some k
    stops-here none_allowed none-begins k c s = go (separates c) refl
      where
        go : (b : Bool) → separates c ≡ b → place_from p k (c ∷ s) ≡ some k
        go true e =
            stop-off (step allowed final separates begins) (accepts allowed final separates begins) k c s
            (step-sep allowed final separates begins (at allowed final separates begins p []) c e ∙ behind-off [] c (λ x h q. silent (none_allowed []) h))
        go false e = within-off [] k c s e (none-begins (c ∷ []))

  module _ {Live : Place → Type 0} (lawful : Wordly allowed final separates begins Live) where
    -- all of a word that may stand there begins one
    pub reach-allowed : (p : Place) (w : List ℕ) {x : Onward Place} → allowed p w ≡ some x → reach_from (begins p) [] w ≡ length w
    reach-allowed p w h = reach-all (begins p) [] w (λ v r e. lawful.begun p v r (ap (allowed p) (sym e) ∙ h))

    -- a word that may stand there, and its separator: the machine goes on behind them
    pub passes : (p : Place) (w : List ℕ) {x : Onward Place} (k : ℕ) (s : List ℕ) → Without separates w → allowed p w ≡ some x → place_from p k (w ++ x.separator ∷ s) ≡ place_from x.place (suc (k + length w)) s
    passes p w {x} k s n h =
        through p [] w (x.separator ∷ s) k n (reach-allowed p w h)
        ∙ stop-turn (step allowed final separates begins) (accepts allowed final separates begins) (k + length w) x.separator s
        (step-sep allowed final separates begins (at allowed final separates begins p w) x.separator (lawful.separated h)
        ∙ ap (λ (o : Option (Onward Place)). behind allowed final separates begins o x.separator) h
        ∙ behind-yes allowed final separates begins x x.separator refl)
