-- The tokens of a text that begins with a word, up to what ends it. Assumes nothing.
use mathlib.Core.Path.{◌≡◌, refl, sym, ap, ◌∙◌}
use mathlib.Core.Bool.{Bool, true, false}
use mathlib.Core.List.{List, [], ◌∷◌, ◌++◌, append_assoc, append-nil}
use Prim.Native.Nat.{ℕ}
use lib.Dec.{T}
use Rattle.lists.proofs.TestLaws.{both}
use Rattle.smtlib.specs.Characters.{every, word_char, Class, in_word, blank, left_paren, right_paren, semicolon, bar, no_token, class_of}
use Rattle.smtlib.specs.Tokens.{Token, opening, closing, outside, ended, token_of, step, tokens}

-- what ends a word: a byte that begins something else, or the end of the text
abbrev pub stops : Class → Bool
stops in_word = false
stops blank = true
stops left_paren = true
stops right_paren = true
stops semicolon = true
stops bar = true
stops no_token = false

abbrev pub Ends : List ℕ → Type 0
Ends [] = Unit {0}
Ends (c ∷ k) = T (stops (class_of c))

in-word : (c : ℕ) → word_char c ≡ true → class_of c ≡ in_word
unfolding class_of
in-word c e = rw (e, class_of)

-- one byte of a word
step-word : (w k : List ℕ) (c : ℕ) → word_char c ≡ true → tokens (outside w) (c ∷ k) ≡ tokens (outside (w ++ (c ∷ []))) k
unfolding tokens step
step-word w k c e = rw (in-word c e, tokens, step)

ended-append : (w : List ℕ) (ts us : List Token) → ended w ts ++ us ≡ ended w (ts ++ us)
ended-append [] ts us = refl
ended-append (c ∷ w) ts us = refl

word-ends : (w k : List ℕ) → Ends k → tokens (outside w) k ≡ ended w (tokens (outside []) k)
unfolding tokens step
word-ends w [] h = refl
word-ends w (c ∷ k) h = go (class_of c) refl h
  where
    go : (x : Class) → class_of c ≡ x → T (stops x) → tokens (outside w) (c ∷ k) ≡ ended w (tokens (outside []) (c ∷ k))
    go in_word e t = absurd t
    go blank e t = rw e (ended-append w [] _)
    go left_paren e t = rw e (ended-append w (opening ∷ []) _)
    go right_paren e t = rw e (ended-append w (closing ∷ []) _)
    go semicolon e t = rw e (ended-append w [] _)
    go bar e t = rw e (ended-append w [] _)
    go no_token e t = absurd t

word_bytes : (w u k : List ℕ) → every word_char u ≡ true → tokens (outside w) (u ++ k) ≡ tokens (outside (w ++ u)) k
unfolding every
word_bytes w [] k h = ap (λ v. tokens (outside v) k) (sym (append-nil w))
word_bytes w (c ∷ u) k h =
    let p = both (word_char c) (every word_char u) h in
    step-word w (u ++ k) c p.0 ∙ word_bytes (w ++ (c ∷ [])) u k p.1 ∙ ap (λ v. tokens (outside v) k) (append_assoc w (c ∷ []) u)

-- a word, and what stands behind it
pub word_read : (c : ℕ) (u k : List ℕ) → every word_char (c ∷ u) ≡ true → Ends k → tokens (outside []) (c ∷ u ++ k) ≡ token_of (c ∷ u) ∷ tokens (outside []) k
word_read c u k h e = word_bytes [] (c ∷ u) k h ∙ word-ends (c ∷ u) k e
