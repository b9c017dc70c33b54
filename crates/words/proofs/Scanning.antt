-- The library's searches over a text's bytes, in the specs' words: to a word's end, to a line's end, and over all. Assumes nothing.
use Prim.Native.Nat.{ℕ, suc, ◌+◌, ◌<◌, ◌≤◌}
use mathlib.Core.Path.{◌≡◌, refl, sym, ap, ◌∙◌}
use mathlib.Core.Bool.{Bool, true, false, not, cond}
use mathlib.Core.List.{List, [], ◌∷◌}
use native.Mathlib.Omega.{arith}
use lib.ListN.{length, drop, drop_of_length-le, length-drop}
use lib.Seq.{drop-drop}
use lib.Dec.{eqb, ltb}
use borrow.Author.Tests.{eq-eqb, ne_eqb, eqb-true, ltb-true}
use Rattle.std.specs.Prelude.{Option, Some, None}
use Rattle.std.specs.List.{position, position_or_len, count_by}
use Rattle.std.proofs.lemmas.Bool.{eqb-false, ltb-false}
use Rattle.std.proofs.lemmas.List.Recursion.{is_position_or_len, is_count_by}
use Rattle.std.proofs.lemmas.List.Sums.{prefix_len-le-length}
use Rattle.grammar.specs.Words.{word_length}
use Rattle.texts.specs.Places.{separates, behind_line}
use Rattle.texts.specs.Counts.{occurrences}

-- ---- the first byte that passes

some-is : (b : Bool) (n : ℕ) {k : ℕ} → cond b (Some n) None ≡ Some k → (b ≡ true) × (n ≡ k)
some-is true n e = (refl, cc)
some-is false n e = cc

none-is : (b : Bool) (n : ℕ) → cond b (Some n) None ≡ None → b ≡ false
none-is true n e = cc
none-is false n e = refl

module _ (p : ℕ → Bool) (s : List ℕ) {o : Option ℕ} (f : o ≡ position p s) where
  first-here : {k : ℕ} → o ≡ Some k → (k < length s) × (position_or_len p s ≡ k)
  first-here {k} e =
      let w : (ltb (position_or_len p s) (length s) ≡ true) × (position_or_len p s ≡ k) = some-is _ _ (sym f ∙ e) in
      let l : position_or_len p s < length s = ltb-true _ _ w.0 in
      (omega (arith, w.1), w.1)

  first-none : o ≡ None → position_or_len p s ≡ length s
  first-none e =
      let l : length s ≤ position_or_len p s = ltb-false _ _ (none-is _ _ (sym f ∙ e)) in
      omega (arith, prefix_len-le-length (λ c. not (p c)) s)

-- ---- to a word's end

pub word_over : (c : ℕ) (s : List ℕ) → separates c ≡ true → word_length separates (c ∷ s) ≡ 0
unfolding word_length
word_over c s e = rw (e, word_length)

pub word_more : (c : ℕ) (s : List ℕ) → separates c ≡ false → word_length separates (c ∷ s) ≡ suc (word_length separates s)
unfolding word_length
word_more c s e = rw (e, word_length)

length-at : (b : Bool) (n : ℕ) → elim b [ true ↦ 0 | false ↦ suc n ] ≡ cond b 0 (1 + n)
length-at true n = refl
length-at false n = omega arith

word-first : (s : List ℕ) → word_length separates s ≡ position_or_len separates s
unfolding word_length
word-first = is_position_or_len (word_length separates) separates refl (λ c s. length-at (separates c) (word_length separates s))

module _ (s : List ℕ) (start : ℕ) {part : List ℕ} (e : part ≡ drop start s) {o : Option ℕ} (f : o ≡ position separates part) where
  size : position_or_len separates part ≡ word_length separates (drop start s)
  size = sym (word-first part) ∙ ap (word_length separates) e

  pub word-found : {k : ℕ} → o ≡ Some k → start + k ≡ start + word_length separates (drop start s)
  word-found g = omega (arith, size, (first-here separates part f g).1)

  pub word-whole : start ≤ length s → o ≡ None → length s ≡ start + word_length separates (drop start s)
  word-whole l g = omega (arith, size, first-none separates part f g, ap length e, length-drop start s)

-- ---- to a line's end

pub line-over : (c : ℕ) (s : List ℕ) → c ≡ 10 → behind_line (c ∷ s) ≡ s
unfolding behind_line
line-over c s e = rw (eq-eqb c 10 e, behind_line)

pub line-more : (c : ℕ) (s : List ℕ) → (c ≡ 10 → ⊥) → behind_line (c ∷ s) ≡ behind_line s
unfolding behind_line
line-more c s n = rw (ne_eqb c 10 n, behind_line)

abbrev past : List ℕ → ℕ
past s = suc (position_or_len (λ c. eqb c 10) s)

line-at : (c : ℕ) (s t : List ℕ) (b : Bool) → t ≡ drop (past s) s → elim b [ true ↦ s | false ↦ t ] ≡ drop (suc (cond (not b) (1 + position_or_len (λ c. eqb c 10) s) 0)) (c ∷ s)
line-at c s t true e = refl
line-at c s t false e = let n : 1 + position_or_len (λ c. eqb c 10) s ≡ past s = omega arith in e ∙ ap (λ (k : ℕ). drop k s) (sym n)

line-first : (s : List ℕ) → behind_line s ≡ drop (past s) s
unfolding behind_line
line-first [] = refl
line-first (c ∷ s) = line-at c s (behind_line s) (eqb c 10) (line-first s)

module _ (s : List ℕ) (from : ℕ) {part : List ℕ} (e : part ≡ drop from s) {o : Option ℕ} (f : o ≡ position (λ c. eqb c 10) part) where
  behind : behind_line (drop from s) ≡ drop (past part) (drop from s)
  behind = sym (ap behind_line e) ∙ line-first part ∙ ap (drop (past part)) e

  pub line-found : {k : ℕ} → from ≤ length s → o ≡ Some k → (from + k + 1 ≤ length s) × (drop (from + k + 1) s ≡ behind_line (drop from s))
  line-found {k} l g =
      let w = first-here (λ c. eqb c 10) part f g in
      let n : from + past part ≡ from + k + 1 = omega (arith, w.1) in
      (omega (arith, w.0, ap length e, length-drop from s), sym (behind ∙ drop-drop (past part) from s ∙ ap (λ (j : ℕ). drop j s) n))

  pub line-whole : from ≤ length s → o ≡ None → (length s ≤ length s) × (drop (length s) s ≡ behind_line (drop from s))
  line-whole l g =
      let w : position_or_len (λ c. eqb c 10) part ≡ length part = first-none (λ c. eqb c 10) part f g in
      (omega arith, drop_of_length-le s (omega arith) ∙ sym (behind ∙ drop-drop (past part) from s ∙ drop_of_length-le s (omega (arith, w, ap length e, length-drop from s))))

-- ---- over all

eqb-turned : (a b : ℕ) → eqb a b ≡ eqb b a
eqb-turned a b = by (eqb a b) refl
  where
    by : (x : Bool) → eqb a b ≡ x → eqb a b ≡ eqb b a
    by true e = e ∙ sym (eq-eqb b a (sym (eqb-true a b e)))
    by false e = e ∙ sym (ne_eqb b a (λ h. eqb-false a b e (sym h)))

count-at : (x y : Bool) (n : ℕ) → x ≡ y → elim x [ true ↦ suc n | false ↦ n ] ≡ cond y (1 + n) n
count-at true y n e = rw (sym e) (omega arith)
count-at false y n e = rw (sym e)

pub occurrences_counted : (b : ℕ) (s : List ℕ) → occurrences b s ≡ count_by (λ c. eqb c b) s
unfolding occurrences
occurrences_counted b = is_count_by (occurrences b) (λ c. eqb c b) refl (λ c s. count-at (eqb b c) (eqb c b) (occurrences b s) (eqb-turned b c))
