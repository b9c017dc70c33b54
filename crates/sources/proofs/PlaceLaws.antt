-- The places of names and of nodes' words are inside the text. Assumes nothing.
use Prim.Native.Nat.{ℕ, zero, suc, ◌+◌, ◌≤◌}
use mathlib.Core.Path.{◌≡◌, ap, ◌∙◌}
use mathlib.Core.Bool.{Bool, true, false, cond, ◌||◌}
use mathlib.Core.List.{List, [], ◌∷◌, ◌++◌}
use mathlib.Core.Option.{none, some, none-ne-some}
use native.Mathlib.Omega.{arith}
use lib.Dec.{eqb}
use lib.ListN.{length, length-append}
use Rattle.lists.specs.Ascii.{ascii}
use Rattle.lists.specs.Joined.{joined}
use Rattle.numbers.specs.Decimal.{signed}
use Rattle.meaning.specs.Rule.{Variable}
use Rattle.refusals.specs.declared.Refusal.{Refusal}
use Rattle.texts.specs.Expressions.{Expression, bare, number, variable, one, two, three, Draft}
use Rattle.texts.specs.Plain.{plain_of, spelled, variable_line, printed}
use Rattle.texts.specs.Texts.{Says}
use Rattle.pointing.specs.Pointing.{name_places, word_places, goal_place, nth, pointed_at}

-- each of these places is at most b
abbrev AtMost : ℕ → List ℕ → Type 0
AtMost b [] = Unit {0}
AtMost b (x ∷ xs) = (x ≤ b) × AtMost b xs

at-most-append : (b : ℕ) (xs ys : List ℕ) → AtMost b xs → AtMost b ys → AtMost b (xs ++ ys)
at-most-append b [] ys h g = g
at-most-append b (x ∷ xs) ys h g = (h.0, at-most-append b xs ys h.1 g)

at-most-more : (a b : ℕ) (xs : List ℕ) → a ≤ b → AtMost a xs → AtMost b xs
at-most-more a b [] l h = tt
at-most-more a b (x ∷ xs) l h = (omega (arith, h.0), at-most-more a b xs l h.1)

at-most-nth : (b : ℕ) {p : ℕ} (xs : List ℕ) (n : ℕ) → AtMost b xs → nth xs n ≡ some p → p ≤ b
at-most-nth b [] n h e = absurd (none-ne-some _ e)
at-most-nth b {p} (x ∷ xs) zero h e = let d : x ≡ p = cc in omega (arith, h.0)
at-most-nth b (x ∷ xs) (suc n) h e = at-most-nth b xs n h.1 e

-- names: a line has more than the bytes before its name
names-inside : (vs : List Variable) (p : ℕ) → AtMost (p + length (joined variable_line vs)) (name_places vs p)
names-inside [] p = tt
names-inside (v ∷ vs) p =
    let n : length (joined variable_line (v ∷ vs)) ≡ length (variable_line v) + length (joined variable_line vs) = length-append (variable_line v) (joined variable_line vs) in
    let m : length (variable_line v) ≡ length (ascii "var ") + (length v.name + (1 + (length (signed v.domain.low) + (1 + (length (signed v.domain.high) + 1))))) = simp length-append (omega arith) in
    (omega arith, at-most-more _ _ (name_places vs (p + length (variable_line v))) (omega arith) (names-inside vs (p + length (variable_line v))))

-- words: those of an expression stand in it
module _ (vs : List Variable) where
  words_inside : (e : Expression) (p : ℕ) → AtMost (p + length (spelled vs e)) (word_places vs e p)
  unfolding word_places spelled
  words_inside (bare k) p = (omega arith, tt)
  words_inside (number z) p = (omega arith, tt)
  words_inside (variable i) p = (omega arith, tt)
  words_inside (one k a) p =
      let q : ℕ = p + length (plain_of k) + 1 in
      let n : length (spelled vs (one k a)) ≡ length (plain_of k) + 1 + length (spelled vs a) = simp length-append (omega arith) in
      at-most-append _ (word_places vs a q) (p ∷ []) (at-most-more _ _ (word_places vs a q) (omega arith) (words_inside a q)) (omega arith, tt)
  words_inside (two k a b) p =
      let q : ℕ = p + length (plain_of k) + 1 in
      let r : ℕ = q + length (spelled vs a) + 1 in
      let n : length (spelled vs (two k a b)) ≡ length (plain_of k) + 1 + length (spelled vs a) + 1 + length (spelled vs b) = simp length-append (omega arith) in
      at-most-append _ (word_places vs a q) (word_places vs b r ++ (p ∷ [])) (at-most-more _ _ (word_places vs a q) (omega arith) (words_inside a q))
      (at-most-append _ (word_places vs b r) (p ∷ []) (at-most-more _ _ (word_places vs b r) (omega arith) (words_inside b r)) (omega arith, tt))
  words_inside (three k a b c) p =
      let q : ℕ = p + length (plain_of k) + 1 in
      let r : ℕ = q + length (spelled vs a) + 1 in
      let t : ℕ = r + length (spelled vs b) + 1 in
      let n : length (spelled vs (three k a b c)) ≡ length (plain_of k) + 1 + length (spelled vs a) + 1 + length (spelled vs b) + 1 + length (spelled vs c) = simp length-append (omega arith) in
      at-most-append _ (word_places vs a q) (word_places vs b r ++ (word_places vs c t ++ (p ∷ []))) (at-most-more _ _ (word_places vs a q) (omega arith) (words_inside a q))
      (at-most-append _ (word_places vs b r) (word_places vs c t ++ (p ∷ [])) (at-most-more _ _ (word_places vs b r) (omega arith) (words_inside b r))
      (at-most-append _ (word_places vs c t) (p ∷ []) (at-most-more _ _ (word_places vs c t) (omega arith) (words_inside c t)) (omega arith, tt)))

-- what a refusal of the text points at
pub pointed-inside : (text : List ℕ) (d : Draft) (r : Refusal) {p : ℕ} → Says text d → pointed_at d r ≡ some p → p ≤ length text
unfolding printed pointed_at
pointed-inside text d r {p} h e = go (eqb r.number 5) (eqb r.number 7 || eqb r.number 8) e
  where
    size : length text ≡ length (joined variable_line d.variables) + (length (ascii "goal ") + (length (spelled d.variables d.goal) + 1))
    size = ap length h.text ∙ simp length-append (omega arith)

    go : (a b : Bool) → cond a (nth (name_places d.variables 0) r.place) (cond b (nth (word_places d.variables d.goal (goal_place d.variables)) r.place) none) ≡ some p → p ≤ length text
    go true b x = omega (arith, size, at-most-nth _ (name_places d.variables 0) r.place (names-inside d.variables 0) x)
    go false true x = omega (arith, size, at-most-nth _ (word_places d.variables d.goal (goal_place d.variables)) r.place (words_inside d.variables d.goal (goal_place d.variables)) x)
    go false false x = absurd (none-ne-some _ x)
