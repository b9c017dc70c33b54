-- The lines of a text are those that the places give, and the machine stops at the first byte that fits none. Assumes nothing.
use Prim.Native.Nat.{ℕ, zero, suc, ◌+◌, ◌≤◌}
use mathlib.Core.Path.{◌≡◌, refl, sym, ap, subst, ◌∙◌}
use mathlib.Core.Logic.{◌↔◌, inl}
use mathlib.Core.Bool.{Bool, true, false, ◌||◌, false≢true}
use mathlib.Core.Option.{Option, none, some}
use mathlib.Core.List.{List, [], ◌∷◌, ◌++◌, append_assoc, append-nil}
use native.Mathlib.Nat.{zero-add}
use native.Mathlib.Omega.{arith}
use Rattle.lists.specs.Ascii.{ascii}
use Rattle.grammar.specs.Begins.{Leaves}
use Rattle.grammar.specs.Words.{Onward, Texts, finished, word}
use Rattle.grammar.proofs.BeginLaws.{leaves-as}
use Rattle.grammar.proofs.MachineLaws.{accepts-exactly, stops-exactly}
use Rattle.grammar.proofs.PatternLaws.{silent}
use Rattle.grammar.proofs.WordLaws.{step, accepts, at, Going, words-read}
use Rattle.texts.specs.Numbers.{is_number}
use Rattle.texts.specs.WordKinds.{behind_word}
use Rattle.texts.specs.Places.{is_plain_name, is_declared, or_none, operands_of, Place, line, named, least, most, operand, done, allowed, final, separates, begins}
use Rattle.texts.proofs.Lines.{Prefixed, none-behind, one-behind, two-behind, three-behind, spaced, Lines, goal, var}
use Rattle.texts.proofs.PrefixLaws.{few-operands}
use Rattle.texts.proofs.PlaceLaws.{Leads, to-name, to-goal, by_name, by-least, by_most, last-operand, more-operands, leads, led, text-wordly, begins-live}
use Rattle.texts.proofs.ScanLaws.{place_behind}

-- ---- expressions by pending operands

module _ (names : List (List ℕ)) where
  -- the words of n expressions
  data Pending : ℕ → List (List ℕ) → Type 0 where
    no_more : Pending 0 []
    next : {w : List ℕ} {ws : List (List ℕ)} {n : ℕ} (k : ℕ) → operands_of names w ≡ some k → Pending (k + n) ws → Pending (suc n) (w ∷ ws)

  -- the same, one expression after another
  data Several : ℕ → List (List ℕ) → Type 0 where
    nothing_left : Several 0 []
    another : {a b : List (List ℕ)} {n : ℕ} → Prefixed names a → Several n b → Several (suc n) (a ++ b)

  expression-pending : {a : List (List ℕ)} → Prefixed names a → {n : ℕ} {b : List (List ℕ)} → Pending n b → Pending (suc n) (a ++ b)
  expression-pending (none-behind h) {n} {b} p = next 0 h (subst (λ (k : ℕ). Pending k b) (sym (zero-add n)) p)
  expression-pending (one-behind {w} {a} h x) {n} {b} p =
      let e : suc n ≡ 1 + n = omega arith in
      next 1 h (subst (λ (k : ℕ). Pending k (a ++ b)) e (expression-pending x p))
  expression-pending (two-behind {w} {a} {b = c} h x y) {n} {b} p =
      let e : suc (suc n) ≡ 2 + n = omega arith in
      next 2 h (subst (λ (k : ℕ). Pending k ((a ++ c) ++ b)) e (subst (Pending (suc (suc n))) (sym (append_assoc a c b)) (expression-pending x (expression-pending y p))))
  expression-pending (three-behind {w} {a} {b = c} {c = d} h x y z) {n} {b} p =
      let e : suc (suc (suc n)) ≡ 3 + n = omega arith in
      next 3 h (subst (λ (k : ℕ). Pending k ((a ++ (c ++ d)) ++ b)) e
      (subst (Pending (suc (suc (suc n)))) (sym (append_assoc a (c ++ d) b ∙ ap (λ (l : List (List ℕ)). a ++ l) (append_assoc c d b)))
      (expression-pending x (expression-pending y (expression-pending z p)))))

  -- the first of several
  record First (n : ℕ) (ws : List (List ℕ)) : Type 0 where
    front : List (List ℕ)
    back : List (List ℕ)
    whole : front ++ back ≡ ws
    expression : Prefixed names front
    more : Several n back

  first_of : {m : ℕ} {ws : List (List ℕ)} → Several m ws → (n : ℕ) → m ≡ suc n → First n ws
  first_of nothing_left n e = absurd (omega arith)
  first_of (another {a} {b} {n = k} x s) n e = record { front = a; back = b; whole = refl; expression = x; more = subst (λ (j : ℕ). Several j b) (let d : k ≡ n = omega arith in d) s }

  -- one list behind another
  two-whole : (a b r : List (List ℕ)) {y z : List (List ℕ)} → b ++ r ≡ y → a ++ y ≡ z → (a ++ b) ++ r ≡ z
  two-whole a b r e d = append_assoc a b r ∙ ap (λ (v : List (List ℕ)). a ++ v) e ∙ d

  three-whole : (a b c r : List (List ℕ)) {x y z : List (List ℕ)} → c ++ r ≡ x → b ++ x ≡ y → a ++ y ≡ z → (a ++ (b ++ c)) ++ r ≡ z
  three-whole a b c r e d f = two-whole a (b ++ c) r (two-whole b c r e d) f

  gather-three : {w : List ℕ} {n : ℕ} {ws : List (List ℕ)} → operands_of names w ≡ some 3 → (f : First (suc (suc n)) ws) (g : First (suc n) f.back) (o : First n g.back) → Several (suc n) (w ∷ ws)
  gather-three {w} {n} {ws} h f g o =
      subst (λ (v : List (List ℕ)). Several (suc n) (w ∷ v))
      (three-whole f.front g.front o.front o.back o.whole g.whole f.whole)
      (another (three-behind h f.expression g.expression o.expression) o.more)

  gather : (k : ℕ) {w : List ℕ} {n : ℕ} {ws : List (List ℕ)} → k ≤ 3 → operands_of names w ≡ some k → Several (k + n) ws → Several (suc n) (w ∷ ws)
  gather zero {w} {n} {ws} l h s = another (none-behind h) (subst (λ (j : ℕ). Several j ws) (zero-add n) s)
  gather (suc zero) {w} {n} {ws} l h s =
      let f = first_of s n (omega arith) in
      subst (λ (v : List (List ℕ)). Several (suc n) (w ∷ v)) f.whole (another (one-behind h f.expression) f.more)
  gather (suc (suc zero)) {w} {n} {ws} l h s =
      let f = first_of s (suc n) (omega arith) in
      let g = first_of f.more n refl in
      subst (λ (v : List (List ℕ)). Several (suc n) (w ∷ v))
      (two-whole f.front g.front g.back g.whole f.whole)
      (another (two-behind h f.expression g.expression) g.more)
  gather (suc (suc (suc zero))) {w} {n} {ws} l h s =
      let f = first_of s (suc (suc n)) (omega arith) in
      let g = first_of f.more (suc n) refl in
      gather-three h f g (first_of g.more n refl)
  gather (suc (suc (suc (suc k)))) l h s = absurd (omega arith)

  at_most : (w : List ℕ) {k : ℕ} → operands_of names w ≡ some k → k ≤ 3
  unfolding operands_of
  at_most w {k} e = go (behind_word w) (is_number w) (is_declared names w) refl e
    where
      go : (o : Option ℕ) (b c : Bool) → behind_word w ≡ o → elim o [ some n ↦ some n | none ↦ or_none (b || c) ] ≡ some k → k ≤ 3
      go (some n) b c h e = few-operands w (h ∙ e)
      go none true c h e = let q : ◌≡◌ {A = ℕ} 0 k = cc in omega arith
      go none false true h e = let q : ◌≡◌ {A = ℕ} 0 k = cc in omega arith
      go none false false h e = absurd (silent refl e)

  pending-several : {n : ℕ} {ws : List (List ℕ)} → Pending n ws → Several n ws
  pending-several no_more = nothing_left
  pending-several (next {w} k h p) = gather k (at_most w h) h (pending-several p)

  -- an expression is what has one pending operand
  expression-one : {ws : List (List ℕ)} → Prefixed names ws → Pending 1 ws
  expression-one {ws} x = subst (Pending 1) (append-nil ws) (expression-pending x no_more)

  none_left : {n : ℕ} {ws : List (List ℕ)} → Several n ws → n ≡ 0 → [] ≡ ws
  none_left nothing_left e = refl
  none_left (another x s) e = absurd (omega arith)

  one-expression : {ws : List (List ℕ)} → Pending 1 ws → Prefixed names ws
  one-expression {ws} p =
      let f = first_of (pending-several p) 0 refl in
      subst (Prefixed names) (sym (append-nil f.front) ∙ ap (λ (v : List (List ℕ)). f.front ++ v) (none_left f.more refl) ∙ f.whole) f.expression

  -- ---- the bytes of a goal's words

  abbrev goal_rest : List (List ℕ) → List ℕ
  goal_rest ws = spaced ws ++ (10 ∷ [])

  behind_more : (w : List ℕ) (ws : List (List ℕ)) → goal_rest (w ∷ ws) ≡ 32 ∷ (w ++ goal_rest ws)
  behind_more w ws = ap (λ (l : List ℕ). 32 ∷ l) (append_assoc w (spaced ws) (10 ∷ []))

  -- what is said of n pending operands
  abbrev Tail : ℕ → List (List ℕ) → Type 0
  Tail zero ws = [] ≡ ws
  Tail (suc m) [] = ⊥
  Tail (suc m) (w ∷ ws) = Texts allowed final (operand names m) (w ++ goal_rest ws)

  done-texts : Texts allowed final done []
  unfolding final
  done-texts = finished refl

  word-texts : (w : List ℕ) (ws : List (List ℕ)) (n k : ℕ) → operands_of names w ≡ some k → (j : ℕ) → k + n ≡ j → Tail j ws → Texts allowed final (operand names n) (w ++ goal_rest ws)
  word-texts w ws n k h zero q t = subst (λ (l : List (List ℕ)). Texts allowed final (operand names n) (w ++ goal_rest l)) t (word w _ (led (last-operand {n = n} k h q)) done-texts)
  word-texts w [] n k h (suc m) q t = absurd t
  word-texts w (v ∷ vs) n k h (suc m) q t = subst (λ (l : List ℕ). Texts allowed final (operand names n) (w ++ l)) (sym (behind_more v vs)) (word w _ (led (more-operands {n = n} k m h q)) t)

  pending-texts : {n : ℕ} {ws : List (List ℕ)} → Pending n ws → Tail n ws
  pending-texts no_more = refl
  pending-texts (next {w} {ws} {n} k h p) = word-texts w ws n k h (k + n) refl (pending-texts p)

-- ---- lines

lines-texts : {names : List (List ℕ)} {s : List ℕ} → Lines names s → Texts allowed final (line names) s
lines-texts (goal {names} e x) = go e (pending-texts names (expression-one names x))
  where
    go : (e : List (List ℕ)) → Tail names 1 e → Texts allowed final (line names) (ascii "goal" ++ goal_rest names e)
    go [] t = absurd t
    go (w ∷ ws) t = subst (λ (l : List ℕ). Texts allowed final (line names) (ascii "goal" ++ l)) (sym (behind_more names w ws)) (word (ascii "goal") _ (led to-goal) t)
lines-texts (var name low high n h k m) =
    word (ascii "var") _ (led to-name) (word name _ (led (by_name n)) (word low _ (led (by-least h)) (word high _ (led (by_most k)) (lines-texts m))))

-- ---- and back

record GoalMeans (names : List (List ℕ)) (n : ℕ) (s : List ℕ) : Type 0 where
  first : List ℕ
  others : List (List ℕ)
  split : s ≡ first ++ goal_rest names others
  words-pending : Pending names (suc n) (first ∷ others)

record MostMeans (names : List (List ℕ)) (s : List ℕ) : Type 0 where
  high : List ℕ
  rest : List ℕ
  split : s ≡ high ++ 10 ∷ rest
  number : is_number high ≡ true
  lines : Lines names rest

record LeastMeans (names : List (List ℕ)) (s : List ℕ) : Type 0 where
  low : List ℕ
  rest : List ℕ
  split : s ≡ low ++ 32 ∷ rest
  number : is_number low ≡ true
  then : MostMeans names rest

record NameMeans (names : List (List ℕ)) (s : List ℕ) : Type 0 where
  name : List ℕ
  rest : List ℕ
  split : s ≡ name ++ 32 ∷ rest
  is_name : is_plain_name name ≡ true
  then : LeastMeans (names ++ (name ∷ [])) rest

abbrev Means : Place → List ℕ → Type 0
Means (line names) s = Lines names s
Means (named names) s = NameMeans names s
Means (least names) s = LeastMeans names s
Means (most names) s = MostMeans names s
Means (operand names n) s = GoalMeans names n s
Means done s = s ≡ []

meant : {p : Place} {w : List ℕ} {x : Onward Place} → Leads p w x → (s : List ℕ) → Means x.place s → Means p (w ++ x.separator ∷ s)
meant (to-name {names}) s m =
    let a = m.then in
    let b = a.then in
    let path : s ≡ m.name ++ 32 ∷ (a.low ++ 32 ∷ (b.high ++ 10 ∷ b.rest)) =
    m.split ∙ ap (λ (l : List ℕ). m.name ++ 32 ∷ l) (a.split ∙ ap (λ (l : List ℕ). a.low ++ 32 ∷ l) b.split) in
    subst (λ (l : List ℕ). Lines names (ascii "var" ++ 32 ∷ l)) (sym path) (var m.name a.low b.high m.is_name a.number b.number b.lines)
meant (to-goal {names}) s m =
    subst (λ (l : List ℕ). Lines names (ascii "goal" ++ l))
    (behind_more names m.first m.others ∙ ap (λ (l : List ℕ). 32 ∷ l) (sym m.split))
    (goal (m.first ∷ m.others) (one-expression names m.words-pending))
meant (by_name {names} {w} h) s m = record { name = w; rest = s; split = refl; is_name = h; then = m }
meant (by-least {names} {w} h) s m = record { low = w; rest = s; split = refl; number = h; then = m }
meant (by_most {names} {w} h) s m = record { high = w; rest = s; split = refl; number = h; lines = m }
meant (last-operand {names} {n} {w} k h q) s m = record {
  first = w;
  others = [];
  split = ap (λ (l : List ℕ). w ++ 10 ∷ l) m;
  words-pending = next k h (subst (λ (j : ℕ). Pending names j []) (sym q) no_more);
}
meant (more-operands {names} {n} {w} k j h q) s m = record {
  first = w;
  others = m.first ∷ m.others;
  split = ap (λ (l : List ℕ). w ++ l) (ap (λ (l : List ℕ). 32 ∷ l) m.split ∙ sym (behind_more names m.first m.others));
  words-pending = next k h (subst (λ (i : ℕ). Pending names i (m.first ∷ m.others)) (sym q) m.words-pending);
}

ended : (p : Place) → final p ≡ true → Means p []
unfolding final
ended (line names) e = absurd (false≢true e)
ended (named names) e = absurd (false≢true e)
ended (least names) e = absurd (false≢true e)
ended (most names) e = absurd (false≢true e)
ended (operand names n) e = absurd (false≢true e)
ended done e = refl

texts-mean : {p : Place} {s : List ℕ} → Texts allowed final p s → Means p s
texts-mean (finished {p} h) = ended p h
texts-mean (word {p} w x {s} h m) = meant (leads p w h) s (texts-mean m)

-- ---- the place

-- where the machine stops; none where it reads the whole text
abbrev pub place_of : List ℕ → Option ℕ
place_of s = place_behind (line []) 0 s

begins-going : Going allowed final separates begins text-wordly (at allowed final separates begins (line []) [])
begins-going = record { live = begins-live; unbroken = tt; word = inl refl }

texts-as : (s : List ℕ) → Texts allowed final (line []) s ↔ Lines [] s
texts-as s = (texts-mean, lines-texts)

-- the machine reads exactly the lines of texts
pub lines-exactly : (s : List ℕ) → (place_of s ≡ none) ↔ Lines [] s
lines-exactly s =
    let w = accepts-exactly (step allowed final separates begins) (accepts allowed final separates begins) (words-read allowed final separates begins text-wordly) begins-going s in
    (λ e. texts-mean (w.0 e), λ t. w.1 (lines-texts t))

-- and stops at p exactly where the bytes leave them there
pub leaves-exactly : (s : List ℕ) (p : ℕ) → (place_of s ≡ some p) ↔ Leaves (Lines []) s p
leaves-exactly s p =
    let w = stops-exactly (step allowed final separates begins) (accepts allowed final separates begins) (words-read allowed final separates begins text-wordly) begins-going s p in
    (λ e. (leaves-as texts-as s p).0 (w.0 e), λ h. w.1 ((leaves-as texts-as s p).1 h))
