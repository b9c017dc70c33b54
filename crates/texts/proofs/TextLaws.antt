-- The texts are those whose lines and words may stand where they do. Assumes nothing.
use Prim.Native.Nat.{ℕ, suc}
use mathlib.Core.Path.{◌≡◌, refl, sym, ap, ap₂, subst, ◌∙◌}
use mathlib.Core.Logic.{◌↔◌, ◌⊎◌, inl, inr, ⊎_elim}
use mathlib.Core.Bool.{Bool, true, false, ◌||◌}
use mathlib.Core.List.{List, [], ◌∷◌, ◌++◌, append_assoc, append-nil}
use mathlib.Core.Option.{Option, none, some}
use native.Mathlib.Omega.{arith}
use Rattle.lists.specs.Ascii.{ascii}
use Rattle.lists.specs.Joined.{joined}
use Rattle.numbers.specs.Ranges.{◌⋯◌}
use Rattle.numbers.specs.Decimal.{signed}
use Rattle.meaning.specs.Rule.{Variable}
use Rattle.kinds.specs.declared.Kind.{Kind}
use Rattle.kinds.specs.Kinds.{row}
use Rattle.texts.specs.Expressions.{Expression, bare, number, variable, one, two, three}
use Rattle.texts.specs.Plain.{plain_of, name_of, spelled, variable_line, goal_line, printed}
use Rattle.texts.specs.Texts.{AllDeclarable, operands_behind, Takes, Writable, Text}
use Rattle.texts.specs.Numbers.{is_number, number_of}
use Rattle.texts.specs.WordKinds.{kind_named, behind_word}
use Rattle.texts.specs.Places.{index_in, is_declared, or_none, operands_of}
use Rattle.texts.proofs.Lines.{Prefixed, none-behind, one-behind, two-behind, three-behind, spaced, Lines, goal, var}
use Rattle.texts.proofs.NumberLaws.{number_is, is-number}
use Rattle.texts.proofs.SpellingLaws.{kind-named, named-kind, plain-name-decided, name-no-kind, number-no-kind}
use Rattle.texts.proofs.DraftLaws.{names_of, names-append, line-words, declared-name, first-declared, index-named}

-- ---- how many operands stand behind a word

pub unknown-none : (w : List ℕ) → kind_named w ≡ Kind.Unknown → behind_word w ≡ none
unknown-none w e = ap (λ (k : Kind). operands_behind (row k).shape) e

or_left : {a : Bool} (b : Bool) → a ≡ true → a || b ≡ true
or_left b e = rw e

or_right : (a : Bool) {b : Bool} → b ≡ true → a || b ≡ true
or_right true e = refl
or_right false e = e

or-true : (a b : Bool) → a || b ≡ true → (a ≡ true) ⊎ (b ≡ true)
or-true true b e = inl refl
or-true false b e = inr e

module _ (names : List (List ℕ)) where
  abbrev counting : Bool → Option ℕ → Option ℕ
  counting b o = elim o [ some n ↦ some n | none ↦ or_none b ]

  operands-some : (w : List ℕ) {n : ℕ} → behind_word w ≡ some n → operands_of names w ≡ some n
  unfolding operands_of
  operands-some w e = ap (counting (is_number w || is_declared names w)) e

  operands-none : (w : List ℕ) → kind_named w ≡ Kind.Unknown → is_number w || is_declared names w ≡ true → operands_of names w ≡ some 0
  unfolding operands_of
  operands-none w e h = ap (counting (is_number w || is_declared names w)) (unknown-none w e) ∙ ap or_none h

  pub kind-operands : (k : Kind) {n : ℕ} → Takes n k → operands_of names (plain_of k) ≡ some n
  kind-operands k h = operands-some (plain_of k) (ap (λ (j : Kind). operands_behind (row j).shape) (kind-named k h) ∙ h)

  -- by a kind's word; or, with none behind it, by a number or a declared name
  operands_of_lem : (w : List ℕ) {n : ℕ} → operands_of names w ≡ some n → (behind_word w ≡ some n) ⊎ ((n ≡ 0) × ((is_number w ≡ true) ⊎ (is_declared names w ≡ true)))
  unfolding operands_of
  operands_of_lem w {n} e = by (behind_word w) (is_number w || is_declared names w) refl refl e
    where
      by : (o : Option ℕ) (b : Bool) → behind_word w ≡ o → is_number w || is_declared names w ≡ b → counting b o ≡ some n → (behind_word w ≡ some n) ⊎ ((n ≡ 0) × ((is_number w ≡ true) ⊎ (is_declared names w ≡ true)))
      by (some m) b h k e = inl (h ∙ e)
      by none true h k e = inr (cc, or-true (is_number w) (is_declared names w) k)
      by none false h k e = absurd (let z : ◌≡◌ {A = ℕ} 0 1 = cc in omega arith)

  -- more than none: by a kind's word
  kind-behind : (w : List ℕ) {n : ℕ} → operands_of names w ≡ some (suc n) → behind_word w ≡ some (suc n)
  kind-behind w e = ⊎_elim (λ h. h) (λ h. absurd (omega (arith, h.0))) (operands_of_lem w e)

-- ---- the words of an expression

module _ (vs : List Variable) where
  unfoldable pub spelled_words : Expression → List (List ℕ)
  spelled_words (bare k) = plain_of k ∷ []
  spelled_words (number z) = signed z ∷ []
  spelled_words (variable i) = name_of vs i ∷ []
  spelled_words (one k a) = plain_of k ∷ spelled_words a
  spelled_words (two k a b) = plain_of k ∷ (spelled_words a ++ spelled_words b)
  spelled_words (three k a b c) = plain_of k ∷ (spelled_words a ++ (spelled_words b ++ spelled_words c))

pub spaced-append : (a b : List (List ℕ)) → spaced (a ++ b) ≡ spaced a ++ spaced b
spaced-append [] b = refl
spaced-append (w ∷ a) b = ap (λ (l : List ℕ). 32 ∷ l) (ap (λ (l : List ℕ). w ++ l) (spaced-append a b) ∙ sym (append_assoc w (spaced a) (spaced b)))

module _ (vs : List Variable) where
  -- a space before each is a space before all
  pub spaced-spelled : (e : Expression) → spaced (spelled_words vs e) ≡ 32 ∷ spelled vs e
  unfolding spelled_words spelled
  spaced-spelled (bare k) = ap (λ (l : List ℕ). 32 ∷ l) (append-nil (plain_of k))
  spaced-spelled (number z) = ap (λ (l : List ℕ). 32 ∷ l) (append-nil (signed z))
  spaced-spelled (variable i) = ap (λ (l : List ℕ). 32 ∷ l) (append-nil (name_of vs i))
  spaced-spelled (one k a) = ap (λ (l : List ℕ). 32 ∷ (plain_of k ++ l)) (spaced-spelled a)
  spaced-spelled (two k a b) =
      ap (λ (l : List ℕ). 32 ∷ (plain_of k ++ l)) (spaced-append (spelled_words vs a) (spelled_words vs b) ∙ ap₂ (λ (x y : List ℕ). x ++ y) (spaced-spelled a) (spaced-spelled b))
  spaced-spelled (three k a b c) =
      ap (λ (l : List ℕ). 32 ∷ (plain_of k ++ l))
      (spaced-append (spelled_words vs a) (spelled_words vs b ++ spelled_words vs c)
      ∙ ap₂ (λ (x y : List ℕ). x ++ y) (spaced-spelled a)
      (spaced-append (spelled_words vs b) (spelled_words vs c) ∙ ap₂ (λ (x y : List ℕ). x ++ y) (spaced-spelled b) (spaced-spelled c)))

  -- the goal's line by its words
  goal-words : (e : Expression) → ascii "goal" ++ (spaced (spelled_words vs e) ++ (10 ∷ [])) ≡ goal_line vs e
  goal-words e = ap (λ (l : List ℕ). ascii "goal" ++ (l ++ (10 ∷ []))) (spaced-spelled e)

  module _ (d : AllDeclarable vs) where
    pub words-prefixed : (e : Expression) → Writable vs e → Prefixed (names_of vs) (spelled_words vs e)
    unfolding spelled_words
    words-prefixed (bare k) w = none-behind (kind-operands (names_of vs) k w)
    words-prefixed (number z) w = none-behind (operands-none (names_of vs) (signed z) (number-no-kind w) (or_left (is_declared (names_of vs) (signed z)) (number_is w)))
    words-prefixed (variable i) w = none-behind (operands-none (names_of vs) (name_of vs i) (name-no-kind (declared-name vs i d w.declared)) (or_right (is_number (name_of vs i)) (first-declared vs i w)))
    words-prefixed (one k a) w = one-behind (kind-operands (names_of vs) k w.0) (words-prefixed a w.1)
    words-prefixed (two k a b) w = two-behind (kind-operands (names_of vs) k w.0) (words-prefixed a w.1) (words-prefixed b w.2)
    words-prefixed (three k a b c) w = three-behind (kind-operands (names_of vs) k w.0) (words-prefixed a w.1) (words-prefixed b w.2) (words-prefixed c w.3)

  -- and back: the expression of words
  pub record Worded (ws : List (List ℕ)) : Type 0 where
    pub expression : Expression
    pub writable : Writable vs expression
    pub words : spelled_words vs expression ≡ ws

  leaf-worded : (w : List ℕ) → operands_of (names_of vs) w ≡ some 0 → Worded (w ∷ [])
  unfolding spelled_words
  leaf-worded w e = ⊎_elim by_kind (λ h. ⊎_elim by_number by_name h.1) (operands_of_lem (names_of vs) w e)
    where
      by_kind : behind_word w ≡ some 0 → Worded (w ∷ [])
      by_kind h = let n = named-kind w h in record { expression = bare (kind_named w); writable = n.0; words = ap (λ (u : List ℕ). u ∷ []) n.1 }

      by_number : is_number w ≡ true → Worded (w ∷ [])
      by_number h = let n = is-number w h in record { expression = number (number_of w); writable = n.0; words = ap (λ (u : List ℕ). u ∷ []) n.1 }

      by_name : is_declared (names_of vs) w ≡ true → Worded (w ∷ [])
      by_name h = let n = index-named vs w h in record { expression = variable (index_in (names_of vs) w); writable = n.0; words = ap (λ (u : List ℕ). u ∷ []) n.1 }

  pub prefixed-worded : {ws : List (List ℕ)} → Prefixed (names_of vs) ws → Worded ws
  unfolding spelled_words
  prefixed-worded (none-behind {w} h) = leaf-worded w h
  prefixed-worded (one-behind {w} h x) =
      let n = named-kind w (kind-behind (names_of vs) w h) in
      let a = prefixed-worded x in
      record { expression = one (kind_named w) a.expression; writable = (n.0, a.writable); words = ap₂ ◌∷◌ n.1 a.words }
  prefixed-worded (two-behind {w} h x y) =
      let n = named-kind w (kind-behind (names_of vs) w h) in
      let a = prefixed-worded x in
      let b = prefixed-worded y in
      record {
        expression = two (kind_named w) a.expression b.expression;
        writable = (n.0, a.writable, b.writable);
        words = ap₂ ◌∷◌ n.1 (ap₂ (λ (l m : List (List ℕ)). l ++ m) a.words b.words);
      }
  prefixed-worded (three-behind {w} h x y z) =
      let n = named-kind w (kind-behind (names_of vs) w h) in
      let a = prefixed-worded x in
      let b = prefixed-worded y in
      let c = prefixed-worded z in
      record {
        expression = three (kind_named w) a.expression b.expression c.expression;
        writable = (n.0, a.writable, b.writable, c.writable);
        words = ap₂ ◌∷◌ n.1 (ap₂ (λ (l m : List (List ℕ)). l ++ m) a.words (ap₂ (λ (l m : List (List ℕ)). l ++ m) b.words c.words));
      }

-- ---- lines

pub declared-lines :
    (vs us all : List Variable) (e : Expression) → us ++ vs ≡ all → AllDeclarable vs → AllDeclarable all → Writable all e →
    Lines (names_of us) (joined variable_line vs ++ goal_line all e)
declared-lines [] us all e q d a w =
    let n : names_of all ≡ names_of us = ap names_of (sym q ∙ append-nil us) in
    subst (Lines (names_of us)) (goal-words all e) (goal (spelled_words all e) (subst (λ (l : List (List ℕ)). Prefixed l (spelled_words all e)) n (words-prefixed all a e w)))
declared-lines (v ∷ vs) us all e q d a w =
    let more = declared-lines vs (us ++ (v ∷ [])) all e (append_assoc us (v ∷ []) vs ∙ q) d.1 a w in
    let s : List ℕ = joined variable_line vs ++ goal_line all e in
    subst (Lines (names_of us)) (sym (append_assoc (variable_line v) (joined variable_line vs) (goal_line all e) ∙ line-words v s))
    (var v.name (signed v.domain.low) (signed v.domain.high) ((plain-name-decided v.name).1 d.0.name) (number_is d.0.ends.low) (number_is d.0.ends.high)
    (subst (λ (l : List (List ℕ)). Lines l s) (names-append us (v ∷ [])) more))

-- and back: what lines say behind these variables
pub record Rest (us : List Variable) (s : List ℕ) : Type 0 where
  pub variables : List Variable
  pub all : List Variable
  pub goal : Expression
  pub split : us ++ variables ≡ all
  pub declarable : AllDeclarable variables
  pub writable : Writable all goal
  pub text : s ≡ joined variable_line variables ++ goal_line all goal

goal-rest : (us : List Variable) (ws : List (List ℕ)) → Worded us ws → Rest us (ascii "goal" ++ (spaced ws ++ (10 ∷ [])))
goal-rest us ws x = record {
  variables = [];
  all = us;
  goal = x.expression;
  split = append-nil us;
  declarable = tt;
  writable = x.writable;
  text = ap (λ (l : List (List ℕ)). ascii "goal" ++ (spaced l ++ (10 ∷ []))) (sym x.words) ∙ goal-words us x.expression;
}

-- the variable of a line
abbrev line_variable : List ℕ → List ℕ → List ℕ → Variable
line_variable name low high = record { name = name; domain = number_of low ⋯ number_of high }

line-bytes : (name low high s : List ℕ) → is_number low ≡ true → is_number high ≡ true →
    ascii "var" ++ 32 ∷ (name ++ 32 ∷ (low ++ 32 ∷ (high ++ 10 ∷ s))) ≡ variable_line (line_variable name low high) ++ s
line-bytes name low high s l h =
    ap₂ (λ (a b : List ℕ). ascii "var" ++ 32 ∷ (name ++ 32 ∷ (a ++ 32 ∷ (b ++ 10 ∷ s)))) (sym (is-number low l).1) (sym (is-number high h).1)
    ∙ sym (line-words (line_variable name low high) s)

pub lines_rest : {names : List (List ℕ)} {s : List ℕ} → Lines names s → (us : List Variable) → names_of us ≡ names → Rest us s
lines_rest (goal {names} ws p) us q = goal-rest us ws (prefixed-worded us (subst (λ (l : List (List ℕ)). Prefixed l ws) (sym q) p))
lines_rest (var {names} name low high {s} n l h m) us q =
    let v : Variable = line_variable name low high in
    let r = lines_rest m (us ++ (v ∷ [])) (names-append us (v ∷ []) ∙ ap (λ (k : List (List ℕ)). k ++ (name ∷ [])) q) in
    record {
      variables = v ∷ r.variables;
      all = r.all;
      goal = r.goal;
      split = sym (append_assoc us (v ∷ []) r.variables) ∙ r.split;
      declarable = (record { name = (plain-name-decided name).0 n; ends = record { low = (is-number low l).0; high = (is-number high h).0 } }, r.declarable);
      writable = r.writable;
      text = line-bytes name low high s l h ∙ ap (λ (k : List ℕ). variable_line v ++ k) r.text ∙ sym (append_assoc (variable_line v) (joined variable_line r.variables) (goal_line r.all r.goal));
    }

pub text-lines : (s : List ℕ) → Text s ↔ Lines [] s
unfolding printed
text-lines s = (there, back)
  where
    there : Text s → Lines [] s
    there t =
        let d = t.draft in
        let h = t.says in
        subst (Lines []) (sym h.text) (declared-lines d.variables [] d.variables d.goal refl h.variables h.variables h.goal)

    back : Lines [] s → Text s
    back l =
        let r = lines_rest l [] refl in
        let vs : List Variable = r.variables in
        record {
          draft = record { variables = vs; goal = r.goal };
          says = record {
            variables = r.declarable;
            goal = subst (λ (a : List Variable). Writable a r.goal) (sym r.split) r.writable;
            text = r.text ∙ ap (λ (a : List Variable). joined variable_line vs ++ goal_line a r.goal) (sym r.split);
          };
        }
