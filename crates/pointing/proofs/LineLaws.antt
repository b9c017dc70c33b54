-- The lines of a text: the words of a variable's line, and from line to line. Assumes nothing.
use Prim.Native.Nat.{ℕ, suc, ◌+◌, ◌<◌, ◌≤◌}
use mathlib.Core.Path.{◌≡◌, refl, sym, ap, subst, ◌∙◌}
use mathlib.Core.Bool.{true}
use mathlib.Core.List.{List, [], ◌∷◌, ◌++◌, append_assoc}
use mathlib.Core.Option.{some}
use native.Mathlib.Omega.{arith}
use lib.ListN.{length, length-append, drop, length-drop}
use lib.Seq.{drop_at, drop-drop}
use Rattle.lists.specs.Ascii.{ascii}
use Rattle.lists.specs.Joined.{joined}
use Rattle.numbers.specs.Decimal.{signed}
use Rattle.meaning.specs.Rule.{Variable}
use Rattle.grammar.specs.Words.{Without, word_length}
use Rattle.texts.specs.Expressions.{Draft, records_of}
use Rattle.texts.specs.Plain.{spelled, variable_line, goal_line, printed}
use Rattle.texts.specs.Texts.{AllDeclarable, Says}
use Rattle.texts.specs.Places.{separates}
use Rattle.texts.proofs.SpellingLaws.{space-separates, feed-separates, number-unbroken, name-unbroken}
use Rattle.texts.proofs.DraftLaws.{line-words}
use Rattle.pointing.specs.Pointing.{name_places, word_places, goal_place, nth}
use Rattle.pointing.specs.Standing.{StandAt, Reaches, Finds}
use Rattle.pointing.specs.Lines.{LineBegun, PassesLine, LineAt}
use Rattle.pointing.proofs.StandLaws.{behind-inside, behind-rest, word_size}

-- ---- the words of a line

-- the word w stands at place p, the separator c behind it, and then r
record WordAt (s : List ℕ) (p : ℕ) (w : List ℕ) (c : ℕ) (r : List ℕ) : Type 0 where
  inside : p ≤ length s
  unbroken : Without separates w
  parts : separates c ≡ true
  split : drop p s ≡ w ++ c ∷ r

module _ {s : List ℕ} {p : ℕ} {w : List ℕ} {c : ℕ} {r : List ℕ} (x : WordAt s p w c r) where
  size : word_length separates (drop p s) ≡ length w
  size = word_size s p w c r x.split x.unbroken x.parts

  fits : p + word_length separates (drop p s) < length s
  fits = omega (arith, size, behind-inside s p w c r x.split x.inside)

  -- the word behind it
  next : {q : ℕ} → q ≡ p + word_length separates (drop p s) + 1 → (v : List ℕ) (d : ℕ) (t : List ℕ) → r ≡ v ++ d ∷ t → Without separates v → separates d ≡ true → WordAt s q v d t
  next {q} e v d t more u h =
      let n : q ≡ p + length w + 1 = omega (arith, size) in
      record {
        inside = omega (arith, behind-inside s p w c r x.split x.inside);
        unbroken = u;
        parts = h;
        split = ap (λ (k : ℕ). drop k s) n ∙ behind-rest s p w c r x.split ∙ more;
      }

module _ {s : List ℕ} {p : ℕ} (b : LineBegun s p) where
  abbrev low : List ℕ
  low = signed b.variable.domain.low

  abbrev high : List ℕ
  high = signed b.variable.domain.high

  var-at : WordAt s p (ascii "var") 32 (b.variable.name ++ 32 ∷ (low ++ 32 ∷ (high ++ 10 ∷ b.rest)))
  unfolding separates
  var-at = record { inside = b.inside; unbroken = (refl, (refl, (refl, tt))); parts = refl; split = b.split ∙ line-words b.variable b.rest }

  module _ {name : ℕ} (e : name ≡ p + word_length separates (drop p s) + 1) where
    name-at : WordAt s name b.variable.name 32 (low ++ 32 ∷ (high ++ 10 ∷ b.rest))
    name-at = next var-at e b.variable.name 32 _ refl (name-unbroken b.declarable.name) space-separates

    module _ {least : ℕ} (f : least ≡ name + word_length separates (drop name s) + 1) where
      low-at : WordAt s least low 32 (high ++ 10 ∷ b.rest)
      low-at = next name-at f low 32 _ refl (number-unbroken b.variable.domain.low) space-separates

      module _ {most : ℕ} (g : most ≡ least + word_length separates (drop least s) + 1) where
        high-at : WordAt s most high 10 b.rest
        high-at = next low-at g high 10 _ refl (number-unbroken b.variable.domain.high) feed-separates

        pub high_fits : most + word_length separates (drop most s) < length s
        high_fits = fits high-at

        pub line-passed : {r : ℕ} → r ≡ most + word_length separates (drop most s) + 1 → r ≡ p + length (variable_line b.variable)
        line-passed {r} h =
            let n : length (variable_line b.variable) ≡ 4 + (length b.variable.name + (1 + (length low + (1 + (length high + 1))))) = simp length-append (omega arith) in
            omega (arith, size var-at, size name-at, size low-at, size high-at)

      pub low_fits : least + word_length separates (drop least s) < length s
      low_fits = fits low-at

    pub name-fits : name + word_length separates (drop name s) < length s
    name-fits = fits name-at

  pub var-fits : p + word_length separates (drop p s) < length s
  var-fits = fits var-at

-- ---- from line to line

module _ {s : List ℕ} {d : Draft} where
  pub line-begin : Says s d → LineAt d s 0 0
  unfolding printed
  line-begin h = record {
    left = d.variables;
    declarable = h.variables;
    inside = omega arith;
    text = h.text;
    count = omega arith;
    bytes = omega arith;
    names = λ j. let e : 0 + j ≡ j = omega arith in ap (nth (name_places d.variables 0)) e;
  }

  module _ {i p : ℕ} (x : LineAt d s i p) where
    abbrev goals : List ℕ
    goals = goal_line d.variables d.goal

    -- the line of the first variable that is left
    begun : (vs : List Variable) → AllDeclarable vs → drop p s ≡ joined variable_line vs ++ goals → 0 < length vs → LineBegun s p
    begun [] a t l = absurd (omega arith)
    begun (v ∷ vs) a t l = record {
      variable = v;
      rest = joined variable_line vs ++ goals;
      declarable = a.0;
      inside = x.inside;
      split = t ∙ append_assoc (variable_line v) (joined variable_line vs) goals;
    }

    pub line-begun : i < length d.variables → LineBegun s p
    line-begun l = begun x.left x.declarable x.text (omega (arith, x.count))

    turn : (vs : List Variable) → AllDeclarable vs → drop p s ≡ joined variable_line vs ++ goals → i + length vs ≡ length d.variables →
        p + length (joined variable_line vs) ≡ length (joined variable_line d.variables) →
        ((j : ℕ) → nth (name_places d.variables 0) (i + j) ≡ nth (name_places vs p) j) →
        {q : ℕ} → PassesLine s p q → 0 < length vs → LineAt d s (i + 1) q
    turn [] a t c b n f l = absurd (omega arith)
    turn (v ∷ vs) a t c b n {q} f l =
        let y : List ℕ = joined variable_line vs ++ goals in
        let split : drop p s ≡ variable_line v ++ y = t ∙ append_assoc (variable_line v) (joined variable_line vs) goals in
        let e : q ≡ p + length (variable_line v) = f v y a.0 split in
        record {
          left = vs;
          declarable = a.1;
          inside = omega (arith, x.inside, length-drop p s, ap length split, length-append (variable_line v) y);
          text = ap (λ (k : ℕ). drop k s) e ∙ sym (drop-drop (length (variable_line v)) p s) ∙ ap (drop (length (variable_line v))) split ∙ drop_at (variable_line v) y (length (variable_line v)) refl;
          count = omega arith;
          bytes = omega (arith, length-append (variable_line v) (joined variable_line vs));
          names = λ j.
              let m : i + 1 + j ≡ i + suc j = omega arith in
              ap (nth (name_places d.variables 0)) m ∙ n (suc j) ∙ ap (λ (k : ℕ). nth (name_places vs k) j) (sym e);
        }

    pub line-turn : {q : ℕ} → PassesLine s p q → i < length d.variables → LineAt d s (i + 1) q
    line-turn f l = turn x.left x.declarable x.text x.count x.bytes x.names f (omega (arith, x.count))

    first-name : (vs : List Variable) → 0 < length vs → nth (name_places vs p) 0 ≡ some (p + 4)
    first-name [] l = absurd (omega arith)
    first-name (v ∷ vs) l = refl

    pub line-name : i < length d.variables → nth (name_places d.variables 0) i ≡ some (p + 4)
    line-name l =
        let e : i ≡ i + 0 = omega arith in
        ap (nth (name_places d.variables 0)) e ∙ x.names 0 ∙ first-name x.left (omega (arith, x.count))

    none_left : (vs : List Variable) → length vs ≡ 0 → length (joined variable_line vs) ≡ 0
    none_left [] e = refl
    none_left (v ∷ vs) e = absurd (omega arith)

    pub line-goal : i ≡ length d.variables → p + 5 ≡ goal_place d.variables
    line-goal e = omega (arith, x.bytes, none_left x.left (omega (arith, x.count)))

  -- the goal's expression
  pub goal-stands : Says s d → StandAt d.variables (d.goal ∷ []) s (goal_place d.variables)
  unfolding printed
  goal-stands h =
      let lines : List ℕ = joined variable_line d.variables in
      let front : List ℕ = lines ++ ascii "goal " in
      let y : List ℕ = spelled d.variables d.goal ++ ascii "\n" in
      let n : length front ≡ goal_place d.variables = length-append lines (ascii "goal ") in
      let t : s ≡ front ++ y = h.text ∙ sym (append_assoc lines (ascii "goal ") y) in
      record {
        declarable = h.variables;
        inside = omega (arith, ap length t, length-append front y);
        row = record {
          writable = h.goal;
          separator = 10;
          rest = [];
          parts = feed-separates;
          split = ap (drop (goal_place d.variables)) t ∙ drop_at front y (goal_place d.variables) n;
          more = tt;
        };
      }

  module _ {p : ℕ} (h : Says s d) (e : p ≡ goal_place d.variables) where
    goal-at : StandAt d.variables (d.goal ∷ []) s p
    goal-at = subst (StandAt d.variables (d.goal ∷ []) s) (sym e) (goal-stands h)

    pub goal-reaches : {n : ℕ} → n < length (records_of d.goal 0) → Reaches s p n
    goal-reaches l = record { begun = record { variables = d.variables; expression = d.goal; stand = goal-at }; below = l }

    pub goal-found : {n r : ℕ} → Finds s p n r → n < length (records_of d.goal 0) → some r ≡ nth (word_places d.variables d.goal (goal_place d.variables)) n
    goal-found {n} f l = sym (f d.variables d.goal goal-at l) ∙ ap (λ (q : ℕ). nth (word_places d.variables d.goal q) n) e
