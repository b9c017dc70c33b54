-- Expressions that stand in a text: the word of the first, the place of its operands, and the place behind it. Assumes nothing.
use Prim.Native.Nat.{ℕ, ◌+◌, ◌-◌, ◌≤◌}
use mathlib.Core.Path.{◌≡◌, refl, sym, ap, subst, ◌∙◌}
use mathlib.Core.Bool.{true}
use mathlib.Core.List.{List, [], ◌∷◌, ◌++◌, append_assoc}
use native.Mathlib.Omega.{arith}
use lib.ListN.{length, length-append, take, drop, length-drop}
use lib.Seq.{drop_at, drop-drop}
use Rattle.std.specs.Prelude.{Option, Some, None}
use Rattle.std.specs.Option.{unwrap_or}
use Rattle.meaning.specs.Rule.{Variable}
use Rattle.kinds.specs.declared.Kind.{Kind}
use Rattle.kinds.specs.Kinds.{row}
use Rattle.grammar.specs.Words.{Without, word_length}
use Rattle.grammar.proofs.ScanLaws.{word-length}
use Rattle.texts.specs.Expressions.{Expression, bare, number, variable, one, two, three}
use Rattle.texts.specs.Plain.{plain_of, spelled}
use Rattle.texts.specs.Texts.{AllDeclarable, operands_behind, Takes, Writable}
use Rattle.texts.specs.WordKinds.{kind_named}
use Rattle.texts.specs.Places.{separates, first_word}
use Rattle.texts.proofs.SpellingLaws.{kind-named, name-no-kind, number-no-kind, space-separates, word-unbroken, number-unbroken, name-unbroken}
use Rattle.texts.proofs.DraftLaws.{first-word, declared-name}
use Rattle.texts.proofs.TextLaws.{unknown-none}
use Rattle.words.specs.Operands.{behind_said}
use Rattle.pointing.specs.Standing.{operands_in, or_zero, operand_count, head_of, bytes_in, Next, Row, StandAt}

-- ---- a word and a separator at a place

module _ (s : List ℕ) (p : ℕ) (w : List ℕ) (c : ℕ) (r : List ℕ) (split : drop p s ≡ w ++ c ∷ r) where
  pub behind-inside : p ≤ length s → p + length w + 1 ≤ length s
  behind-inside l = omega (arith, length-drop p s, ap length split, length-append w (c ∷ r))

  pub behind-rest : drop (p + length w + 1) s ≡ r
  behind-rest =
      let e : p + (length w + 1) ≡ p + length w + 1 = omega arith in
      let n : length (w ++ (c ∷ [])) ≡ length w + 1 = length-append w (c ∷ []) in
      ap (λ (k : ℕ). drop k s) (sym e)
      ∙ sym (drop-drop (length w + 1) p s)
      ∙ ap (drop (length w + 1)) (split ∙ sym (append_assoc w (c ∷ []) r))
      ∙ drop_at (w ++ (c ∷ [])) r (length w + 1) n

  pub word_size : Without separates w → separates c ≡ true → word_length separates (drop p s) ≡ length w
  word_size u h = ap (word_length separates) split ∙ word-length separates w (c ∷ r) u h

  pub word_bytes : Without separates w → separates c ≡ true → first_word (drop p s) ≡ w
  word_bytes u h = ap first_word split ∙ first-word w c r u h

-- ---- an expression's own word

kind-count : (k : Kind) {n : ℕ} → Takes n k → operand_count (plain_of k) ≡ n
kind-count k h = ap (λ (j : Kind). or_zero (operands_behind (row j).shape)) (kind-named k h) ∙ ap or_zero h

other-count : (w : List ℕ) → kind_named w ≡ Kind.Unknown → operand_count w ≡ 0
other-count w e = ap or_zero (unknown-none w e)

said-or-zero : (o : Option ℕ) → unwrap_or o 0 ≡ or_zero (behind_said o)
said-or-zero None = refl
said-or-zero (Some n) = refl

-- the operands behind the word from a place to its end
pub operands-there : (s : List ℕ) (p : ℕ) {end r : ℕ} {k : Kind} (o : Option ℕ) →
    end ≡ p + word_length separates (drop p s) → k ≡ kind_named (take (end - p) (drop p s)) → behind_said o ≡ operands_behind (row k).shape → r ≡ unwrap_or o 0 → r ≡ operand_count (first_word (drop p s))
unfolding first_word
operands-there s p {end} o e f h g =
    let n : end - p ≡ word_length separates (drop p s) = omega arith in
    g ∙ said-or-zero o ∙ ap or_zero h ∙ ap (λ (j : Kind). or_zero (operands_behind (row j).shape)) (f ∙ ap (λ (m : ℕ). kind_named (take m (drop p s))) n)

module _ (vs : List Variable) (d : AllDeclarable vs) where
  pub head-unbroken : (e : Expression) → Writable vs e → Without separates (head_of vs e)
  head-unbroken (bare k) w = word-unbroken k
  head-unbroken (number z) w = number-unbroken z
  head-unbroken (variable i) w = name-unbroken (declared-name vs i d w.declared)
  head-unbroken (one k a) w = word-unbroken k
  head-unbroken (two k a b) w = word-unbroken k
  head-unbroken (three k a b c) w = word-unbroken k

  pub head-operands : (e : Expression) → Writable vs e → operand_count (head_of vs e) ≡ length (operands_in e)
  head-operands (bare k) w = kind-count k w
  head-operands (number z) w = other-count _ (number-no-kind w)
  head-operands (variable i) w = other-count _ (name-no-kind (declared-name vs i d w.declared))
  head-operands (one k a) w = kind-count k w.0
  head-operands (two k a b) w = kind-count k w.0
  head-operands (three k a b c) w = kind-count k w.0

-- ---- rows

module _ (vs : List Variable) where
  -- the first expression by its word, and then its operands and the others
  record Opened (e : Expression) (es : List Expression) (s : List ℕ) : Type 0 where
    separator : ℕ
    rest : List ℕ
    parts : separates separator ≡ true
    split : s ≡ head_of vs e ++ separator ∷ rest
    more : Row vs (operands_in e ++ es) rest

  -- an operand, a space, and then
  spaced : (a : Expression) (es : List Expression) (r : List ℕ) → Writable vs a → Row vs es r → Row vs (a ∷ es) (spelled vs a ++ 32 ∷ r)
  spaced a es r w m = record { writable = w; separator = 32; rest = r; parts = space-separates; split = refl; more = m }

  -- the last operand: what stands behind it stood behind the whole
  last : (a : Expression) (es : List Expression) {e : Expression} {s : List ℕ} → Writable vs a → (x : Next vs e (Row vs es) s) → Row vs (a ∷ es) (spelled vs a ++ x.separator ∷ x.rest)
  last a es w x = record { writable = w; separator = x.separator; rest = x.rest; parts = x.parts; split = refl; more = x.more }

  opened : (e : Expression) (es : List Expression) (s : List ℕ) → Row vs (e ∷ es) s → Opened e es s
  unfolding spelled
  opened (bare k) es s x = record { separator = x.separator; rest = x.rest; parts = x.parts; split = x.split; more = x.more }
  opened (number z) es s x = record { separator = x.separator; rest = x.rest; parts = x.parts; split = x.split; more = x.more }
  opened (variable i) es s x = record { separator = x.separator; rest = x.rest; parts = x.parts; split = x.split; more = x.more }
  opened (one k a) es s x = record {
    separator = 32;
    rest = spelled vs a ++ x.separator ∷ x.rest;
    parts = space-separates;
    split = x.split ∙ append_assoc (plain_of k) (32 ∷ spelled vs a) (x.separator ∷ x.rest);
    more = last a es x.writable.1 x;
  }
  opened (two k a b) es s x =
      let t : List ℕ = x.separator ∷ x.rest in
      record {
        separator = 32;
        rest = spelled vs a ++ 32 ∷ (spelled vs b ++ t);
        parts = space-separates;
        split = x.split ∙ simp append_assoc;
        more = spaced a (b ∷ es) (spelled vs b ++ t) x.writable.1 (last b es x.writable.2 x);
      }
  opened (three k a b c) es s x =
      let t : List ℕ = x.separator ∷ x.rest in
      record {
        separator = 32;
        rest = spelled vs a ++ 32 ∷ (spelled vs b ++ 32 ∷ (spelled vs c ++ t));
        parts = space-separates;
        split = x.split ∙ simp append_assoc;
        more = spaced a (b ∷ c ∷ es) (spelled vs b ++ 32 ∷ (spelled vs c ++ t)) x.writable.1 (spaced b (c ∷ es) (spelled vs c ++ t) x.writable.2 (last c es x.writable.3 x));
      }

  row-front : (es fs : List Expression) (s : List ℕ) → Row vs (es ++ fs) s → Row vs es s
  row-front [] fs s x = tt
  row-front (e ∷ es) fs s x = record { writable = x.writable; separator = x.separator; rest = x.rest; parts = x.parts; split = x.split; more = row-front es fs x.rest x.more }

  row-bytes : (es : List Expression) (s : List ℕ) → Row vs es s → bytes_in vs es ≤ length s
  row-bytes [] s x = omega arith
  row-bytes (e ∷ es) s x = omega (arith, row-bytes es x.rest x.more, ap length x.split, length-append (spelled vs e) (x.separator ∷ x.rest))

-- ---- at a place of a text

module _ {vs : List Variable} {s : List ℕ} {p : ℕ} where
  pub stand-front : (es fs : List Expression) → StandAt vs (es ++ fs) s p → StandAt vs es s p
  stand-front es fs x = record { declarable = x.declarable; inside = x.inside; row = row-front vs es fs (drop p s) x.row }

  pub stand-bytes : {es : List Expression} → StandAt vs es s p → p + bytes_in vs es ≤ length s
  stand-bytes {es} x = omega (arith, x.inside, length-drop p s, row-bytes vs es (drop p s) x.row)

  module _ {e : Expression} {es : List Expression} (x : StandAt vs (e ∷ es) s p) where
    -- behind the first expression stand the others
    pub stand-behind : StandAt vs es s (p + length (spelled vs e) + 1)
    stand-behind =
        let y = x.row in
        record {
          declarable = x.declarable;
          inside = behind-inside s p (spelled vs e) y.separator y.rest y.split x.inside;
          row = subst (Row vs es) (sym (behind-rest s p (spelled vs e) y.separator y.rest y.split)) y.more;
        }

    own : Opened vs e es (drop p s)
    own = opened vs e es (drop p s) x.row

    unbroken : Without separates (head_of vs e)
    unbroken = head-unbroken vs x.declarable e x.row.writable

    -- its own word stands there
    pub stand-size : word_length separates (drop p s) ≡ length (head_of vs e)
    stand-size = word_size s p (head_of vs e) own.separator own.rest own.split unbroken own.parts

    pub stand-word : first_word (drop p s) ≡ head_of vs e
    stand-word = word_bytes s p (head_of vs e) own.separator own.rest own.split unbroken own.parts

    pub stand-operands : operand_count (first_word (drop p s)) ≡ length (operands_in e)
    stand-operands = ap operand_count stand-word ∙ head-operands vs x.declarable e x.row.writable

    -- and behind its word, its operands
    pub stand-open : StandAt vs (operands_in e ++ es) s (p + length (head_of vs e) + 1)
    stand-open = record {
      declarable = x.declarable;
      inside = behind-inside s p (head_of vs e) own.separator own.rest own.split x.inside;
      row = subst (Row vs (operands_in e ++ es)) (sym (behind-rest s p (head_of vs e) own.separator own.rest own.split)) own.more;
    }
