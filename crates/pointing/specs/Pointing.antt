-- Where a refusal of a text points (document 02, item 4): the byte of the text, and its line and column, both counted from 1, columns in bytes.
use Rattle.std.specs.Prelude.{ℕ, zero, suc, ◌+◌, true, false, cond, ◌||◌, List, [], ◌∷◌, ◌++◌, eqb, length, take}
use Rattle.std.proofs.Math.Option.{Option, none, some}
use Rattle.lists.specs.Ascii.{ascii}
use Rattle.lists.specs.Joined.{joined}
use Rattle.meaning.specs.Rule.{Variable}
use Rattle.kinds.specs.declared.Kind.{Kind}
use Rattle.refusals.specs.declared.Refusal.{Refusal}
use Rattle.texts.specs.Expressions.{Expression, bare, number, variable, one, two, three, Draft}
use Rattle.texts.specs.Plain.{plain_of, spelled, variable_line}
use Rattle.texts.specs.Counts.{occurrences}

-- the places of the variables' names, where the first line stands at place p
abbrev pub name_places : List Variable → ℕ → List ℕ
name_places [] p = []
name_places (v ∷ vs) p = (p + length (ascii "var ")) ∷ name_places vs (p + length (variable_line v))

-- the places of the nodes' words, in the order of their records, where the expression stands at place p
module _ (vs : List Variable) where
  -- behind a word at place p and the space behind it
  abbrev behind_kind : Kind → ℕ → ℕ
  behind_kind k p = p + length (plain_of k) + 1

  -- behind an expression at place p and the space behind it
  abbrev behind : Expression → ℕ → ℕ
  behind a p = p + length (spelled vs a) + 1

  unfoldable pub word_places : Expression → ℕ → List ℕ
  word_places (bare k) p = p ∷ []
  word_places (number z) p = p ∷ []
  word_places (variable i) p = p ∷ []
  word_places (one k a) p = word_places a (behind_kind k p) ++ (p ∷ [])
  word_places (two k a b) p =
      let q : ℕ = behind_kind k p in
      word_places a q ++ (word_places b (behind a q) ++ (p ∷ []))
  word_places (three k a b c) p =
      let q : ℕ = behind_kind k p in
      let r : ℕ = behind a q in
      word_places a q ++ (word_places b r ++ (word_places c (behind b r) ++ (p ∷ [])))

-- where the goal's expression stands
abbrev pub goal_place : List Variable → ℕ
goal_place vs = length (joined variable_line vs) + length (ascii "goal ")

-- what the list has at number n
abbrev pub nth : List ℕ → ℕ → Option ℕ
nth [] n = none
nth (x ∷ xs) zero = some x
nth (x ∷ xs) (suc n) = nth xs n

-- 5 points at its variable's name, 7 and 8 at the word of their node, others at nothing
unfoldable pub pointed_at : Draft → Refusal → Option ℕ
pointed_at d r =
    cond (eqb r.number 5) (nth (name_places d.variables 0) r.place) (
    cond (eqb r.number 7 || eqb r.number 8) (nth (word_places d.variables d.goal (goal_place d.variables)) r.place) none)

-- the line and the column of place p
abbrev pub line_of : List ℕ → ℕ → ℕ
line_of s p = suc (occurrences 10 (take p s))

abbrev pub column_from : ℕ → List ℕ → ℕ
column_from n [] = n
column_from n (c ∷ s) = elim (eqb c 10) [ true ↦ column_from 1 s | false ↦ column_from (suc n) s ]

abbrev pub column_of : List ℕ → ℕ → ℕ
column_of s p = column_from 1 (take p s)
