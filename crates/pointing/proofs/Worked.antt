-- Worked examples, computed: sheet A's text and one with every number of operands, where their refusals point, and lines and columns. Assumes nothing.
use Prim.Native.Nat.{ℕ}
use Prim.Native.String.{String}
use mathlib.Core.Path.{◌≡◌, refl}
use mathlib.Core.List.{List, [], ◌∷◌}
use mathlib.Core.Option.{Option, none, some}
use lib.IntN.{pos}
use Rattle.lists.specs.Ascii.{ascii}
use Rattle.numbers.specs.Ranges.{◌⋯◌}
use Rattle.numbers.specs.Decimal.{decimal_in, decimal, signed}
use Rattle.meaning.specs.Rule.{Variable}
use Rattle.kinds.specs.declared.Kind.{Kind}
use Rattle.texts.specs.Expressions.{number, variable, one, two, three, Draft}
use Rattle.texts.specs.Plain.{spelled, printed}
use Rattle.texts.specs.Counts.{occurrences}
use Rattle.pointing.specs.Pointing.{name_places, word_places, goal_place, pointed_at, line_of, column_of}

abbrev up_to : String → ℕ → Variable
up_to name n = record { name = ascii name; domain = pos 0 ⋯ pos n }

-- ---- sheet A

abbrev draft_a : Draft
draft_a = record { variables = up_to "seated" 1 ∷ up_to "trained" 1 ∷ []; goal = two Kind.Equal (variable 0) (variable 1) }

abbrev text_a : List ℕ
text_a = ascii "var seated 0 1\nvar trained 0 1\ngoal eq seated trained\n"

text-a : printed draft_a ≡ text_a
unfolding printed spelled signed decimal decimal_in
text-a = refl

names-a : name_places draft_a.variables 0 ≡ 4 ∷ 19 ∷ []
unfolding signed decimal decimal_in
names-a = refl

-- operands first
words-a : word_places draft_a.variables draft_a.goal (goal_place draft_a.variables) ≡ 39 ∷ 46 ∷ 36 ∷ []
unfolding word_places spelled signed decimal decimal_in
words-a = refl

-- ---- every number of operands

abbrev draft_b : Draft
draft_b = record {
  variables = up_to "a" 3 ∷ up_to "b" 3 ∷ [];
  goal = two Kind.Equal (three Kind.If (two Kind.Less (variable 0) (variable 1)) (two Kind.Difference (variable 0) (number (pos 1))) (one Kind.Minus (variable 1))) (number (pos 0));
}

text-b : printed draft_b ≡ ascii "var a 0 3\nvar b 0 3\ngoal eq if lt a b sub a 1 neg b 0\n"
unfolding printed spelled signed decimal decimal_in
text-b = refl

words-b : word_places draft_b.variables draft_b.goal (goal_place draft_b.variables) ≡ 34 ∷ 36 ∷ 31 ∷ 42 ∷ 44 ∷ 38 ∷ 50 ∷ 46 ∷ 28 ∷ 52 ∷ 25 ∷ []
unfolding word_places spelled signed decimal decimal_in
words-b = refl

-- ---- refusals

abbrev pointed : ℕ → ℕ → Option ℕ
pointed n p = pointed_at draft_a (record { number = n; place = p })

refusals-a :
    pointed 5 1 ∷ pointed 5 2 ∷ pointed 7 0 ∷ pointed 8 2 ∷ pointed 8 3 ∷ pointed 4 0 ∷ []
    ≡ some 19 ∷ none ∷ some 39 ∷ some 36 ∷ none ∷ none ∷ []
unfolding pointed_at word_places spelled signed decimal decimal_in
refusals-a = refl

-- ---- lines and columns

abbrev line_column : ℕ → List ℕ
line_column p = line_of text_a p ∷ column_of text_a p ∷ []

-- the first byte, both names, the nodes' words, the last line feed and the end
lines-a :
    line_column 0 ∷ line_column 4 ∷ line_column 19 ∷ line_column 39 ∷ line_column 46 ∷ line_column 36 ∷ line_column 53 ∷ line_column 54 ∷ []
    ≡ (1 ∷ 1 ∷ []) ∷ (1 ∷ 5 ∷ []) ∷ (2 ∷ 5 ∷ []) ∷ (3 ∷ 9 ∷ []) ∷ (3 ∷ 16 ∷ []) ∷ (3 ∷ 6 ∷ []) ∷ (3 ∷ 23 ∷ []) ∷ (4 ∷ 1 ∷ []) ∷ []
unfolding occurrences
lines-a = refl
