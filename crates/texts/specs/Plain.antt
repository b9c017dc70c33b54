-- The printed form (document 02, item 4): a line `var NAME MIN MAX` for each variable, then a line `goal` with the expression in prefix words.
use Rattle.std.specs.Prelude.{ℕ, List, ◌++◌, get_or}
use Rattle.lists.specs.Ascii.{ascii}
use Rattle.lists.specs.Joined.{joined}
use Rattle.numbers.specs.Decimal.{signed}
use Rattle.meaning.specs.Rule.{Variable, Rule, no_variable}
use Rattle.kinds.specs.declared.Kind.{Kind}
use Rattle.kinds.specs.Kinds.{row}
use Rattle.texts.specs.Expressions.{Expression, bare, number, variable, one, two, three, Draft, draft_of}

-- a kind's plain word
abbrev pub plain_of : Kind → List ℕ
plain_of k = (row k).plain

-- an expression's words, one space between two; the names are those of these variables
module _ (vs : List Variable) where
  abbrev pub name_of : ℕ → List ℕ
  name_of i = (get_or vs i no_variable).name

  unfoldable pub spelled : Expression → List ℕ
  spelled (bare k) = plain_of k
  spelled (number z) = signed z
  spelled (variable i) = name_of i
  spelled (one k a) = plain_of k ++ (ascii " " ++ spelled a)
  spelled (two k a b) = plain_of k ++ (ascii " " ++ (spelled a ++ (ascii " " ++ spelled b)))
  spelled (three k a b c) = plain_of k ++ (ascii " " ++ (spelled a ++ (ascii " " ++ (spelled b ++ (ascii " " ++ spelled c)))))

-- a variable's line
abbrev pub variable_line : Variable → List ℕ
variable_line v = ascii "var " ++ (v.name ++ (ascii " " ++ (signed v.domain.low ++ (ascii " " ++ (signed v.domain.high ++ ascii "\n")))))

-- the goal's line
abbrev pub goal_line : List Variable → Expression → List ℕ
goal_line vs e = ascii "goal " ++ (spelled vs e ++ ascii "\n")

unfoldable pub printed : Draft → List ℕ
printed d = joined variable_line d.variables ++ goal_line d.variables d.goal

-- the text of a rule
abbrev pub text_of : Rule → List ℕ
text_of r = printed (draft_of r)
