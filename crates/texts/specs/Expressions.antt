-- What a plain text says (document 02, item 4): variables, and a goal whose types nobody has looked at yet. And the sheet of it.
use Rattle.std.specs.Prelude.{ℕ, ℤ, List}
use Rattle.numbers.specs.Two.{enc}
use Rattle.meaning.specs.declared.Sort.{Sort}
use Rattle.meaning.specs.Tree.{Tree}
use Rattle.meaning.specs.Rule.{Variable, Rule}
use Rattle.kinds.specs.declared.Kind.{Kind}
use Rattle.kinds.specs.declared.Shape.{Shape}
use Rattle.kinds.specs.declared.Shape.TheVariants.{Wrong, Bare, Valued, Named, One, Two, Three}
use Rattle.kinds.specs.Kinds.{row}
use Rattle.layout.specs.Fold.{Found, of_tree}
use Rattle.layout.specs.Nodes.{node, Listing, leaf, one_of, two_of, three_of}
use Rattle.layout.specs.Sheet.{sheet_with}

-- an expression: a kind alone, a number, a variable by its number, or a kind with operands of any sort
pub data Expression : Type 0 where
  bare : Kind → Expression
  number : ℤ → Expression
  variable : ℕ → Expression
  one : Kind → Expression → Expression
  two : Kind → Expression → Expression → Expression
  three : Kind → Expression → Expression → Expression → Expression

-- a tree without its sorts
abbrev pub expression_by : (h : Shape) → Kind → Found Expression h → Expression
expression_by Wrong k x = bare k
expression_by Bare k x = bare k
expression_by Valued k x = number x
expression_by Named k x = variable x
expression_by (One s) k x = one k x
expression_by (Two s t) k x = two k x.0 x.1
expression_by (Three s t u) k x = three k x.0 x.1 x.2

abbrev pub expression_step : (k : Kind) → Found Expression (row k).shape → Expression
expression_step k x = expression_by (row k).shape k x

abbrev pub expression_of : {s : Sort} → Tree s → Expression
expression_of t = of_tree expression_step t

-- its node records, operands first, as a tree has them
unfoldable pub records_of : Expression → Listing
records_of (bare k) = leaf (node k 0 0 0 0)
records_of (number z) = leaf (node Kind.Constant 0 0 0 (enc 16 z))
records_of (variable i) = leaf (node Kind.Variable i 0 0 0)
records_of (one k a) = one_of k (records_of a)
records_of (two k a b) = two_of k (records_of a) (records_of b)
records_of (three k a b c) = three_of k (records_of a) (records_of b) (records_of c)

-- what a text says
pub record Draft : Type 0 where
  pub variables : List Variable
  pub goal : Expression

-- a rule's, and the sheet that it makes
abbrev pub draft_of : Rule → Draft
draft_of r = record { variables = r.variables; goal = expression_of r.goal }

abbrev pub draft_sheet : Draft → List ℕ
draft_sheet d = sheet_with d.variables (records_of d.goal 0)
