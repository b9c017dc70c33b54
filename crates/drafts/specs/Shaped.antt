-- Serves proofs: expressions whose kinds have the shapes that their operands ask, and what is found of such an expression by a step for each kind.
use Rattle.std.specs.Prelude.{ℕ, ◌<◌, pos}
use Rattle.numbers.specs.Ranges.{Narrow}
use Rattle.kinds.specs.declared.Kind.{Kind}
use Rattle.kinds.specs.declared.Shape.{Shape}
use Rattle.kinds.specs.declared.Shape.TheVariants.{Wrong, Bare, Valued, Named, One, Two, Three}
use Rattle.kinds.specs.Kinds.{row}
use Rattle.layout.specs.Fold.{Found}
use Rattle.texts.specs.Expressions.{Expression, bare, number, variable, one, two, three}
use Rattle.texts.specs.Texts.{Takes}

-- each kind has as many operands as it takes; numbers fit 16 bits; variables' numbers are below v
abbrev pub Shaped : ℕ → Expression → Type 0
Shaped v (bare k) = Takes 0 k
Shaped v (number z) = Narrow z
Shaped v (variable i) = i < v
Shaped v (one k a) = Takes 1 k × Shaped v a
Shaped v (two k a b) = Takes 2 k × Shaped v a × Shaped v b
Shaped v (three k a b c) = Takes 3 k × Shaped v a × Shaped v b × Shaped v c

-- what a node of a shape is found from, out of three operands; a shape that takes no operand is found from nothing
abbrev pub found_from : {A : Type 0} → (h : Shape) → A → A → A → Found A h
found_from Wrong a b c = tt
found_from Bare a b c = tt
found_from Valued a b c = pos 0
found_from Named a b c = 0
found_from (One s) a b c = a
found_from (Two s t) a b c = (a, b)
found_from (Three s t u) a b c = (a, b, c)

-- what is found of an expression; d stands for an operand that it lacks
module _ {A : Type 0} (step : (k : Kind) → Found A (row k).shape → A) (d : A) where
  unfoldable pub of_expression : Expression → A
  of_expression (bare k) = step k (found_from (row k).shape d d d)
  of_expression (number z) = step Kind.Constant z
  of_expression (variable i) = step Kind.Variable i
  of_expression (one k a) = step k (found_from (row k).shape (of_expression a) d d)
  of_expression (two k a b) = step k (found_from (row k).shape (of_expression a) (of_expression b) d)
  of_expression (three k a b c) = step k (found_from (row k).shape (of_expression a) (of_expression b) (of_expression c))
