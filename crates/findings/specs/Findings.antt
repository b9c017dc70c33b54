-- What a node is found to be (document 01, "Node kinds and their script text" and "Range of an integer node").
use Rattle.std.specs.Prelude.{ℕ, pos, Bool, true, List}
use Rattle.numbers.specs.declared.Range.{Range}
use Rattle.numbers.specs.Ranges.{◌⋯◌, NarrowEnds, has_narrow_ends, minus_of, sum_of, difference_of, product_of, union_of}
use Rattle.meaning.specs.declared.Sort.{Sort}
use Rattle.meaning.specs.declared.Sort.TheVariants.{Truth as truth, Integer as integer}
use Rattle.meaning.specs.Rule.{domain_of}
use Rattle.kinds.specs.declared.Kind.{Kind}
use Rattle.kinds.specs.declared.Shape.{Shape}
use Rattle.kinds.specs.declared.Shape.TheVariants.{Wrong, Bare, Valued, Named, One, Two, Three}
use Rattle.kinds.specs.Kinds.{row}
use Rattle.layout.specs.Fold.{Found, of_node}
use Rattle.layout.specs.Parts.{table, rule_in}
use Rattle.findings.specs.declared.Finding.{Finding}
use Rattle.findings.specs.declared.Finding.TheVariants.{Truth, Integer}

-- the sort of what is found
abbrev pub sort_of : Finding → Sort
sort_of Truth = truth
sort_of (Integer r) = integer

-- what stands where there is no range
abbrev pub no_range : Range
no_range = pos 0 ⋯ pos 0

-- the range of what is found
abbrev pub range_of : Finding → Range
range_of Truth = no_range
range_of (Integer r) = r

-- what a kind gives where its operands have the ranges x, y and z: a truth value, or an integer and its range; of a constant and of a variable, x itself
abbrev pub result_of : Kind → Range → Range → Range → Finding
result_of Kind.Unknown x y z = Truth
result_of Kind.True x y z = Truth
result_of Kind.False x y z = Truth
result_of Kind.Not x y z = Truth
result_of Kind.And x y z = Truth
result_of Kind.Or x y z = Truth
result_of Kind.Implies x y z = Truth
result_of Kind.Iff x y z = Truth
result_of Kind.Equal x y z = Truth
result_of Kind.Less x y z = Truth
result_of Kind.AtMost x y z = Truth
result_of Kind.Constant x y z = Integer x
result_of Kind.Variable x y z = Integer x
result_of Kind.Minus x y z = Integer (minus_of x)
result_of Kind.Sum x y z = Integer (sum_of x y)
result_of Kind.Difference x y z = Integer (difference_of x y)
result_of Kind.Product x y z = Integer (product_of x y)
result_of Kind.If x y z = Integer (union_of y z)

-- by the shape, where δ has the variables' domains: a constant c has c..c, a variable its domain, an operand the range that was found of it
abbrev pub finding_from : (ℕ → Range) → (Range → Range → Range → Finding) → (h : Shape) → Found Finding h → Finding
finding_from δ made Wrong x = made no_range no_range no_range
finding_from δ made Bare x = made no_range no_range no_range
finding_from δ made Valued c = made (c ⋯ c) no_range no_range
finding_from δ made Named i = made (δ i) no_range no_range
finding_from δ made (One s) x = made (range_of x) no_range no_range
finding_from δ made (Two s t) x = made (range_of x.0) (range_of x.1) no_range
finding_from δ made (Three s t u) x = made (range_of x.0) (range_of x.1) (range_of x.2)

-- what a node of a kind is found to be
unfoldable pub finding_of : (ℕ → Range) → (k : Kind) → Found Finding (row k).shape → Finding
finding_of δ k x = finding_from δ (result_of k) (row k).shape x

-- variable i's domain, and what node n is found to be, in the sheet s
abbrev pub domain_at : List ℕ → ℕ → Range
domain_at s = domain_of (rule_in s)

abbrev pub finding_at : List ℕ → ℕ → Finding
finding_at s n = of_node (finding_of (domain_at s)) Truth (table s) n

-- a range lies in -32,768..32,767
abbrev pub finding_fits : Finding → Bool
finding_fits Truth = true
finding_fits (Integer r) = has_narrow_ends r

abbrev pub FindingFits : Finding → Type 0
FindingFits Truth = Unit {0}
FindingFits (Integer r) = NarrowEnds r
