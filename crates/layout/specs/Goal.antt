-- The tree of each node of a table, and of the goal.
use Rattle.std.specs.Prelude.{ℕ, ◌-◌, pos}
use Rattle.lists.specs.Course.{course}
use Rattle.numbers.specs.Two.{dec}
use Rattle.meaning.specs.declared.Sort.{Sort}
use Rattle.meaning.specs.declared.Sort.TheVariants.{Truth, Integer}
use Rattle.meaning.specs.Tree.{Tree, fls, const}
use Rattle.kinds.specs.declared.Record.{Record}
use Rattle.kinds.specs.declared.Shape.{Shape}
use Rattle.kinds.specs.declared.Shape.TheVariants.{Wrong, Bare, Valued, Named, One, Two, Three}
use Rattle.kinds.specs.Kinds.{Args, row}
use Rattle.kinds.specs.Rows.{make, SomeTree}
use Rattle.layout.specs.Starts.{shape_at}

-- the tree as one of the sort asked for; of the other sort, something stands for it
abbrev pub recast : (s t : Sort) → Tree t → Tree s
recast Truth Truth x = x
recast Truth Integer x = fls
recast Integer Truth x = const (pos 0)
recast Integer Integer x = x

abbrev pub of_sort : (s : Sort) → SomeTree → Tree s
of_sort s p = recast s p.0 p.1

-- what a node's tree is made of, where g has the trees of the nodes before it
abbrev pub args_of : (h : Shape) → Record → (ℕ → SomeTree) → Args h
args_of Wrong r g = tt
args_of Bare r g = tt
args_of Valued r g = dec 16 r.value
args_of Named r g = r.a
args_of (One s) r g = of_sort s (g r.a)
args_of (Two s t) r g = (of_sort s (g r.a), of_sort t (g r.b))
args_of (Three s t u) r g = (of_sort s (g r.a), of_sort t (g r.b), of_sort u (g r.c))

abbrev pub tree_step : (ℕ → Record) → ℕ → (ℕ → SomeTree) → SomeTree
tree_step f n g = ((row (f n).kind).gives, make (f n).kind (args_of (shape_at (f n)) (f n) g))

unfoldable pub tree_at : (ℕ → Record) → ℕ → SomeTree
tree_at f n = course (Truth, fls) (tree_step f) n

-- the last node is the goal
abbrev pub goal_of : (ℕ → Record) → ℕ → Tree Truth
goal_of f n = of_sort Truth (tree_at f (n - 1))
