-- What is found of a node from what was found of its operands, by a step for each kind: over a tree, and over a table node by node.
use Rattle.std.specs.Prelude.{ℕ, ℤ}
use Rattle.lists.specs.Course.{course}
use Rattle.numbers.specs.Two.{dec}
use Rattle.meaning.specs.declared.Sort.{Sort}
use Rattle.meaning.specs.Tree.{Tree}
use Rattle.kinds.specs.declared.Kind.{Kind}
use Rattle.kinds.specs.declared.Record.{Record}
use Rattle.kinds.specs.declared.Shape.{Shape}
use Rattle.kinds.specs.declared.Shape.TheVariants.{Wrong, Bare, Valued, Named, One, Two, Three}
use Rattle.kinds.specs.Kinds.{row}
use Rattle.layout.specs.Starts.{shape_at}

-- what a node of a shape is found from: a constant, a variable's number, or what was found of the operands
abbrev pub Found : Type 0 → Shape → Type 0
Found A Wrong = Unit {0}
Found A Bare = Unit {0}
Found A Valued = ℤ
Found A Named = ℕ
Found A (One s) = A
Found A (Two s t) = A × A
Found A (Three s t u) = A × A × A

module _ {A : Type 0} where
  -- of a record, where g has what was found of the nodes before it
  abbrev pub found_by : (h : Shape) → Record → (ℕ → A) → Found A h
  found_by Wrong r g = tt
  found_by Bare r g = tt
  found_by Valued r g = dec 16 r.value
  found_by Named r g = r.a
  found_by (One s) r g = g r.a
  found_by (Two s t) r g = (g r.a, g r.b)
  found_by (Three s t u) r g = (g r.a, g r.b, g r.c)

  module _ (step : (k : Kind) → Found A (row k).shape → A) where
    -- of a tree
    unfoldable pub of_tree : {s : Sort} → Tree s → A
    of_tree Tree.tru = step Kind.True tt
    of_tree Tree.fls = step Kind.False tt
    of_tree (Tree.neg a) = step Kind.Not (of_tree a)
    of_tree (Tree.conj a b) = step Kind.And (of_tree a, of_tree b)
    of_tree (Tree.disj a b) = step Kind.Or (of_tree a, of_tree b)
    of_tree (Tree.implies a b) = step Kind.Implies (of_tree a, of_tree b)
    of_tree (Tree.iff a b) = step Kind.Iff (of_tree a, of_tree b)
    of_tree (Tree.equal a b) = step Kind.Equal (of_tree a, of_tree b)
    of_tree (Tree.less a b) = step Kind.Less (of_tree a, of_tree b)
    of_tree (Tree.at_most a b) = step Kind.AtMost (of_tree a, of_tree b)
    of_tree (Tree.const z) = step Kind.Constant z
    of_tree (Tree.var i) = step Kind.Variable i
    of_tree (Tree.minus a) = step Kind.Minus (of_tree a)
    of_tree (Tree.sum a b) = step Kind.Sum (of_tree a, of_tree b)
    of_tree (Tree.difference a b) = step Kind.Difference (of_tree a, of_tree b)
    of_tree (Tree.product a b) = step Kind.Product (of_tree a, of_tree b)
    of_tree (Tree.ite a b c) = step Kind.If (of_tree a, of_tree b, of_tree c)

    -- of node n of a table, where g has what was found of the nodes before it
    abbrev pub node_step : (ℕ → Record) → ℕ → (ℕ → A) → A
    node_step f n g = step (f n).kind (found_by (shape_at (f n)) (f n) g)

    -- the same node by node; d stands for an operand that isn't before its node
    unfoldable pub of_node : A → (ℕ → Record) → ℕ → A
    of_node d f n = course d (node_step f) n
