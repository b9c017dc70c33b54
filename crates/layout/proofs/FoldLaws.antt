-- What is found node by node is what is found of the tree, whatever the step: one law for values, ranges and texts. Assumes nothing.
use Prim.Native.Nat.{ℕ, zero, suc, ◌-◌, ◌<◌}
use mathlib.Core.Path.{◌≡◌, refl, sym, ap, ap₂, ◌∙◌}
use native.Mathlib.Omega.{arith}
use Rattle.lists.specs.Course.{below, course}
use Rattle.lists.proofs.CourseLaws.{below-is}
use Rattle.meaning.specs.declared.Sort.{Sort}
use Rattle.kinds.specs.declared.Kind.{Kind}
use Rattle.kinds.specs.declared.Record.{Record}
use Rattle.kinds.specs.declared.Shape.{Shape}
use Rattle.kinds.specs.declared.Shape.TheVariants.{Wrong, Bare, Valued, Named, One, Two, Three}
use Rattle.kinds.specs.Kinds.{row}
use Rattle.kinds.specs.Rows.{SomeTree}
use Rattle.layout.specs.Starts.{shape_at, sort_at, operands_of, sorts_of, Sorted, Typed}
use Rattle.layout.specs.Goal.{of_sort, args_of, tree_at, goal_of}
use Rattle.layout.specs.LaidOut.{Placed, Sound}
use Rattle.layout.specs.Fold.{Found, found_by, of_tree, node_step, of_node}
use Rattle.layout.proofs.Made.{found_made, found-make}
use Rattle.layout.proofs.StartLaws.{Before, lower}
use Rattle.layout.proofs.GoalLaws.{tree_is, operand-as}

agree : {A : Type 0} (h : Shape) (r : Record) (n : ℕ) (g k : ℕ → A) → Before n (operands_of h r) → ((j : ℕ) → j < n → g j ≡ k j) → found_by h r g ≡ found_by h r k
agree Wrong r n g k l e = refl
agree Bare r n g k l e = refl
agree Valued r n g k l e = refl
agree Named r n g k l e = refl
agree (One s) r n g k l e = e r.a l.0
agree (Two s t) r n g k l e = rw (e r.a l.1.0, e r.b l.0)
agree (Three s t u) r n g k l e = rw (e r.a l.1.1.0, e r.b l.1.0, e r.c l.0)

module _ {A : Type 0} (step : (k : Kind) → Found A (row k).shape → A) (d : A) (f : ℕ → Record) where
  -- what is found of a node, from what is found of those before it
  pub node-is : (n : ℕ) → Before n (operands_of (shape_at (f n)) (f n)) → of_node step d f n ≡ node_step step f n (of_node step d f)
  unfolding of_node course
  node-is n l = ap (step (f n).kind) (agree (shape_at (f n)) (f n) n (below d (node_step step f) n) (of_node step d f) l (below-is d (node_step step f) n))

  -- the same of node a and of its tree
  abbrev Same : ℕ → Type 0
  Same a = of_node step d f a ≡ of_tree step (tree_at f a).1

  operand : {s : Sort} (a : ℕ) → sort_at f a ≡ s → Same a → of_node step d f a ≡ of_tree step (of_sort s (tree_at f a))
  operand a e p = operand-as (λ s t. of_node step d f a ≡ of_tree step t) f a e p

  operands : (h : Shape) (n : ℕ) → Before n (operands_of h (f n)) → Sorted (sort_at f) (operands_of h (f n)) (sorts_of h) → ((j : ℕ) → j < n → Same j)
      → found_by h (f n) (of_node step d f) ≡ found_made step h (args_of h (f n) (tree_at f))
  operands Wrong n l t all = refl
  operands Bare n l t all = refl
  operands Valued n l t all = refl
  operands Named n l t all = refl
  operands (One s) n l t all = operand (f n).a t.0 (all (f n).a l.0)
  operands (Two s t) n l y all = ap₂ (λ (a b : A). (a, b)) (operand (f n).a y.1.0 (all (f n).a l.1.0)) (operand (f n).b y.0 (all (f n).b l.0))
  operands (Three s t u) n l y all =
      let a = operand {s = s} (f n).a y.1.1.0 (all (f n).a l.1.1.0) in
      let b = operand {s = t} (f n).b y.1.0 (all (f n).b l.1.0) in
      let c = operand {s = u} (f n).c y.0 (all (f n).c l.0) in
      λ i. (a i, b i, c i)

  -- every node below N is in order and of the right sorts
  module _ {v N : ℕ} (placed : (j : ℕ) → j < N → Placed f v j) (typed : (j : ℕ) → j < N → Typed f j) where
    found_below : (m n : ℕ) → n < m → n < N → Same n
    found_below zero n h l = absurd (omega arith)
    found_below (suc m) n h l =
        let p = placed n l in
        let b = lower p in
        node-is n b
        ∙ ap (step (f n).kind) (operands (shape_at (f n)) n b (typed n l) (λ j i. found_below m j (omega arith) (omega arith)))
        ∙ sym (found-make (f n).kind p.known (args_of (shape_at (f n)) (f n) (tree_at f)) step)
        ∙ ap (λ (t : SomeTree). of_tree step t.1) (sym (tree_is f n b))

    pub found-is : (n : ℕ) → n < N → of_node step d f n ≡ of_tree step (tree_at f n).1
    found-is n l = found_below (suc n) n (omega arith) l

  -- what is found of the last node is what is found of the goal
  pub goal-found : {v N : ℕ} → Sound f v N → of_node step d f (N - 1) ≡ of_tree step (goal_of f N)
  goal-found {v} {N} h = operand (N - 1) h.goal (found-is h.placed h.typed (N - 1) (omega (arith, h.some-node)))
