-- Where subtrees start, in every table: no later than their nodes, so operands in the order stand before theirs. Assumes nothing.
use Prim.Native.Nat.{ℕ, zero, suc, ◌≤◌, ◌<◌}
use mathlib.Core.Path.{◌≡◌, refl}
use mathlib.Core.List.{List, [], ◌∷◌}
use native.Mathlib.Decide.{ℕ_discrete}
use native.Mathlib.Omega.{arith}
use Rattle.lists.specs.Course.{below, course}
use Rattle.lists.proofs.CourseLaws.{below_last, below_other, below-is}
use Rattle.kinds.specs.declared.Record.{Record}
use Rattle.kinds.specs.declared.Shape.{Shape}
use Rattle.kinds.specs.declared.Shape.TheVariants.{Wrong, Bare, Valued, Named, One, Two, Three}
use Rattle.layout.specs.Starts.{shape_at, operands_of, start_by, start_step, start_at, Ordered}
use Rattle.layout.specs.LaidOut.{Placed}

-- a subtree starts no later than node n where those of the operands do
by_shape : (h : Shape) (r : Record) (n : ℕ) (g : ℕ → ℕ) → ((j : ℕ) → g j ≤ n) → start_by h r n g ≤ n
by_shape Wrong r n g l = omega arith
by_shape Bare r n g l = omega arith
by_shape Valued r n g l = omega arith
by_shape Named r n g l = omega arith
by_shape (One s) r n g l = l r.a
by_shape (Two s t) r n g l = l r.a
by_shape (Three s t u) r n g l = l r.a

module _ (f : ℕ → Record) where
  low_below : (n j : ℕ) → below 0 (start_step f) n j ≤ n
  unfolding below
  low_below zero j = omega arith
  low_below (suc n) j = last (low_below n) (ℕ_discrete j n)
    where
      last : ((i : ℕ) → below 0 (start_step f) n i ≤ n) → Dec (j ≡ n) → below 0 (start_step f) (suc n) j ≤ suc n
      last l (yes e) = rw (below_last 0 (start_step f) n j e) (omega (arith, by_shape (shape_at (f n)) (f n) n (below 0 (start_step f) n) l))
      last l (no e) = rw (below_other 0 (start_step f) n j e) (omega (arith, l j))

  pub start-low : (n : ℕ) → start_at f n ≤ n
  unfolding start_at course
  start-low n = by_shape (shape_at (f n)) (f n) n (below 0 (start_step f) n) (low_below n)

-- all numbers of the list are below n
abbrev pub Before : ℕ → List ℕ → Type 0
Before n [] = Unit {0}
Before n (x ∷ xs) = (x < n) × Before n xs

pub ordered-before : (f : ℕ → Record) (xs : List ℕ) {n : ℕ} (e : ℕ) → e ≤ n → Ordered (start_at f) e xs → Before n xs
ordered-before f [] e l o = tt
ordered-before f (x ∷ xs) e l o = (omega arith, ordered-before f xs (start_at f x) (omega (arith, start-low f x)) o.1)

-- a node's operands stand before it
pub lower : {f : ℕ → Record} {v n : ℕ} → Placed f v n → Before n (operands_of (shape_at (f n)) (f n))
lower {f} {v} {n} p = ordered-before f (operands_of (shape_at (f n)) (f n)) n (omega arith) p.ordered

agree : (h : Shape) (r : Record) (n : ℕ) (g k : ℕ → ℕ) → Before n (operands_of h r) → ((j : ℕ) → j < n → g j ≡ k j) → start_by h r n g ≡ start_by h r n k
agree Wrong r n g k l e = refl
agree Bare r n g k l e = refl
agree Valued r n g k l e = refl
agree Named r n g k l e = refl
agree (One s) r n g k l e = e r.a l.0
agree (Two s t) r n g k l e = e r.a l.1.0
agree (Three s t u) r n g k l e = e r.a l.1.1.0

-- a node's start, from those before it
pub start_is : (f : ℕ → Record) (n : ℕ) → Before n (operands_of (shape_at (f n)) (f n)) → start_at f n ≡ start_step f n (start_at f)
unfolding start_at course
start_is f n l = agree (shape_at (f n)) (f n) n (below 0 (start_step f) n) (start_at f) l (below-is 0 (start_step f) n)
