-- The tree of a node, from the trees of the nodes before it. Assumes nothing.
use Prim.Native.Nat.{ℕ, ◌<◌}
use mathlib.Core.Path.{◌≡◌, refl, ap}
use native.Mathlib.Omega.{arith}
use Rattle.lists.specs.Course.{below, course}
use Rattle.lists.proofs.CourseLaws.{below-is}
use Rattle.meaning.specs.declared.Sort.{Sort}
use Rattle.meaning.specs.declared.Sort.TheVariants.{Truth, Integer}
use Rattle.meaning.specs.Tree.{Tree, fls}
use Rattle.kinds.specs.declared.Record.{Record}
use Rattle.kinds.specs.declared.Shape.{Shape}
use Rattle.kinds.specs.declared.Shape.TheVariants.{Wrong, Bare, Valued, Named, One, Two, Three}
use Rattle.kinds.specs.Kinds.{Args, row}
use Rattle.kinds.specs.Rows.{make, SomeTree}
use Rattle.layout.specs.Starts.{shape_at, sort_at, operands_of}
use Rattle.layout.specs.Goal.{recast, of_sort, args_of, tree_step, tree_at}
use Rattle.layout.proofs.StartLaws.{Before}

agree : (h : Shape) (r : Record) (n : ℕ) (g k : ℕ → SomeTree) → Before n (operands_of h r) → ((j : ℕ) → j < n → g j ≡ k j) → args_of h r g ≡ args_of h r k
agree Wrong r n g k l e = refl
agree Bare r n g k l e = refl
agree Valued r n g k l e = refl
agree Named r n g k l e = refl
agree (One s) r n g k l e = rw (e r.a l.0)
agree (Two s t) r n g k l e = rw (e r.a l.1.0, e r.b l.0)
agree (Three s t u) r n g k l e = rw (e r.a l.1.1.0, e r.b l.1.0, e r.c l.0)

pub tree_is : (f : ℕ → Record) (n : ℕ) → Before n (operands_of (shape_at (f n)) (f n)) → tree_at f n ≡ tree_step f n (tree_at f)
unfolding tree_at course
tree_is f n l =
    ap (λ (x : Args (shape_at (f n))). ((row (f n).kind).gives, make (f n).kind x)) (agree (shape_at (f n)) (f n) n (below (Truth, fls) (tree_step f) n) (tree_at f) l (below-is (Truth, fls) (tree_step f) n))

pub tree-sort : (f : ℕ → Record) (n : ℕ) → (tree_at f n).0 ≡ sort_at f n
unfolding tree_at course
tree-sort f n = refl

-- a tree of the sort asked for is that tree
recast-as {ℓ} : (P : (s : Sort) → Tree s → Type ℓ) (s t : Sort) (x : Tree t) → t ≡ s → P t x → P s (recast s t x)
recast-as P Truth Truth x e h = h
recast-as P Truth Integer x e h = absurd (let z : ◌≡◌ {A = ℕ} 0 1 = cc in omega arith)
recast-as P Integer Truth x e h = absurd (let z : ◌≡◌ {A = ℕ} 0 1 = cc in omega arith)
recast-as P Integer Integer x e h = h

-- what holds of a node's tree holds of it as an operand of its sort
pub operand-as {ℓ} : (P : (s : Sort) → Tree s → Type ℓ) (f : ℕ → Record) {s : Sort} (a : ℕ) → sort_at f a ≡ s → P (tree_at f a).0 (tree_at f a).1 → P s (of_sort s (tree_at f a))
operand-as P f {s} a e h = recast-as P s (tree_at f a).0 (tree_at f a).1 (rw (tree-sort f a) e) h

-- and the other way round
recast-from {ℓ} : (P : (s : Sort) → Tree s → Type ℓ) (s t : Sort) (x : Tree t) → t ≡ s → P s (recast s t x) → P t x
recast-from P Truth Truth x e h = h
recast-from P Truth Integer x e h = absurd (let z : ◌≡◌ {A = ℕ} 0 1 = cc in omega arith)
recast-from P Integer Truth x e h = absurd (let z : ◌≡◌ {A = ℕ} 0 1 = cc in omega arith)
recast-from P Integer Integer x e h = h

pub operand-from {ℓ} : (P : (s : Sort) → Tree s → Type ℓ) (f : ℕ → Record) {s : Sort} (a : ℕ) → sort_at f a ≡ s → P s (of_sort s (tree_at f a)) → P (tree_at f a).0 (tree_at f a).1
operand-from P f {s} a e h = recast-from P s (tree_at f a).0 (tree_at f a).1 (rw (tree-sort f a) e) h
