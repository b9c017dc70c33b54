-- A claim holds throughout the goal's tree exactly where it holds of every node's tree. Assumes nothing.
use Prim.Native.Nat.{ℕ, zero, suc, ◌-◌, ◌≤◌, ◌<◌}
use mathlib.Core.Path.{◌≡◌, sym, subst}
use native.Mathlib.Decide.{dec_lt, ℕ_discrete}
use native.Mathlib.Omega.{arith}
use Rattle.meaning.specs.declared.Sort.{Sort}
use Rattle.meaning.specs.Tree.{Tree}
use Rattle.kinds.specs.declared.Record.{Record}
use Rattle.kinds.specs.declared.Shape.{Shape}
use Rattle.kinds.specs.declared.Shape.TheVariants.{Wrong, Bare, Valued, Named, One, Two, Three}
use Rattle.kinds.proofs.ClaimLaws.{Throughout, Parts, throughout-make}
use Rattle.layout.specs.Starts.{shape_at, sort_at, operands_of, sorts_of, start_by, start_at, Ordered, Sorted, Typed}
use Rattle.layout.specs.Goal.{of_sort, args_of, tree_at, goal_of}
use Rattle.layout.specs.LaidOut.{Placed, Sound}
use Rattle.layout.proofs.StartLaws.{Before, lower, start_is}
use Rattle.layout.proofs.GoalLaws.{tree_is, operand-as, operand-from}

module _ (Q : (s : Sort) → Tree s → Type 0) {f : ℕ → Record} {v N : ℕ} (placed : (j : ℕ) → j < N → Placed f v j) (typed : (j : ℕ) → j < N → Typed f j) where
  -- of node n's tree, and throughout it
  abbrev Here : ℕ → Type 0
  Here n = Q (tree_at f n).0 (tree_at f n).1

  abbrev All : ℕ → Type 0
  All n = Throughout Q (tree_at f n).1

  -- throughout the operands of node n, by its shape
  abbrev Under : Shape → ℕ → Type 0
  Under h n = Parts Q h (args_of h (f n) (tree_at f))

  -- a claim throughout a node's tree is the claim of the tree itself and throughout its operands
  opened : (n : ℕ) → n < N → All n → Here n × Under (shape_at (f n)) n
  opened n l h =
      let p = placed n l in
      let e = throughout-make Q (f n).kind p.known (args_of (shape_at (f n)) (f n) (tree_at f)) in
      rw (tree_is f n (lower p)) (rw e at (rw (tree_is f n (lower p)) at h))

  closed : (n : ℕ) → n < N → Here n → Under (shape_at (f n)) n → All n
  closed n l q h =
      let p = placed n l in
      let e = throughout-make Q (f n).kind p.known (args_of (shape_at (f n)) (f n) (tree_at f)) in
      rw (tree_is f n (lower p)) (rw e ((rw (tree_is f n (lower p)) at q), h))

  -- ---- from every node to the goal
  join : (h : Shape) (n : ℕ) → Before n (operands_of h (f n)) → Sorted (sort_at f) (operands_of h (f n)) (sorts_of h) → ((j : ℕ) → j < n → All j) → Under h n
  join Wrong n b t all = tt
  join Bare n b t all = tt
  join Valued n b t all = tt
  join Named n b t all = tt
  join (One s) n b t all = operand-as (λ s t. Throughout Q t) f (f n).a t.0 (all (f n).a b.0)
  join (Two s t) n b y all = (operand-as (λ s t. Throughout Q t) f (f n).a y.1.0 (all (f n).a b.1.0), operand-as (λ s t. Throughout Q t) f (f n).b y.0 (all (f n).b b.0))
  join (Three s t u) n b y all = (
    operand-as (λ s t. Throughout Q t) f (f n).a y.1.1.0 (all (f n).a b.1.1.0),
    operand-as (λ s t. Throughout Q t) f (f n).b y.1.0 (all (f n).b b.1.0),
    operand-as (λ s t. Throughout Q t) f (f n).c y.0 (all (f n).c b.0),
  )

  up-below : ((j : ℕ) → j < N → Here j) → (m n : ℕ) → n < m → n < N → All n
  up-below q zero n h l = absurd (omega arith)
  up-below q (suc m) n h l = closed n l (q n l) (join (shape_at (f n)) n (lower (placed n l)) (typed n l) (λ j i. up-below q m j (omega arith) (omega arith)))

  -- ---- from the goal to every node
  down-operand : {s : Sort} (a : ℕ) → sort_at f a ≡ s → Throughout Q (of_sort s (tree_at f a)) → All a
  down-operand a e h = operand-from (λ s t. Throughout Q t) f a e h

  -- a node of the subtree, before its root, is a node of an operand's subtree
  split : (h : Shape) (n : ℕ) → Ordered (start_at f) n (operands_of h (f n)) → Sorted (sort_at f) (operands_of h (f n)) (sorts_of h)
      → Under h n
      → ((a : ℕ) → a < n → All a → (j : ℕ) → start_at f a ≤ j → j ≤ a → Here j) → Before n (operands_of h (f n))
      → (j : ℕ) → start_by h (f n) n (start_at f) ≤ j → j < n → Here j
  split Wrong n o t w all b j l g = absurd (omega arith)
  split Bare n o t w all b j l g = absurd (omega arith)
  split Valued n o t w all b j l g = absurd (omega arith)
  split Named n o t w all b j l g = absurd (omega arith)
  split (One s) n o t w all b j l g = all (f n).a b.0 (down-operand (f n).a t.0 w) j l (omega arith)
  split (Two s t) n o y w all b j l g =
      elim (dec_lt j (start_at f (f n).b)) [
        | yes d ↦ all (f n).a b.1.0 (down-operand (f n).a y.1.0 w.0) j l (omega arith)
        | no d ↦ all (f n).b b.0 (down-operand (f n).b y.0 w.1) j (omega arith) (omega arith)
      ]
  split (Three s t u) n o y w all b j l g =
      elim (dec_lt j (start_at f (f n).c)) [
        | yes d ↦ elim (dec_lt j (start_at f (f n).b)) [
          | yes e ↦ all (f n).a b.1.1.0 (down-operand (f n).a y.1.1.0 w.0) j l (omega arith)
          | no e ↦ all (f n).b b.1.0 (down-operand (f n).b y.1.0 w.1) j (omega arith) (omega arith)
        ]
        | no d ↦ all (f n).c b.0 (down-operand (f n).c y.0 w.2) j (omega arith) (omega arith)
      ]

  down-below : (m n : ℕ) → n < m → n < N → All n → (j : ℕ) → start_at f n ≤ j → j ≤ n → Here j
  down-below zero n h l w j s g = absurd (omega arith)
  down-below (suc m) n h l w j s g =
      let p = placed n l in
      let o = opened n l w in
      let e = start_is f n (lower p) in
      elim (ℕ_discrete j n) [
        | yes d ↦ subst Here (sym d) o.0
        | no d ↦ split (shape_at (f n)) n p.ordered (typed n l) o.1 (λ a i q. down-below m a (omega arith) (omega arith) q) (lower p) j (rw e at s) (omega arith)
      ]

module _ (Q : (s : Sort) → Tree s → Type 0) {f : ℕ → Record} {v N : ℕ} (h : Sound f v N) where
  pub goal-throughout : ((j : ℕ) → j < N → Q (tree_at f j).0 (tree_at f j).1) → Throughout Q (goal_of f N)
  goal-throughout q = operand-as (λ s t. Throughout Q t) f (N - 1) h.goal (up-below Q h.placed h.typed q N (N - 1) (omega (arith, h.some-node)) (omega (arith, h.some-node)))

  pub throughout-goal : Throughout Q (goal_of f N) → (j : ℕ) → j < N → Q (tree_at f j).0 (tree_at f j).1
  throughout-goal w j l =
      let a : Throughout Q (tree_at f (N - 1)).1 = operand-from (λ s t. Throughout Q t) f (N - 1) h.goal w in
      down-below Q h.placed h.typed N (N - 1) (omega (arith, h.some-node)) (omega (arith, h.some-node)) a j (rw h.whole (omega arith)) (omega arith)
