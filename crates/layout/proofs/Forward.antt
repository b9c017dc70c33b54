-- A table in order and of the right sorts: each node's subtree is the records from its start to it, and the whole table is the records of its
-- goal. Assumes nothing.
use Prim.Native.Nat.{ℕ, zero, suc, ◌+◌, ◌-◌, ◌<◌}
use mathlib.Core.Path.{◌≡◌, refl, sym, ap, ◌∙◌}
use native.Mathlib.Nat.{zero-add}
use native.Mathlib.Omega.{arith}
use lib.ListN.{length}
use Rattle.lists.specs.Places.{from}
use Rattle.lists.specs.Run.{Run}
use Rattle.lists.proofs.RunLaws.{run-append, run-one, stands_from, stands_at}
use Rattle.numbers.proofs.Bytes16.{enc16-dec16}
use Rattle.meaning.specs.declared.Sort.{Sort}
use Rattle.kinds.specs.declared.Kind.{Kind}
use Rattle.kinds.specs.declared.Kind.TheVariants.{Unknown}
use Rattle.kinds.specs.declared.Record.{Record}
use Rattle.kinds.specs.declared.Shape.{Shape}
use Rattle.kinds.specs.declared.Shape.TheVariants.{Wrong, Bare, Valued, Named, One, Two, Three}
use Rattle.kinds.specs.Rows.{Known}
use Rattle.layout.specs.Starts.{shape_at, sort_at, operands_of, sorts_of, start_by, start_at, Ordered, Sorted, Typed}
use Rattle.layout.specs.Goal.{of_sort, args_of, tree_at, goal_of}
use Rattle.layout.specs.LaidOut.{unused_of, Placed, Sound}
use Rattle.layout.specs.Nodes.{node, Listing, one_of, two_of, three_of, listing, nodes_of}
use Rattle.layout.proofs.Made.{list_made, listing-make}
use Rattle.layout.proofs.StartLaws.{start-low, lower, start_is}
use Rattle.layout.proofs.GoalLaws.{tree_is, operand-as}

-- the subtree of node n is the records from its start to n
abbrev pub Reads : (ℕ → Record) → ℕ → Type 0
Reads f n = Run f (start_at f n) (listing (tree_at f n).1 (start_at f n)) (n + 1)

-- a record by its fields
by-fields : (r : Record) {a b c x : ℕ} → (r.a ≡ a) × (r.b ≡ b) × (r.c ≡ c) × (r.value ≡ x) × (r.spare ≡ 0) → r ≡ node r.kind a b c x
by-fields r e = λ i. record { kind = r.kind; a = e.0 i; b = e.1 i; c = e.2 i; value = e.3 i; spare = e.4 i }

module _ (f : ℕ → Record) where
  -- the runs of the operands, and then the node's own record
  run-1 : (k : Kind) (x : Listing) {i n : ℕ} → Run f i (x i) n → f n ≡ node k (n - 1) 0 0 0 → Run f i (one_of k x i) (n + 1)
  run-1 k x p e = rw p.end (run-append f p (run-one f e refl))

  run-2 : (k : Kind) (x y : Listing) {i j n : ℕ} → Run f i (x i) j → Run f j (y j) n → f n ≡ node k (j - 1) (n - 1) 0 0 → Run f i (two_of k x y i) (n + 1)
  run-2 k x y p q e = rw (p.end, q.end) (run-append f p (run-append f q (run-one f e refl)))

  run-3 : (k : Kind) (x y z : Listing) {i j m n : ℕ} → Run f i (x i) j → Run f j (y j) m → Run f m (z m) n → f n ≡ node k (j - 1) (m - 1) (n - 1) 0 → Run f i (three_of k x y z i) (n + 1)
  run-3 k x y z p q t e = rw (p.end, q.end, t.end) (run-append f p (run-append f q (run-append f t (run-one f e refl))))

  -- the records of node a as an operand of the sort s
  abbrev records_of : Sort → ℕ → Listing
  records_of s a = listing (of_sort s (tree_at f a))

  -- their run, up to the next number e
  operand : {s : Sort} (a : ℕ) {e : ℕ} → Reads f a → sort_at f a ≡ s → a + 1 ≡ e → Run f (start_at f a) (records_of s a (start_at f a)) e
  operand {s} a w p q = rw (← q) (operand-as (λ s t. Run f (start_at f a) (listing t (start_at f a)) (a + 1)) f a p w)

  subtree : (h : Shape) (n : ℕ) → Known h → unused_of h (f n) + (f n).spare ≡ 0 → Ordered (start_at f) n (operands_of h (f n)) → Sorted (sort_at f) (operands_of h (f n)) (sorts_of h) → (f n).value < 65536 → ((j : ℕ) → j < n → Reads f j)
      → let i : ℕ = start_by h (f n) n (start_at f) in Run f i (list_made h (f n).kind (args_of h (f n) (tree_at f)) i) (n + 1)
  subtree Wrong n k z o t w all = absurd k
  subtree Bare n k z o t w all = run-one f (by-fields (f n) (omega arith)) refl
  subtree Valued n k z o t w all =
      let e = sym (enc16-dec16 w) in
      run-one f (by-fields (f n) (omega arith)) refl
  subtree Named n k z o t w all = run-one f (by-fields (f n) (omega arith)) refl
  subtree (One s) n k z o t w all =
      run-1 (f n).kind (records_of s (f n).a) (operand (f n).a (all (f n).a (omega arith)) t.0 o.0) (by-fields (f n) (omega arith))
  subtree (Two s t) n k z o y w all =
      let b = start-low f (f n).b in
      run-2 (f n).kind (records_of s (f n).a) (records_of t (f n).b)
      (operand (f n).a (all (f n).a (omega arith)) y.1.0 o.1.0)
      (operand (f n).b (all (f n).b (omega arith)) y.0 o.0)
      (by-fields (f n) (omega arith))
  subtree (Three s t u) n k z o y w all =
      let b = start-low f (f n).b in
      let c = start-low f (f n).c in
      run-3 (f n).kind (records_of s (f n).a) (records_of t (f n).b) (records_of u (f n).c)
      (operand (f n).a (all (f n).a (omega arith)) y.1.1.0 o.1.1.0)
      (operand (f n).b (all (f n).b (omega arith)) y.1.0 o.1.0)
      (operand (f n).c (all (f n).c (omega arith)) y.0 o.0)
      (by-fields (f n) (omega arith))

-- every value has 16 bits, and every node below N is in order and of the right sorts
module _ {f : ℕ → Record} {v N : ℕ} (words : (j : ℕ) → (f j).value < 65536) (placed : (j : ℕ) → j < N → Placed f v j) (typed : (j : ℕ) → j < N → Typed f j) where
  reads-below : (m n : ℕ) → n < m → n < N → Reads f n
  reads-below zero n h l = absurd (omega arith)
  reads-below (suc m) n h l =
      let p = placed n l in
      let b = lower p in
      rw (tree_is f n b, listing-make (f n).kind p.known (args_of (shape_at (f n)) (f n) (tree_at f)), start_is f n b)
      (subtree f (shape_at (f n)) n p.known p.clear p.ordered (typed n l) (words n) (λ j i. reads-below m j (omega arith) (omega arith)))

  pub reads : (n : ℕ) → n < N → Reads f n
  reads n l = reads-below (suc n) n (omega arith) l

module _ {f : ℕ → Record} {v N : ℕ} (words : (j : ℕ) → (f j).value < 65536) (h : Sound f v N) where
  -- the goal's records stand from 0 to the end: it uses all nodes
  pub goal-run : Run f 0 (nodes_of 0 (goal_of f N)) N
  goal-run =
      let s = h.some-node in
      let e : N - 1 + 1 ≡ N = omega arith in
      rw h.whole at (operand f (N - 1) (reads words h.placed h.typed (N - 1) (omega arith)) h.goal e)

  pub goal-size : length (nodes_of 0 (goal_of f N)) ≡ N
  goal-size = omega (arith, goal-run.end)

  pub records-are : from f 0 N ≡ nodes_of 0 (goal_of f N)
  records-are = ap (from f 0) (sym goal-size) ∙ stands_from f (nodes_of 0 (goal_of f N)) 0 goal-run.each

-- two tables with the same goal are the same
pub same-goal : {f g : ℕ → Record} {v w N M : ℕ} → ((j : ℕ) → (f j).value < 65536) → ((j : ℕ) → (g j).value < 65536) → Sound f v N → Sound g w M → goal_of f N ≡ goal_of g M → (N ≡ M) × ((j : ℕ) → j < N → f j ≡ g j)
same-goal {f} {g} {v} {w} {N} {M} ws us p q e =
    let t = goal-run ws p in
    let u : Run g 0 (nodes_of 0 (goal_of f N)) M = rw e (goal-run us q) in
    let d : Record = node Unknown 0 0 0 0 in (
      sym t.end ∙ u.end,
      λ j h. let k : j < length (nodes_of 0 (goal_of f N)) = rw (goal-size ws p) h in
          let x = rw zero-add at (stands_at f (nodes_of 0 (goal_of f N)) 0 t.each d j k) in
          let y = rw zero-add at (stands_at g (nodes_of 0 (goal_of f N)) 0 u.each d j k) in
          x ∙ sym y,
    )
