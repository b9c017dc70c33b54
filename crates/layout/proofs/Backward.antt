-- The records of a fine tree are a sound table, and its goal is that tree. Assumes nothing.
use Prim.Native.Nat.{ℕ, ◌+◌, ◌-◌, ◌≤◌, ◌<◌}
use mathlib.Core.Path.{◌≡◌, refl, sym, ap, ap₂, subst, ◌∙◌}
use mathlib.Core.List.{List, [], ◌∷◌, ◌++◌}
use native.Mathlib.Decide.{dec_lt}
use native.Mathlib.Omega.{arith}
use lib.ListN.{length}
use Rattle.lists.specs.Run.{Run}
use Rattle.lists.proofs.RunLaws.{run-split}
use Rattle.numbers.proofs.Bytes16.{enc16-lt, dec16-enc16}
use Rattle.meaning.specs.declared.Sort.{Sort}
use Rattle.meaning.specs.declared.Sort.TheVariants.{Truth, Integer}
use Rattle.meaning.specs.Tree.{Tree}
use Rattle.kinds.specs.declared.Kind.{Kind}
use Rattle.kinds.specs.declared.Record.{Record}
use Rattle.kinds.specs.declared.Shape.{Shape}
use Rattle.kinds.specs.declared.Shape.TheVariants.{Wrong, Bare, Valued, Named, One, Two, Three}
use Rattle.kinds.specs.Kinds.{Args, row}
use Rattle.kinds.specs.Rows.{make, Known, SomeTree}
use Rattle.kinds.proofs.RowLaws.{Each, by_rows}
use Rattle.layout.specs.Starts.{sort_at, operands_of, sorts_of, start_by, start_at, Ordered, Sorted, VariableBelow, Typed}
use Rattle.layout.specs.Goal.{recast, of_sort, args_of, tree_at, goal_of}
use Rattle.layout.specs.LaidOut.{unused_of, Placed, Sound}
use Rattle.layout.specs.Nodes.{node, listing, nodes_of}
use Rattle.layout.specs.WellFormed.{Fine}
use Rattle.layout.proofs.Made.{list_made, FineMade, listing-make, fine-parts}
use Rattle.layout.proofs.StartLaws.{lower, start_is}
use Rattle.layout.proofs.GoalLaws.{tree_is, tree-sort}

recast-own : (s : Sort) (x : Tree s) → recast s s x ≡ x
recast-own Truth x = refl
recast-own Integer x = refl

module _ (f : ℕ → Record) (v : ℕ) where
  -- node n is as a table's node has to be
  record Good (n : ℕ) : Type 0 where
    placed : Placed f v n
    typed : Typed f n
    word : (f n).value < 65536

  join : {i j e : ℕ} → ((m : ℕ) → i ≤ m → m < j → Good m) → ((m : ℕ) → j ≤ m → m < e → Good m) → (m : ℕ) → i ≤ m → m < e → Good m
  join {i} {j} {e} p q m l h = elim (dec_lt m j) [ yes d ↦ p m l d | no d ↦ q m (omega arith) h ]

  -- the nodes from i up to e are the subtree of the tree p
  record Back (i e : ℕ) (p : SomeTree) : Type 0 where
    more : i < e
    good : (j : ℕ) → i ≤ j → j < e → Good j
    tree : tree_at f (e - 1) ≡ p
    start : start_at f (e - 1) ≡ i

  abbrev Claim : (s : Sort) → Tree s → Type 0
  Claim s t = (i e : ℕ) → Fine v t → Run f i (listing t i) e → Back i e (s, t)

  sort-of : {i e : ℕ} {s : Sort} {t : Tree s} → Back i e (s, t) → sort_at f (e - 1) ≡ s
  sort-of {i} {e} w = sym (tree-sort f (e - 1)) ∙ ap (λ (p : SomeTree). p.0) w.tree

  tree_of : {i e : ℕ} {s : Sort} {t : Tree s} → Back i e (s, t) → of_sort s (tree_at f (e - 1)) ≡ t
  tree_of {s = s} {t} w = ap (of_sort s) w.tree ∙ recast-own s t

  -- what makes node n with the record r of the shape h a good one, and a part of x
  record Fits (h : Shape) (x : Args h) (r : Record) (i n : ℕ) : Type 0 where
    clear : unused_of h r + r.spare ≡ 0
    ordered : Ordered (start_at f) n (operands_of h r)
    listed : VariableBelow h r v
    sorted : Sorted (sort_at f) (operands_of h r) (sorts_of h)
    word : r.value < 65536
    start : start_by h r n (start_at f) ≡ i
    args : args_of h r (tree_at f) ≡ x

  -- the last node's record, and what stands before it
  record Root (h : Shape) (k : Kind) (x : Args h) (i e : ℕ) : Type 0 where
    n : ℕ
    a : ℕ
    b : ℕ
    c : ℕ
    y : ℕ
    next : n + 1 ≡ e
    first : i ≤ n
    own : f n ≡ node k a b c y
    fits : Fits h x (node k a b c y) i n
    before : (j : ℕ) → i ≤ j → j < n → Good j

  leaf-root : {h : Shape} {k : Kind} {x : Args h} {i e a y : ℕ} → Run f i (node k a 0 0 y ∷ []) e → Fits h x (node k a 0 0 y) i i → Root h k x i e
  leaf-root {i = i} {a = a} {y} run t = record { n = i; a = a; b = 0; c = 0; y = y; next = run.end; first = omega arith; own = run.each.0; fits = t; before = λ j l h. absurd (omega arith) }

  root : (h : Shape) (k : Kind) → Known h → (x : Args h) → Each Claim h x → (i e : ℕ) → FineMade v h x → Run f i (list_made h k x i) e → Root h k x i e
  root Wrong k q x all i e w run = absurd q
  root Bare k q x all i e w run = leaf-root run (record { clear = refl; ordered = tt; listed = tt; sorted = tt; word = omega arith; start = refl; args = refl })
  root Valued k q x all i e w run = leaf-root run (record { clear = refl; ordered = tt; listed = tt; sorted = tt; word = enc16-lt x; start = refl; args = dec16-enc16 w })
  root Named k q x all i e w run = leaf-root run (record { clear = refl; ordered = tt; listed = w; sorted = tt; word = omega arith; start = refl; args = refl })
  root (One s) k q x all i e w run =
      let n : ℕ = i + length (listing x i) in
      let p = run-split f {xs = listing x i} {ys = node k (n - 1) 0 0 0 ∷ []} run in
      let A = all i n w p.0 in
      let l = A.more in
      record {
        n = n;
        a = n - 1;
        b = 0;
        c = 0;
        y = 0;
        next = p.1.end;
        first = omega arith;
        own = p.1.each.0;
        fits = record { clear = refl; ordered = omega arith; listed = tt; sorted = (sort-of A, tt); word = omega arith; start = A.start; args = tree_of A };
        before = A.good;
      }
  root (Two s t) k q x all i e w run =
      let j : ℕ = i + length (listing x.0 i) in
      let n : ℕ = j + length (listing x.1 j) in
      let own : List Record = node k (j - 1) (n - 1) 0 0 ∷ [] in
      let p = run-split f {xs = listing x.0 i} {ys = listing x.1 j ++ own} run in
      let r = run-split f {xs = listing x.1 j} {ys = own} p.1 in
      let A = all.0 i j w.0 p.0 in
      let B = all.1 j n w.1 r.0 in
      let a = A.more in
      let b = B.more in
      let c = B.start in
      record {
        n = n;
        a = j - 1;
        b = n - 1;
        c = 0;
        y = 0;
        next = r.1.end;
        first = omega arith;
        own = r.1.each.0;
        fits = record {
          clear = refl;
          ordered = omega arith;
          listed = tt;
          sorted = (sort-of B, (sort-of A, tt));
          word = omega arith;
          start = A.start;
          args = ap₂ (λ (a : Tree s) (b : Tree t). (a, b)) (tree_of A) (tree_of B);
        };
        before = join A.good B.good;
      }
  root (Three s t u) k q x all i e w run =
      let j : ℕ = i + length (listing x.0 i) in
      let m : ℕ = j + length (listing x.1 j) in
      let n : ℕ = m + length (listing x.2 m) in
      let own : List Record = node k (j - 1) (m - 1) (n - 1) 0 ∷ [] in
      let p = run-split f {xs = listing x.0 i} {ys = listing x.1 j ++ (listing x.2 m ++ own)} run in
      let r = run-split f {xs = listing x.1 j} {ys = listing x.2 m ++ own} p.1 in
      let o = run-split f {xs = listing x.2 m} {ys = own} r.1 in
      let A = all.0 i j w.0 p.0 in
      let B = all.1 j m w.1 r.0 in
      let C = all.2 m n w.2 o.0 in
      let a = A.more in
      let b = B.more in
      let c = C.more in
      let d = B.start in
      let g = C.start in
      record {
        n = n;
        a = j - 1;
        b = m - 1;
        c = n - 1;
        y = 0;
        next = o.1.end;
        first = omega arith;
        own = o.1.each.0;
        fits = record {
          clear = refl;
          ordered = omega arith;
          listed = tt;
          sorted = (sort-of C, (sort-of B, (sort-of A, tt)));
          word = omega arith;
          start = A.start;
          args = λ i. (tree_of A i, tree_of B i, tree_of C i);
        };
        before = join A.good (join B.good C.good);
      }

  -- from the shape to the kind
  back : (k : Kind) → Known (row k).shape → (x : Args (row k).shape) → Each Claim (row k).shape x → Claim (row k).gives (make k x)
  back k q x all i e w run =
      let o = root (row k).shape k q x all i e (fine-parts v k x w) (rw (listing-make k q x) at run) in
      let n : ℕ = o.n in
      let t = o.fits in
      let d : e - 1 ≡ n = omega (arith, o.next) in
      let p : Placed f v n = record { known = rw o.own q; clear = rw o.own t.clear; ordered = rw o.own t.ordered; listed = rw o.own t.listed } in
      let g : Good n = record { placed = p; typed = rw o.own t.sorted; word = rw o.own t.word } in
      let s : start_at f n ≡ i = rw (start_is f n (lower p), o.own) t.start in
      let u : tree_at f n ≡ ((row k).gives, make k x) = rw (tree_is f n (lower p), o.own, t.args) in
      record {
        more = omega (arith, o.next, o.first);
        good = join o.before (λ j l h. let a : n ≡ j = omega (arith, o.next) in subst Good a g);
        tree = rw d u;
        start = rw d s;
      }

  -- the records of a tree, from i up to e
  tree-back : {s : Sort} (t : Tree s) → Claim s t
  tree-back t = by_rows Claim back t

module _ (f : ℕ → Record) (v N : ℕ) (t : Tree Truth) (w : Fine v t) (run : Run f 0 (nodes_of 0 t) N) where
  whole : Back f v 0 N (Truth, t)
  whole = tree-back f v t 0 N w run

  pub table-sound : Sound f v N
  table-sound = record { some-node = whole.more; placed = λ j h. (whole.good j (omega arith) h).placed; typed = λ j h. (whole.good j (omega arith) h).typed; whole = whole.start; goal = sort-of f v whole }

  pub table-goal : goal_of f N ≡ t
  table-goal = tree_of f v whole

  pub table-words : (j : ℕ) → j < N → (f j).value < 65536
  table-words j h = (whole.good j (omega arith) h).word
