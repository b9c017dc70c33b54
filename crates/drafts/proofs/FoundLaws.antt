-- The records of a shaped expression stand in order, and what is found of them node by node is what is found of the expression. Assumes nothing.
use Prim.Native.Nat.{ℕ, ◌+◌, ◌-◌, ◌≤◌, ◌<◌}
use mathlib.Core.Path.{◌≡◌, refl, ap, subst, ◌∙◌}
use mathlib.Core.List.{List, [], ◌∷◌, ◌++◌}
use native.Mathlib.Decide.{dec_lt}
use native.Mathlib.Omega.{arith}
use lib.IntN.{ℤ}
use lib.ListN.{length}
use Rattle.lists.specs.Run.{Run}
use Rattle.lists.proofs.RunLaws.{run-split}
use Rattle.numbers.specs.Two.{enc}
use Rattle.numbers.specs.Bytes.{word_limit}
use Rattle.numbers.proofs.Bytes16.{enc16-lt, dec16-enc16}
use Rattle.kinds.specs.declared.Kind.{Kind}
use Rattle.kinds.specs.declared.Record.{Record}
use Rattle.kinds.specs.declared.Shape.{Shape}
use Rattle.kinds.specs.Kinds.{row}
use Rattle.kinds.specs.Rows.{Known}
use Rattle.layout.specs.Starts.{shape_at, operands_of, start_by, start_at, Ordered, VariableBelow}
use Rattle.layout.specs.LaidOut.{unused_of, Placed}
use Rattle.layout.specs.Nodes.{node}
use Rattle.layout.specs.Fold.{Found, found_by, of_node}
use Rattle.layout.proofs.StartLaws.{lower, start_is}
use Rattle.layout.proofs.FoldLaws.{node-is}
use Rattle.texts.specs.Expressions.{Expression, bare, number, variable, one, two, three, expression_by, expression_step, records_of}
use Rattle.drafts.specs.Shaped.{Shaped, found_from, of_expression}
use Rattle.drafts.proofs.TakesLaws.{takes-0, takes-1, takes-2, takes-3}

module _ {A : Type 0} (step : (k : Kind) → Found A (row k).shape → A) (d : A) (f : ℕ → Record) (v : ℕ) where
  abbrev at_node : ℕ → A
  at_node = of_node step d f

  abbrev of : Expression → A
  of x = of_expression step d x

  -- node n is in its place, and its value has 16 bits
  pub record Good (n : ℕ) : Type 0 where
    pub placed : Placed f v n
    pub word : (f n).value < word_limit

  join : {i j e : ℕ} → ((m : ℕ) → i ≤ m → m < j → Good m) → ((m : ℕ) → j ≤ m → m < e → Good m) → (m : ℕ) → i ≤ m → m < e → Good m
  join {i} {j} {e} p q m l h = elim (dec_lt m j) [ yes c ↦ p m l c | no c ↦ q m (omega arith) h ]

  -- the nodes from i up to e are those of the expression x
  pub record Back (i e : ℕ) (x : Expression) : Type 0 where
    pub more : i < e
    pub good : (j : ℕ) → i ≤ j → j < e → Good j
    pub start : start_at f (e - 1) ≡ i
    pub found : at_node (e - 1) ≡ of x

  -- what makes node n with the record r of the shape h a good one, found from y
  record Fits (h : Shape) (r : Record) (i n : ℕ) (y : Found A h) : Type 0 where
    known : Known h
    clear : unused_of h r + r.spare ≡ 0
    ordered : Ordered (start_at f) n (operands_of h r)
    listed : VariableBelow h r v
    word : r.value < word_limit
    start : start_by h r n (start_at f) ≡ i
    found : found_by h r at_node ≡ y

  -- the last node, behind those before it
  close : (k : Kind) (a b c x : ℕ) {i n e : ℕ} (y : Found A (row k).shape) → f n ≡ node k a b c x → n + 1 ≡ e → i ≤ n → Fits (row k).shape (node k a b c x) i n y → ((j : ℕ) → i ≤ j → j < n → Good j) → (z : Expression) → step k y ≡ of z → Back i e z
  close k a b c x {i} {n} {e} y own next first t before z same =
      let p : Placed f v n = record { known = rw own t.known; clear = rw own t.clear; ordered = rw own t.ordered; listed = rw own t.listed } in
      let g : Good n = record { placed = p; word = rw own t.word } in
      let q : e - 1 ≡ n = omega arith in
      let s : start_at f n ≡ i = rw (start_is f n (lower p), own) t.start in
      let u : at_node n ≡ of z = node-is step d f n (lower p) ∙ ap (λ (r : Record). step r.kind (found_by (shape_at r) r at_node)) own ∙ ap (step k) t.found ∙ same in
      record {
        more = omega arith;
        good = join before (λ j l h. let m : n ≡ j = omega arith in subst Good m g);
        start = rw q s;
        found = rw q u;
      }

  abbrev Claim : Expression → Type 0
  Claim x = (i e : ℕ) → Shaped v x → Run f i (records_of x i) e → Back i e x

  nothing : {n : ℕ} (j : ℕ) → n ≤ j → j < n → Good j
  nothing j l h = absurd (omega arith)

  of_bare : (k : Kind) → Claim (bare k)
  unfolding records_of of_expression
  of_bare k i e w run =
      close k 0 0 0 0 (found_from (row k).shape d d d) run.each.0 run.end (omega arith)
      (takes-0 (λ h. Fits h (node k 0 0 0 0) i i (found_from h d d d)) (record { known = tt; clear = refl; ordered = tt; listed = tt; word = omega arith; start = refl; found = refl }) (row k).shape w)
      nothing (bare k) refl

  of_number : (z : ℤ) → Claim (number z)
  unfolding records_of of_expression
  of_number z i e w run =
      close Kind.Constant 0 0 0 (enc 16 z) z run.each.0 run.end (omega arith)
      (record { known = tt; clear = refl; ordered = tt; listed = tt; word = enc16-lt z; start = refl; found = dec16-enc16 w })
      nothing (number z) refl

  of-variable : (a : ℕ) → Claim (variable a)
  unfolding records_of of_expression
  of-variable a i e w run =
      close Kind.Variable a 0 0 0 a run.each.0 run.end (omega arith)
      (record { known = tt; clear = refl; ordered = tt; listed = w; word = omega arith; start = refl; found = refl })
      nothing (variable a) refl

  of_one : (k : Kind) (a : Expression) → Claim a → Claim (one k a)
  unfolding records_of of_expression
  of_one k a pa i e w run =
      let n : ℕ = i + length (records_of a i) in
      let p = run-split f {xs = records_of a i} {ys = node k (n - 1) 0 0 0 ∷ []} run in
      let x = pa i n w.1 p.0 in
      let l = x.more in
      close k (n - 1) 0 0 0 (found_from (row k).shape (of a) d d) p.1.each.0 p.1.end (omega arith)
      (takes-1 (λ h. Fits h (node k (n - 1) 0 0 0) i n (found_from h (of a) d d))
      (λ s. record { known = tt; clear = refl; ordered = omega arith; listed = tt; word = omega arith; start = x.start; found = x.found })
      (row k).shape w.0)
      x.good (one k a) refl

  of_two : (k : Kind) (a b : Expression) → Claim a → Claim b → Claim (two k a b)
  unfolding records_of of_expression
  of_two k a b pa pb i e w run =
      let j : ℕ = i + length (records_of a i) in
      let n : ℕ = j + length (records_of b j) in
      let own : List Record = node k (j - 1) (n - 1) 0 0 ∷ [] in
      let p = run-split f {xs = records_of a i} {ys = records_of b j ++ own} run in
      let q = run-split f {xs = records_of b j} {ys = own} p.1 in
      let x = pa i j w.1 p.0 in
      let y = pb j n w.2 q.0 in
      let l = x.more in
      let m = y.more in
      let o = y.start in
      close k (j - 1) (n - 1) 0 0 (found_from (row k).shape (of a) (of b) d) q.1.each.0 q.1.end (omega arith)
      (takes-2 (λ h. Fits h (node k (j - 1) (n - 1) 0 0) i n (found_from h (of a) (of b) d))
      (λ s t. record { known = tt; clear = refl; ordered = omega arith; listed = tt; word = omega arith; start = x.start; found = λ z. (x.found z, y.found z) })
      (row k).shape w.0)
      (join x.good y.good) (two k a b) refl

  of_three : (k : Kind) (a b c : Expression) → Claim a → Claim b → Claim c → Claim (three k a b c)
  unfolding records_of of_expression
  of_three k a b c pa pb pc i e w run =
      let j : ℕ = i + length (records_of a i) in
      let m : ℕ = j + length (records_of b j) in
      let n : ℕ = m + length (records_of c m) in
      let own : List Record = node k (j - 1) (m - 1) (n - 1) 0 ∷ [] in
      let p = run-split f {xs = records_of a i} {ys = records_of b j ++ (records_of c m ++ own)} run in
      let q = run-split f {xs = records_of b j} {ys = records_of c m ++ own} p.1 in
      let r = run-split f {xs = records_of c m} {ys = own} q.1 in
      let x = pa i j w.1 p.0 in
      let y = pb j m w.2 q.0 in
      let z = pc m n w.3 r.0 in
      let lx = x.more in
      let ly = y.more in
      let lz = z.more in
      let sy = y.start in
      let sz = z.start in
      close k (j - 1) (m - 1) (n - 1) 0 (found_from (row k).shape (of a) (of b) (of c)) r.1.each.0 r.1.end (omega arith)
      (takes-3 (λ h. Fits h (node k (j - 1) (m - 1) (n - 1) 0) i n (found_from h (of a) (of b) (of c)))
      (λ s t u. record { known = tt; clear = refl; ordered = omega arith; listed = tt; word = omega arith; start = x.start; found = λ o. (x.found o, y.found o, z.found o) })
      (row k).shape w.0)
      (join x.good (join y.good z.good)) (three k a b c) refl

  -- the records of an expression, from i up to e
  pub expression-back : (x : Expression) (i e : ℕ) → Shaped v x → Run f i (records_of x i) e → Back i e x
  expression-back (bare k) = of_bare k
  expression-back (number z) = of_number z
  expression-back (variable a) = of-variable a
  expression-back (one k a) = of_one k a (expression-back a)
  expression-back (two k a b) = of_two k a b (expression-back a) (expression-back b)
  expression-back (three k a b c) = of_three k a b c (expression-back a) (expression-back b) (expression-back c)

  pub found-expression : (x : Expression) (i e : ℕ) → Shaped v x → Run f i (records_of x i) e → of_node step d f (e - 1) ≡ of_expression step d x
  found-expression x i e w run = (expression-back x i e w run).found

-- ---- the step that makes expressions gives the expression back
pub rebuilt : (v : ℕ) (d : Expression) (x : Expression) → Shaped v x → of_expression expression_step d x ≡ x
unfolding of_expression
rebuilt v d (bare k) w = takes-0 (λ h. expression_by h k (found_from h d d d) ≡ bare k) refl (row k).shape w
rebuilt v d (number z) w = refl
rebuilt v d (variable i) w = refl
rebuilt v d (one k a) w =
    takes-1 (λ h. expression_by h k (found_from h (of_expression expression_step d a) d d) ≡ one k a) (λ s. ap (one k) (rebuilt v d a w.1)) (row k).shape w.0
rebuilt v d (two k a b) w =
    let p = rebuilt v d a w.1 in
    let q = rebuilt v d b w.2 in
    takes-2 (λ h. expression_by h k (found_from h (of_expression expression_step d a) (of_expression expression_step d b) d) ≡ two k a b) (λ s t. λ i. two k (p i) (q i)) (row k).shape w.0
rebuilt v d (three k a b c) w =
    let p = rebuilt v d a w.1 in
    let q = rebuilt v d b w.2 in
    let r = rebuilt v d c w.3 in
    takes-3 (λ h. expression_by h k (found_from h (of_expression expression_step d a) (of_expression expression_step d b) (of_expression expression_step d c)) ≡ three k a b c) (λ s t u. λ i. three k (p i) (q i) (r i)) (row k).shape w.0
