-- The test of a node's place: what it decides, what it looks at, and what it bounds. Assumes nothing.
use Prim.Native.Nat.{ℕ, ◌+◌, ◌≤◌, ◌<◌}
use mathlib.Core.Path.{◌≡◌, refl, ap, ◌∙◌}
use mathlib.Core.Bool.{Bool, true, false, false≢true}
use mathlib.Core.List.{List, [], ◌∷◌}
use native.Mathlib.Decide.{dec_lt}
use native.Mathlib.Omega.{arith}
use borrow.Author.Tests.{eqb-true, ltb-true, lt-ltb}
use lib.Dec.{eqb}
use Rattle.lists.specs.Course.{below}
use Rattle.lists.proofs.CourseLaws.{below-is, below-past}
use Rattle.lists.proofs.Decided.{Decides, always, decides-as, decides_and, decides_eq}
use Rattle.kinds.specs.declared.Record.{Record}
use Rattle.kinds.specs.declared.Shape.{Shape}
use Rattle.kinds.specs.declared.Shape.TheVariants.{Wrong, Bare, Valued, Named, One, Two, Three}
use Rattle.kinds.specs.Rows.{Known}
use Rattle.layout.specs.Starts.{shape_at, operands_of, start_step, start_at, Ordered, VariableBelow}
use Rattle.layout.specs.LaidOut.{unused_of, Placed}
use Rattle.layout.proofs.StartLaws.{start-low, Before}
use Rattle.order.specs.Order.{is_known, in_order, is_listed, rightly_placed}

-- ---- each test and what it decides
pub decides-known : (h : Shape) → Decides (is_known h) (Known h)
decides-known Wrong = (λ e. absurd (false≢true e), λ k. absurd k)
decides-known Bare = always
decides-known Valued = always
decides-known Named = always
decides-known (One s) = always
decides-known (Two s t) = always
decides-known (Three s t u) = always

pub decides-ordered : (st : ℕ → ℕ) (xs : List ℕ) (e : ℕ) → Decides (in_order st e xs) (Ordered st e xs)
decides-ordered st [] e = always
decides-ordered st (x ∷ xs) e = decides_and (decides_eq (x + 1) e) (decides-ordered st xs (st x))

pub decides-listed : (h : Shape) (r : Record) (v : ℕ) → Decides (is_listed h r v) (VariableBelow h r v)
decides-listed Wrong r v = always
decides-listed Bare r v = always
decides-listed Valued r v = always
decides-listed Named r v = (ltb-true r.a v, lt-ltb r.a v)
decides-listed (One s) r v = always
decides-listed (Two s t) r v = always
decides-listed (Three s t u) r v = always

-- ---- all four at once: what `Placed` says, with any starts
pub record Keeps (r : Record) (v n : ℕ) (st : ℕ → ℕ) : Type 0 where
  pub known : Known (shape_at r)
  pub clear : unused_of (shape_at r) r + r.spare ≡ 0
  pub ordered : Ordered st n (operands_of (shape_at r) r)
  pub listed : VariableBelow (shape_at r) r v

module _ (r : Record) (v n : ℕ) (st : ℕ → ℕ) where
  pub decides-keeps : Decides (rightly_placed r v n st) (Keeps r v n st)
  unfolding rightly_placed
  decides-keeps =
      let h : Shape = shape_at r in
      let kc = decides_and (decides-known h) (decides_eq (unused_of h r + r.spare) 0) in
      decides-as (decides_and (decides_and kc (decides-ordered st (operands_of h r) n)) (decides-listed h r v))
      (λ w. record { known = w.0.0.0; clear = w.0.0.1; ordered = w.0.1; listed = w.1 })
      (λ k. (((k.known, k.clear), k.ordered), k.listed))

module _ {f : ℕ → Record} {v n : ℕ} where
  pub decides-placed : Decides (rightly_placed (f n) v n (start_at f)) (Placed f v n)
  decides-placed =
      decides-as (decides-keeps (f n) v n (start_at f))
      (λ k. record { known = k.known; clear = k.clear; ordered = k.ordered; listed = k.listed })
      (λ p. record { known = p.known; clear = p.clear; ordered = p.ordered; listed = p.listed })

  pub placed_of : rightly_placed (f n) v n (start_at f) ≡ true → Placed f v n
  placed_of = decides-placed.0

  pub placed-true : Placed f v n → rightly_placed (f n) v n (start_at f) ≡ true
  placed-true = decides-placed.1

-- ---- only the starts below n are looked at
module _ {n : ℕ} {st st' : ℕ → ℕ} (same : (j : ℕ) → j < n → st j ≡ st' j) (low : (j : ℕ) → j < n → st j ≤ j) where
  order-agrees : (xs : List ℕ) (e : ℕ) → e ≤ n → in_order st e xs ≡ in_order st' e xs
  order-agrees [] e l = refl
  order-agrees (x ∷ xs) e l = by (eqb (x + 1) e) refl (λ h. order-agrees xs (st x) (omega (arith, low x h)))
    where
      by : (t : Bool) → eqb (x + 1) e ≡ t → (x < n → in_order st (st x) xs ≡ in_order st' (st x) xs) → in_order st e (x ∷ xs) ≡ in_order st' e (x ∷ xs)
      by true q more =
          let h : x < n = omega (arith, eqb-true (x + 1) e q) in
          rw q (more h ∙ ap (λ (i : ℕ). in_order st' i xs) (same x h))
      by false q more = rw q

  pub agrees : (r : Record) (v : ℕ) → rightly_placed r v n st ≡ rightly_placed r v n st'
  unfolding rightly_placed
  agrees r v = rw (order-agrees (operands_of (shape_at r) r) n (omega arith))

-- ---- operands stand before their node
module _ {n : ℕ} {st : ℕ → ℕ} (low : (j : ℕ) → j < n → st j ≤ j) where
  pub ordered-before : (xs : List ℕ) (e : ℕ) → e ≤ n → Ordered st e xs → Before n xs
  ordered-before [] e l o = tt
  ordered-before (x ∷ xs) e l o =
      let h : x < n = omega arith in
      (h, ordered-before xs (st x) (omega (arith, low x h)) o.1)

-- ---- over a table, where the starts below n are known and 0 stands for the rest
module _ (f : ℕ → Record) where
  pub starts-low : (n j : ℕ) → below 0 (start_step f) n j ≤ j
  starts-low n j = by (dec_lt j n)
    where
      by : Dec (j < n) → below 0 (start_step f) n j ≤ j
      by (yes l) = rw (below-is 0 (start_step f) n j l) (unfold start_at in start-low f j)
      by (no l) = rw (below-past 0 (start_step f) n j (omega arith)) (omega arith)

  module _ (n : ℕ) {st : ℕ → ℕ} (known : st ≡ below 0 (start_step f) n) where
    pub known-low : (j : ℕ) → st j ≤ j
    known-low j = rw known (starts-low n j)

    pub known_start : (j : ℕ) → j < n → st j ≡ start_at f j
    unfolding start_at
    known_start j l = ap (λ (g : ℕ → ℕ). g j) known ∙ below-is 0 (start_step f) n j l

    -- the test of node n
    pub known-placed : (v : ℕ) → rightly_placed (f n) v n st ≡ rightly_placed (f n) v n (start_at f)
    known-placed v = agrees known_start (λ j l. known-low j) (f n) v
