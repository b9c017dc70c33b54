-- Rows 6 to 8 say what the reading's tests say, at each node and at the goal. Assumes nothing.
use Prim.Native.Nat.{ℕ, zero, suc, ◌+◌, ◌-◌, ◌<◌}
use mathlib.Core.Path.{◌≡◌, refl, sym, ap, ◌∙◌}
use mathlib.Core.Logic.{◌↔◌}
use mathlib.Core.Bool.{Bool, true, false, true≢false, ◌&&◌}
use mathlib.Core.List.{List, [], ◌∷◌}
use native.Mathlib.Decide.{ℕ_discrete}
use native.Mathlib.Omega.{arith}
use borrow.Author.Tests.{eqb-false}
use lib.Dec.{eqb}
use Rattle.lists.proofs.Decided.{Decides, denied, always, decides_and, decides_eq}
use Rattle.numbers.specs.Bytes.{byte_at}
use Rattle.numbers.proofs.NarrowLaws.{narrow-of, narrow-false}
use Rattle.meaning.specs.declared.Sort.{Sort}
use Rattle.meaning.specs.declared.Sort.TheVariants.{Truth as truth}
use Rattle.kinds.specs.declared.Record.{Record}
use Rattle.kinds.specs.declared.Shape.{Shape}
use Rattle.layout.specs.Limits.{node_bytes, spare_start, node_place}
use Rattle.layout.specs.Starts.{fields_of, AllZero, UnusedZero, shape_at, sort_at, operands_of, sorts_of, start_at, Sorted, Typed}
use Rattle.layout.specs.Parts.{node_count, goal_at, variable_count, record_in, table}
use Rattle.layout.specs.LaidOut.{total, unused_of, Placed}
use Rattle.refusals.specs.Rows.{row, ◌then◌, each_of, Exactly}
use Rattle.refusals.proofs.RowLaws.{exactly-row, exactly-unless, exactly-then, exactly-each}
use Rattle.order.specs.Order.{is_known, in_order, is_listed, rightly_placed}
use Rattle.order.proofs.OrderLaws.{decides-known, decides-ordered, decides-listed, placed_of}
use Rattle.findings.specs.declared.Finding.{Finding}
use Rattle.findings.specs.declared.Finding.TheVariants.{Truth, Integer}
use Rattle.findings.specs.Findings.{finding_at, finding_fits}
use Rattle.findings.specs.Steps.{are_sorted}
use Rattle.findings.proofs.FindingLaws.{decides-same}
use Rattle.nodes.specs.Nodes.{typed, node_refusal, nodes}
use Rattle.reading.specs.Rows.{SpareZero, Row6, unknown, unused, spare, misplaced, unlisted, Row7, Row8, GoalSubtree, GoalType}

-- ---- unused fields and bytes are zero exactly where their sum is
zero-total : (xs : List ℕ) → (total xs ≡ 0) ↔ AllZero xs
zero-total [] = (λ e. tt, λ z. refl)
zero-total (x ∷ xs) = let t = zero-total xs in (λ e. (omega arith, t.0 (omega arith)), λ z. omega (arith, z.0, t.1 z.1))

unused-zero : (h : Shape) (r : Record) → (unused_of h r ≡ 0) ↔ UnusedZero h r
unused-zero h r = zero-total ((fields_of h).unused r)

spare-zero : (s : List ℕ) (i : ℕ) → ((record_in s i).spare ≡ 0) ↔ SpareZero s i
spare-zero s i = (
  λ e. (omega arith, λ j l h. go e j (j - spare_start) (omega arith) h),
  λ z.
      let t : (k : ℕ) → k < node_bytes - spare_start → byte_at s (i + (spare_start + k)) ≡ 0 = λ k l. z.1 (spare_start + k) (omega arith) (omega arith) in
      omega (arith, z.0, t 0 (omega arith), t 1 (omega arith), t 2 (omega arith), t 3 (omega arith), t 4 (omega arith), t 5 (omega arith)),
)
  where
    go : (record_in s i).spare ≡ 0 → (j k : ℕ) → j ≡ spare_start + k → j < node_bytes → byte_at s (i + j) ≡ 0
    go e j zero q h = rw q (omega arith)
    go e j (suc zero) q h = rw q (omega arith)
    go e j (suc (suc zero)) q h = rw q (omega arith)
    go e j (suc (suc (suc zero))) q h = rw q (omega arith)
    go e j (suc (suc (suc (suc zero)))) q h = rw q (omega arith)
    go e j (suc (suc (suc (suc (suc zero))))) q h = rw q (omega arith)
    go e j (suc (suc (suc (suc (suc (suc k)))))) q h = absurd (omega arith)

-- ---- sorts
sorted-decided : (so : ℕ → Sort) (xs : List ℕ) (ss : List Sort) → Decides (are_sorted so xs ss) (Sorted so xs ss)
sorted-decided so [] ss = always
sorted-decided so (x ∷ xs) [] = always
sorted-decided so (x ∷ xs) (s ∷ ss) = decides_and (decides-same (so x) s) (sorted-decided so xs ss)

pub typed-decided : (f : ℕ → Record) (n : ℕ) → Decides (typed f n) (Typed f n)
unfolding typed
typed-decided f n = sorted-decided (sort_at f) (operands_of (shape_at (f n)) (f n)) (sorts_of (shape_at (f n)))

module _ (s : List ℕ) where
  module _ (n : ℕ) where
    abbrev r : Record
    r = table s n

    abbrev placed_here : Bool
    placed_here = rightly_placed r (variable_count s) n (start_at (table s))

    -- ---- 6
    row6-of : placed_here ≡ false → Row6 s n
    unfolding rightly_placed
    row6-of e =
        go (is_known (shape_at r)) (eqb (unused_of (shape_at r) r + r.spare) 0) (in_order (start_at (table s)) n (operands_of (shape_at r) r)) (is_listed (shape_at r) r (variable_count s)) refl refl refl refl e
      where
        clear : Dec (unused_of (shape_at r) r ≡ 0) → (unused_of (shape_at r) r + r.spare ≡ 0 → ⊥) → Row6 s n
        clear (yes p) h = spare (λ z. h (omega (arith, (spare-zero s (node_place n)).1 z)))
        clear (no p) h = unused (λ z. p ((unused-zero (shape_at r) r).1 z))

        go : (a b c d : Bool)
            → is_known (shape_at r) ≡ a
            → eqb (unused_of (shape_at r) r + r.spare) 0 ≡ b
            → in_order (start_at (table s)) n (operands_of (shape_at r) r) ≡ c
            → is_listed (shape_at r) r (variable_count s) ≡ d
            → a && b && c && d ≡ false
            → Row6 s n
        go false b c d p q t u e = unknown ((denied (decides-known (shape_at r))).0 p)
        go true false c d p q t u e = clear (ℕ_discrete (unused_of (shape_at r) r) 0) (eqb-false _ 0 q)
        go true true false d p q t u e = misplaced ((denied (decides-ordered (start_at (table s)) (operands_of (shape_at r) r) n)).0 t)
        go true true true false p q t u e = unlisted ((denied (decides-listed (shape_at r) r (variable_count s))).0 u)
        go true true true true p q t u e = absurd (true≢false e)

    row6-not : Placed (table s) (variable_count s) n → Row6 s n → ⊥
    row6-not p (unknown h) = h p.known
    row6-not p (unused h) = h ((unused-zero (shape_at r) r).0 (let c = p.clear in omega arith))
    row6-not p (spare h) = h ((spare-zero s (node_place n)).0 (let c = p.clear in omega arith))
    row6-not p (misplaced h) = h p.ordered
    row6-not p (unlisted h) = h p.listed

    -- ---- 8
    row8-of : finding_fits (finding_at s n) ≡ false → Row8 s n
    row8-of e = go (finding_at s n) refl e
      where
        go : (x : Finding) → finding_at s n ≡ x → finding_fits x ≡ false → Row8 s n
        go Truth q d = absurd (true≢false d)
        go (Integer a) q d = record { range = a; found = q; leaves = narrow-false d }

    row8-not : finding_fits (finding_at s n) ≡ true → Row8 s n → ⊥
    row8-not e h = h.leaves (narrow-of (sym (ap finding_fits h.found) ∙ e))

    node-rows : Exactly (row 6 n (Row6 s n) then row 7 n (Row7 s n) then row 8 n (Row8 s n)) (node_refusal s n)
    unfolding node_refusal
    node-rows =
        exactly-then (exactly-row placed_here 6 n (λ e. row6-not (placed_of e)) row6-of)
        (λ e. exactly-then (exactly-unless 7 n (typed-decided (table s) n)) (λ d. exactly-row (finding_fits (finding_at s n)) 8 n row8-not row8-of))

  -- ---- all nodes, then the goal
  pub nodes-rows : Exactly (each_of (λ n. row 6 n (Row6 s n) then row 7 n (Row7 s n) then row 8 n (Row8 s n)) 0 (node_count s) then row 6 (goal_at s) (GoalSubtree s) then row 7 (goal_at s) (GoalType s)) (nodes s)
  unfolding nodes
  nodes-rows =
      exactly-then (exactly-each (node_count s) 0 (λ n l h w. node-rows n))
      (λ e. exactly-then (exactly-unless 6 (goal_at s) (decides_eq (start_at (table s) (goal_at s)) 0)) (λ d. exactly-unless 7 (goal_at s) (decides-same (sort_at (table s) (goal_at s)) truth)))
