-- A sheet's own refusal has a number from 1 up, and a place below the most nodes. Assumes nothing.
use Prim.Native.Nat.{ℕ, ◌/◌, ◌*◌, ◌≤◌, ◌<◌}
use mathlib.Core.Path.{◌≡◌}
use mathlib.Core.List.{List}
use mathlib.Core.Option.{some}
use native.Mathlib.Decide.{dec_lt}
use native.Mathlib.Omega.{arith}
use lib.ListN.{length}
use Rattle.layout.specs.Limits.{block_bytes, most_blocks, most_nodes, most_variables}
use Rattle.layout.specs.Parts.{node_count, variable_count, goal_at}
use Rattle.refusals.specs.declared.Refusal.{Refusal}
use Rattle.refusals.specs.Rows.{row, ◌then◌}
use Rattle.refusals.proofs.BoundLaws.{Bounded, not-applied, bounded-row, bounded-then, bounded-each, bounded-answer}
use Rattle.reading.specs.Rows.{Row1, long, Row2, Row3, Row4, no_node, nodes, variables, Row5, Row6, Row7, Row8, GoalSubtree, GoalType, sheet_rows}
use Rattle.reading.specs.Cascade.{refusal_of}
use Rattle.reading.proofs.Exact.{sheet-exactly}

-- what a refusal's number and place can be
pub record Small (number place : ℕ) : Type 0 where
  pub some_number : 1 ≤ number
  pub low-place : place < most_nodes

module _ (s : List ℕ) where
  -- what rows 1 and 4 leave
  short : (Row1 most_nodes s → ⊥) → length s ≤ block_bytes * most_blocks
  short f = elim (dec_lt (block_bytes * most_blocks) (length s)) [ yes d ↦ absurd (f (long d)) | no d ↦ omega arith ]

  few : (Row4 most_nodes s → ⊥) → variable_count s ≤ most_variables
  few f = elim (dec_lt most_variables (variable_count s)) [ yes d ↦ absurd (f (variables d)) | no d ↦ omega arith ]

  some-node : (Row4 most_nodes s → ⊥) → 1 ≤ node_count s
  some-node f = elim (dec_lt (node_count s) 1) [ yes d ↦ absurd (f (no_node d)) | no d ↦ omega arith ]

  most : (Row4 most_nodes s → ⊥) → node_count s ≤ most_nodes
  most f = elim (dec_lt most_nodes (node_count s)) [ yes d ↦ absurd (f (nodes d)) | no d ↦ omega arith ]

  small : (n p : ℕ) (C : Type 0) → 1 ≤ n → p < most_nodes → Bounded Small (row n p C)
  small n p C h l = bounded-row n p C (λ c. record { some_number = h; low-place = l })

  node-small : (n : ℕ) → n < most_nodes → Bounded Small (row 6 n (Row6 s n) then row 7 n (Row7 s n) then row 8 n (Row8 s n))
  node-small n l = bounded-then (small 6 n (Row6 s n) (omega arith) l) (λ a. bounded-then (small 7 n (Row7 s n) (omega arith) l) (λ b. small 8 n (Row8 s n) (omega arith) l))

  pub sheet-small : Bounded Small (sheet_rows most_nodes s)
  unfolding sheet_rows
  sheet-small =
      bounded-then (small 1 0 (Row1 most_nodes s) (omega arith) (omega arith))
      (λ a. bounded-then (bounded-each (length s / block_bytes) 0 (λ k i l. small 2 k (Row2 s k) (omega arith) (omega (arith, short (not-applied a)))))
      (λ b. bounded-then (small 3 0 (Row3 s) (omega arith) (omega arith))
      (λ c. bounded-then (small 4 0 (Row4 most_nodes s) (omega arith) (omega arith))
      (λ d. bounded-then (bounded-each (variable_count s) 0 (λ k i l. small 5 k (Row5 s k) (omega arith) (omega (arith, few (not-applied d)))))
      (λ e. bounded-then (bounded-each (node_count s) 0 (λ k i l. node-small k (omega (arith, most (not-applied d)))))
      (λ f. bounded-then (small 6 (goal_at s) (GoalSubtree s) (omega arith) (omega (arith, some-node (not-applied d), most (not-applied d))))
      (λ g. small 7 (goal_at s) (GoalType s) (omega arith) (omega (arith, some-node (not-applied d), most (not-applied d))))))))))

  pub refusal-small : {r : Refusal} → refusal_of most_nodes s ≡ some r → Small r.number r.place
  refusal-small e = bounded-answer sheet-small (sheet-exactly most_nodes s) e
