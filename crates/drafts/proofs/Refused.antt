-- The sheet of a draft that keeps the limits is laid out right and has its nodes in order: it is refused for a variable, a type or a range alone. Assumes nothing.
use Prim.Native.Nat.{ℕ, ◌<◌}
use mathlib.Core.Path.{◌≡◌}
use mathlib.Core.List.{List, []}
use mathlib.Core.Option.{Option, none, some}
use native.Mathlib.Nat.{zero-add}
use native.Mathlib.Omega.{arith}
use borrow.Author.Tests.{eq-eqb}
use lib.ListN.{length}
use Rattle.lists.specs.First.{◌otherwise◌}
use Rattle.refusals.specs.declared.Refusal.{Refusal}
use Rattle.refusals.specs.Rows.{Row, row, ◌then◌, each_of, Exactly}
use Rattle.refusals.proofs.SaidLaws.{unless-true}
use Rattle.refusals.proofs.RowLaws.{exactly-unless, exactly-then, exactly-each}
use Rattle.refusals.proofs.BoundLaws.{Bounded, bounded-row, bounded-then, bounded-each, bounded-answer}
use Rattle.meaning.specs.declared.Sort.TheVariants.{Truth}
use Rattle.kinds.specs.declared.Kind.{Kind}
use Rattle.layout.specs.Limits.{most_nodes}
use Rattle.layout.specs.Starts.{start_at, sort_at}
use Rattle.layout.specs.Parts.{node_count, goal_at, variable_count, table}
use Rattle.layout.specs.LaidOut.{Placed}
use Rattle.layout.proofs.SheetBack.{Framed}
use Rattle.blocks.specs.Early.{early}
use Rattle.blocks.proofs.EarlyLaws.{none-early, length-right}
use Rattle.header.specs.Header.{header}
use Rattle.header.proofs.HeaderLaws.{none-of-right}
use Rattle.order.proofs.OrderLaws.{placed-true}
use Rattle.findings.specs.Findings.{finding_at, FindingFits}
use Rattle.findings.proofs.FindingLaws.{fits-of, fits-true, decides-same}
use Rattle.nodes.specs.Nodes.{node_refusal, nodes}
use Rattle.reading.specs.Rows.{Row5, Row7, GoalType}
use Rattle.reading.specs.Cascade.{refusal_of}
use Rattle.reading.proofs.SheetRows.{variables-rows}
use Rattle.reading.proofs.NodeRows.{typed-decided}
use Rattle.texts.specs.Expressions.{bare, expression_step, records_of, Draft, draft_sheet}
use Rattle.drafts.proofs.FoundLaws.{Back, expression-back}
use Rattle.drafts.proofs.Accepted.{Roomy, goal-shaped, draft-shows}

-- ---- tables, where nothing is answered before
nothing : {o : Option Refusal} → o ≡ none → Exactly [] o
nothing e = record {
  refused = λ r. (λ q. absurd (let z : ◌≡◌ {A = ℕ} 0 1 = cc (e, q) in omega arith), λ a. absurd a.applies);
  passed = (λ q rank r a. a, λ h. e);
}

behind : {ys : List Row} {o q : Option Refusal} → o ≡ none → Exactly ys q → Exactly ys (o otherwise q)
behind e x = exactly-then (nothing e) (λ d. x)

-- ---- a sheet
module _ (s : List ℕ) where
  -- what its nodes and its goal are refused for, where they are in order
  abbrev node_rows : ℕ → List Row
  node_rows n = row 7 n (Row7 s n) then row 8 n (FindingFits (finding_at s n) → ⊥)

  abbrev pub ordered_rows : List Row
  ordered_rows = each_of (λ i. row 5 i (Row5 s i)) 0 (variable_count s) then each_of node_rows 0 (node_count s) then row 7 (goal_at s) (GoalType s)

  module _ (f : Framed s) (some-node : 0 < node_count s) (placed : (n : ℕ) → n < node_count s → Placed (table s) (variable_count s) n) (whole : start_at (table s) (goal_at s) ≡ 0) where
    early-none : early most_nodes s ≡ none
    early-none =
        let z = f.size in
        none-early most_nodes s (length-right most_nodes (length s) (λ d. omega arith) (omega arith) (omega (arith, f.most))) (λ k h. f.checks k (omega arith))

    header-none : header most_nodes s ≡ none
    header-none = none-of-right most_nodes s (record { edition = f.first-edition; some-node = some-node; most = f.most; few = f.few; size = f.size; gap = f.gap; tail = f.tail; tails = f.tails })

    node-rows : (n : ℕ) → n < node_count s → Exactly (node_rows n) (node_refusal s n)
    unfolding node_refusal
    node-rows n l =
        behind (unless-true 6 n (placed-true (placed n l)))
        (exactly-then (exactly-unless 7 n (typed-decided (table s) n)) (λ d. exactly-unless 8 n (fits-of (finding_at s n), fits-true (finding_at s n))))

    nodes-rows : Exactly (each_of node_rows 0 (node_count s) then row 7 (goal_at s) (GoalType s)) (nodes s)
    unfolding nodes
    nodes-rows =
        exactly-then (exactly-each (node_count s) 0 (λ n l h w. node-rows n (rw zero-add at h)))
        (λ d. behind (unless-true 6 (goal_at s) (eq-eqb _ 0 whole)) (exactly-unless 7 (goal_at s) (decides-same (sort_at (table s) (goal_at s)) Truth)))

    pub ordered-rows : Exactly ordered_rows (refusal_of most_nodes s)
    unfolding refusal_of
    ordered-rows = behind early-none (behind header-none (exactly-then (variables-rows s) (λ d. nodes-rows)))

-- ---- a draft
pub data Faulty (d : Draft) : ℕ → ℕ → Type 0 where
  variable : (i : ℕ) → i < length d.variables → Faulty d 5 i
  type : (n : ℕ) → n < length (records_of d.goal 0) → Faulty d 7 n
  range : (n : ℕ) → n < length (records_of d.goal 0) → Faulty d 8 n

module _ (d : Draft) (w : Roomy d) where
  abbrev s : List ℕ
  s = draft_sheet d

  abbrev N : ℕ
  N = length (records_of d.goal 0)

  back : Back expression_step (bare Kind.Unknown) (table s) (length d.variables) 0 N d.goal
  back = expression-back expression_step (bare Kind.Unknown) (table s) (length d.variables) d.goal 0 N (goal-shaped d w) (draft-shows d w).nodes

  pub draft-rows : Exactly (ordered_rows s) (refusal_of most_nodes s)
  draft-rows =
      let h = draft-shows d w in
      ordered-rows s h.frame (rw h.node-count back.more) (rw (h.node-count, h.variable-count) (λ n l. (back.good n (omega arith) l).placed)) (rw h.node-count back.start)

  bounded : Bounded (Faulty d) (ordered_rows s)
  bounded =
      let v = (draft-shows d w).variable-count in
      let n = (draft-shows d w).node-count in
      let m = back.more in
      bounded-then (bounded-each (variable_count s) 0 (λ i l h. bounded-row 5 i (Row5 s i) (λ c. variable i (omega arith))))
      (λ a. bounded-then (bounded-each (node_count s) 0 (λ i l h. bounded-then (bounded-row 7 i (Row7 s i) (λ c. type i (omega arith))) (λ b. bounded-row 8 i (FindingFits (finding_at s i) → ⊥) (λ c. range i (omega arith)))))
      (λ b. bounded-row 7 (goal_at s) (GoalType s) (λ c. type (goal_at s) (omega arith))))

  -- its sheet is refused as 5 at a variable, or as 7 or 8 at a node
  pub refused-draft : {r : Refusal} → refusal_of most_nodes (draft_sheet d) ≡ some r → Faulty d r.number r.place
  refused-draft e = bounded-answer bounded draft-rows e
