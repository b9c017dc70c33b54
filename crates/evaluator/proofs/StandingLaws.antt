-- What a standing row gives: each node's record lies in the sheet, and each node's number has 16 bits. Assumes nothing.
use Prim.Native.Nat.{ℕ, ◌+◌, ◌-◌, ◌≤◌, ◌<◌}
use mathlib.Core.Path.{◌≡◌, refl, sym, ◌∙◌}
use mathlib.Core.Bool.{Bool, true, false}
use mathlib.Core.List.{List}
use native.Mathlib.Omega.{arith}
use lib.IntN.{ℤ}
use lib.Signed.{le_z_yes}
use lib.ListN.{length, take}
use mir.Syntax.{w32}
use mir.Val.{to_z, of_z}
use mir.Facts.{to_z-of_z}
use Rattle.numbers.specs.Ranges.{Narrow}
use Rattle.numbers.proofs.NarrowLaws.{zero-narrow}
use Rattle.numbers.proofs.Fit.{narrow-fits}
use Rattle.meaning.specs.declared.Sort.{Sort}
use Rattle.meaning.specs.declared.Sort.TheVariants.{Truth as truth}
use Rattle.meaning.specs.Tree.{Tree}
use Rattle.meaning.specs.Value.{value}
use Rattle.meaning.specs.Rule.{value_in}
use Rattle.meaning.specs.Cases.{holds}
use Rattle.meaning.proofs.Row.{same-values}
use Rattle.layout.specs.Limits.{node_bytes, node_place, most_nodes}
use Rattle.layout.specs.Goal.{of_sort, tree_at}
use Rattle.layout.specs.Parts.{node_count, goal_at, variable_count, table, rule_in}
use Rattle.layout.proofs.GoalLaws.{operand-as, operand-from}
use Rattle.header.specs.Header.{Counted}
use Rattle.header.proofs.HeaderLaws.{node-inside}
use Rattle.findings.specs.declared.Finding.{Finding}
use Rattle.findings.specs.declared.Finding.TheVariants.{Truth, Integer}
use Rattle.findings.specs.Findings.{sort_of, finding_at}
use Rattle.nodes.proofs.LoopLaws.{finding-sort}
use Rattle.reading.proofs.RuleLaws.{accepted-counted, accepted-sound}
use Rattle.reading.proofs.Ranges.{in-16-bits}
use Rattle.evaluator.specs.Numbers.{bit, number_of, is_true}
use Rattle.evaluator.specs.Standing.{Standing}
use Rattle.evaluator.proofs.NumberLaws.{bit-true}

-- the number of node n, where the row gives the variables' values
abbrev pub number_at : List ℕ → List ℤ → ℕ → ℤ
number_at s numbers n = number_of (tree_at (table s) n).0 (value (value_in numbers) (tree_at (table s) n).1)

-- a number as a local of the code has it, by its 32 bits
abbrev pub word : ℤ → ℤ
word x = to_z w32 (of_z w32 x)

bit-narrow : (b : Bool) → Narrow (bit b)
bit-narrow true = record { low = le_z_yes tt; high = le_z_yes tt }
bit-narrow false = zero-narrow

module _ {s : List ℕ} {numbers : List ℤ} (ok : Standing s numbers) where
  pub counted : Counted most_nodes s
  counted = accepted-counted s ok.accepted

  pub record-inside : {n : ℕ} → n < node_count s → node_place n + node_bytes ≤ length s
  record-inside l = node-inside counted l

  -- the row gives each variable the same value as its case
  as-case : value_in numbers ≡ value_in (take (variable_count s) numbers)
  as-case = same-values (record { zeros = ok.zeros })

  -- a node's number by its finding: 0 or 1, or an integer of 16 bits
  by-finding : {n : ℕ} → n < node_count s → (f : Finding) → finding_at s n ≡ f → Narrow (number_of (sort_of f) (value (value_in (take (variable_count s) numbers)) (of_sort (sort_of f) (tree_at (table s) n))))
  by-finding {n} l Truth e = bit-narrow (value (value_in (take (variable_count s) numbers)) (of_sort truth (tree_at (table s) n)))
  by-finding l (Integer r) e = in-16-bits s ok.accepted ok.present l e

  number-narrow : {n : ℕ} → n < node_count s → Narrow (number_at s numbers n)
  number-narrow {n} l =
      operand-from (λ (a : Sort) (t : Tree a). Narrow (number_of a (value (value_in numbers) t))) (table s) n (sym (finding-sort s n)) (rw as-case (by-finding l (finding_at s n) refl))

  pub narrow : {n : ℕ} → n < node_count s → {x : ℤ} → x ≡ number_at s numbers n → Narrow x
  narrow l e = rw e (number-narrow l)

  pub word-is : {n : ℕ} → n < node_count s → {x : ℤ} → x ≡ number_at s numbers n → word x ≡ number_at s numbers n
  word-is l e = to_z-of_z (narrow-fits (narrow l e)) ∙ e

  goal-below : goal_at s < node_count s
  goal-below = omega (arith, counted.some-node)

  -- the number of the last of the m nodes stands for whether the rule holds in the row's case
  pub goal-holds : {m : ℕ} → m ≡ node_count s → {x : ℤ} → x ≡ number_at s numbers (m - 1) → is_true (word x) ≡ holds (rule_in s) (take (variable_count s) numbers)
  unfolding holds
  goal-holds em {x} ex =
      let goal = operand-as (λ (a : Sort) (t : Tree a). number_at s numbers (goal_at s) ≡ number_of a (value (value_in numbers) t)) (table s) (goal_at s) (accepted-sound s ok.accepted).goal refl in
      rw (word-is goal-below (rw em at ex), goal, ← as-case) (bit-true _)
