-- In every case of an accepted sheet every integer node's value lies in its range, hence in 16 bits. Assumes nothing.
use Prim.Native.Nat.{ℕ, ◌<◌}
use mathlib.Core.Path.{◌≡◌, sym, ap, ◌∙◌}
use mathlib.Core.List.{List}
use mathlib.Core.Option.{none}
use lib.IntN.{ℤ}
use Rattle.numbers.specs.declared.Range.{Range}
use Rattle.numbers.specs.Ranges.{Narrow, In}
use Rattle.numbers.proofs.NarrowLaws.{in-narrow}
use Rattle.meaning.specs.declared.Sort.{Sort}
use Rattle.meaning.specs.declared.Sort.TheVariants.{Integer as integer}
use Rattle.meaning.specs.Tree.{Tree}
use Rattle.meaning.specs.Value.{value}
use Rattle.meaning.specs.Rule.{domain_of, Case, value_in}
use Rattle.meaning.proofs.Listed.{in-every}
use Rattle.layout.specs.Limits.{most_nodes}
use Rattle.layout.specs.Starts.{sort_at}
use Rattle.layout.specs.Goal.{of_sort, tree_at}
use Rattle.layout.specs.Parts.{node_count, table, rule_in}
use Rattle.layout.specs.Fold.{of_tree}
use Rattle.layout.proofs.GoalLaws.{operand-as}
use Rattle.findings.specs.declared.Finding.TheVariants.{Integer}
use Rattle.findings.specs.Findings.{sort_of, finding_of, finding_at}
use Rattle.findings.proofs.FindingLaws.{range-fits}
use Rattle.findings.proofs.SoundFindings.{found_in}
use Rattle.nodes.proofs.LoopLaws.{finding-sort}
use Rattle.reading.specs.Cascade.{refusal_of}
use Rattle.reading.proofs.RuleLaws.{accepted-sound, accepted-fits, finding-is}

module _ (s : List ℕ) (e : refusal_of most_nodes s ≡ none) {c : List ℤ} (h : Case (rule_in s) c) {n : ℕ} (l : n < node_count s) {r : Range} (f : finding_at s n ≡ Integer r) where
  -- the value of node n, an integer, in the case
  abbrev pub node_value : ℤ
  node_value = value (value_in c) (of_sort integer (tree_at (table s) n))

  pub in-range : In r node_value
  in-range =
      let sort : sort_at (table s) n ≡ integer = sym (finding-sort s n) ∙ ap sort_of f in
      let found : of_tree (finding_of (domain_of (rule_in s))) (tree_at (table s) n).1 ≡ Integer r = sym (finding-is s (accepted-sound s e) n l) ∙ f in
      found_in (in-every h) (of_sort integer (tree_at (table s) n)) (operand-as (λ (a : Sort) (t : Tree a). of_tree (finding_of (domain_of (rule_in s))) t ≡ Integer r) (table s) n sort found)

  pub in-16-bits : Narrow node_value
  in-16-bits = in-narrow (range-fits f (accepted-fits s e n l)) in-range
