-- Some script is longer than 4,096 bytes: that of a goal under many negations. Assumes nothing.
use Prim.Native.Nat.{ℕ, zero, suc, ◌+◌, ◌*◌, ◌≤◌, ◌<◌}
use mathlib.Core.Path.{◌≡◌, refl}
use mathlib.Core.Bool.{Bool, true, false}
use mathlib.Core.List.{List, []}
use native.Mathlib.Omega.{arith}
use lib.ListN.{length, length-append}
use Rattle.meaning.specs.declared.Sort.{Sort}
use Rattle.meaning.specs.declared.Sort.TheVariants.{Truth, Integer}
use Rattle.meaning.specs.Tree.{Tree, tru, neg}
use Rattle.meaning.specs.Rule.{Rule}
use Rattle.kinds.specs.declared.Kind.TheVariants as Kind
use Rattle.kinds.specs.Rows.{PartOf}
use Rattle.kinds.proofs.ClaimLaws.{Throughout, throughout-make, throughout-parts}
use Rattle.layout.specs.Limits.{most_nodes}
use Rattle.layout.specs.Fold.{of_tree}
use Rattle.layout.specs.Nodes.{nodes_of}
use Rattle.layout.specs.Sheet.{sheet_of}
use Rattle.layout.specs.Parts.{rule_in}
use Rattle.findings.specs.Findings.{finding_of}
use Rattle.reading.specs.Lawful.{FitsIn, Allowed}
use Rattle.wording.specs.Form.{sixteen}
use Rattle.wording.specs.Text.{text}
use Rattle.wording.specs.Sixteen.{literal, symbol_text}
use Rattle.wording.specs.Script.{script}
use Rattle.agreement.specs.Statements.{Sheet}
use Rattle.agreement.specs.Raised as promise
use Rattle.agreement.proofs.Proved.{rule-of-sheet}

-- `true` under n negations, and the rule that claims it
unfoldable nots : ℕ → Tree Truth
nots zero = tru
nots (suc n) = neg (nots n)

abbrev denied_rule : ℕ → Rule
denied_rule n = record { variables = []; goal = nots n }

-- what holds of each such tree holds of every part of one
throughout : (Q : (s : Sort) → Tree s → Type 0) → ((n : ℕ) → Q Truth (nots n)) → (n : ℕ) → Throughout Q (nots n)
unfolding nots
throughout Q q zero = rw (throughout-make Q Kind.True tt tt) (q zero, tt)
throughout Q q (suc n) = rw (throughout-make Q Kind.Not tt (nots n)) (q (suc n), throughout Q q n)

each_part : (Q : (s : Sort) → Tree s → Type 0) → ((n : ℕ) → Q Truth (nots n)) → (n : ℕ) → (s : Sort) (u : Tree s) → PartOf u (nots n) → Q s u
each_part Q q n = (throughout-parts Q (nots n)).0 (throughout Q q n)

-- so there is no integer in it
abbrev IsTruth : Sort → Type 0
IsTruth Truth = Unit {0}
IsTruth Integer = ⊥

no-integer : (n : ℕ) (u : Tree Integer) → PartOf u (nots n) → ⊥
no-integer n = each_part (λ s u. IsTruth s) (λ k. tt) n Integer

node-count : (n i : ℕ) → length (nodes_of i (nots n)) ≡ suc n
unfolding nots of_tree
node-count zero i = refl
node-count (suc n) i = simp length-append (omega (arith, node-count n i))

fits : (r : Rule) (n : ℕ) → FitsIn r Truth (nots n)
unfolding nots of_tree finding_of
fits r zero = tt
fits r (suc n) = tt

allowed-denied : (n : ℕ) → n < most_nodes → Allowed (denied_rule n)
allowed-denied n l = record {
  well-formed = record {
    few = omega arith;
    most = omega (arith, node-count n 0);
    variables = λ j h. absurd (omega (arith, h));
    goal = record { constants = λ z p. absurd (no-integer n _ p); variables = λ i p. absurd (no-integer n _ p) };
  };
  lawful = record {
    names = λ i h. absurd (omega (arith, h));
    distinct = λ i j h g e. omega (arith, g);
    domains = λ i h. absurd (omega (arith, h));
    ranges = each_part (FitsIn (denied_rule n)) (fits (denied_rule n)) n;
  };
}

text-length : (n : ℕ) → length (text literal symbol_text (nots n)) ≡ 6 * n + 4
unfolding nots of_tree
text-length zero = refl
text-length (suc n) = simp length-append (omega (arith, text-length n))

script-longer : (models : Bool) (n : ℕ) → length (text literal symbol_text (nots n)) ≤ length (script (sixteen models) (denied_rule n))
unfolding script of_tree
script-longer true n = simp length-append (omega arith)
script-longer false n = simp length-append (omega arith)

pub long-script : promise.LongScript
long-script models = go 1000 (omega arith) (omega arith)
  where
    go : (n : ℕ) → n < most_nodes → 4096 < 6 * n → (s : List ℕ) × Sheet s × (4096 < length (script (sixteen models) (rule_in s)))
    go n l g =
        let w = rule-of-sheet (denied_rule n) (allowed-denied n l) in
        (sheet_of (denied_rule n), w.0, rw w.1 (omega (arith, text-length n, script-longer models n)))
