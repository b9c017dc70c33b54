-- What document 01 asks of a rule itself, beyond what the layout can write: names, domains and ranges.
use Rattle.std.specs.Prelude.{ℕ, ◌<◌, ◌≡◌, length, ◌≤ℤ◌}
use Rattle.meaning.specs.declared.Sort.{Sort}
use Rattle.meaning.specs.Tree.{Tree}
use Rattle.meaning.specs.Rule.{Rule, variable_of, domain_of}
use Rattle.kinds.specs.Rows.{PartOf}
use Rattle.layout.specs.Fold.{of_tree}
use Rattle.layout.specs.WellFormed.{WellFormed}
use Rattle.records.specs.Names.{Name}
use Rattle.findings.specs.Findings.{finding_of, FindingFits}

-- what a tree is found to be lies in -32,768..32,767, where it is an integer
abbrev pub FitsIn : Rule → (s : Sort) → Tree s → Type 0
FitsIn r s t = FindingFits (of_tree (finding_of (domain_of r)) t)

pub record Lawful (r : Rule) : Type 0 where
  pub names : (i : ℕ) → i < length r.variables → Name (variable_of r i).name
  pub distinct : (i j : ℕ) → i < j → j < length r.variables → (variable_of r i).name ≡ (variable_of r j).name → ⊥
  pub domains : (i : ℕ) → i < length r.variables → (variable_of r i).domain.low ≤ℤ (variable_of r i).domain.high
  pub ranges : (s : Sort) (u : Tree s) → PartOf u r.goal → FitsIn r s u

-- a rule that document 01 allows
pub record Allowed (r : Rule) : Type 0 where
  pub well-formed : WellFormed r
  pub lawful : Lawful r
