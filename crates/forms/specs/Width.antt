-- The rules that a number of bits holds: in no case does an operator leave that width.
use Rattle.std.specs.Prelude.{List, ℕ, ◌<◌, length, ℤ}
use Rattle.numbers.specs.Two.{Within}
use Rattle.meaning.specs.declared.Sort.TheVariants.{Integer}
use Rattle.meaning.specs.Tree.{Tree, const, var}
use Rattle.meaning.specs.Value.{value}
use Rattle.meaning.specs.Rule.{Rule, domain_of, Case, value_in}
use Rattle.kinds.specs.Rows.{PartOf}

-- its domains' ends and its goal's constants are integers of w bits; its goal names no variables but the rule's, and in every case each integer in it is one
-- of w bits
pub record WidthHolds (w : ℕ) (r : Rule) : Type 0 where
  pub low : (i : ℕ) → i < length r.variables → Within w (domain_of r i).low
  pub high : (i : ℕ) → i < length r.variables → Within w (domain_of r i).high
  pub constants : (z : ℤ) → PartOf (const z) r.goal → Within w z
  pub variables : (i : ℕ) → PartOf (var i) r.goal → i < length r.variables
  pub values : (c : List ℤ) → Case r c → (t : Tree Integer) → PartOf t r.goal → Within w (value (value_in c) t)
