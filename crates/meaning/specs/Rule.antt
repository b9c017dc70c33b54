-- A rule: a theorem over variables of integer types (RISCAL manual, B.2.3 for theorems, B.4 for the type Z[min,max]).
use Rattle.std.specs.Prelude.{◌≡◌, List, [], ℕ, ◌<◌, length, get_or, ℤ, pos}
use Rattle.numbers.specs.declared.Range.{Range}
use Rattle.numbers.specs.Ranges.{In, ◌⋯◌}
use Rattle.meaning.specs.declared.Sort.TheVariants.{Truth}
use Rattle.meaning.specs.Tree.{Tree}

-- a variable: its name, and its type Z[min,max] as a range
pub record Variable : Type 0 where
  pub name : List ℕ
  pub domain : Range

-- the theorem: for all values of the variables, the goal is true
pub record Rule : Type 0 where
  pub variables : List Variable
  pub goal : Tree Truth

-- a variable that no rule lists
abbrev pub no_variable : Variable
no_variable = record { name = []; domain = pos 0 ⋯ pos 0 }

-- variable i, and its domain; past the last variable 0..0
abbrev pub variable_of : Rule → ℕ → Variable
variable_of r i = get_or r.variables i no_variable

abbrev pub domain_of : Rule → ℕ → Range
domain_of r i = (variable_of r i).domain

-- a case: as many values as there are variables, each from the domain of its own
pub record Case (r : Rule) (c : List ℤ) : Type 0 where
  pub all : length c ≡ length r.variables
  pub each : (i : ℕ) → i < length c → In (domain_of r i) (get_or c i (pos 0))

-- what a case gives as variable i's value; past the last variable 0
abbrev pub value_in : List ℤ → ℕ → ℤ
value_in c i = get_or c i (pos 0)
