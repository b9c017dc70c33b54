-- What the parts of a sheet are in every list of bytes. Assumes nothing.
use Prim.Native.Nat.{ℕ, ◌+◌, ◌<◌}
use mathlib.Core.Path.{◌≡◌, ap, ◌∙◌}
use mathlib.Core.List.{List}
use native.Mathlib.Nat.{zero-add}
use lib.ListN.{length, get_or}
use Rattle.lists.proofs.RunLaws.{length_from, get_or-from}
use Rattle.numbers.specs.Bytes.{Bytes}
use Rattle.numbers.proofs.Bytes16.{u16-lt}
use Rattle.meaning.specs.Rule.{no_variable}
use Rattle.layout.specs.Limits.{node_place}
use Rattle.layout.specs.Parts.{variable_count, variable_at, table, rule_in}

module _ (s : List ℕ) where
  -- a node's value has 16 bits
  pub words : Bytes s → (n : ℕ) → (table s n).value < 65536
  words b n = u16-lt s b (node_place n + 8)

  -- the rule lists as many variables as the sheet counts, each at its number
  pub variable-total : length (rule_in s).variables ≡ variable_count s
  variable-total = length_from (variable_at s) 0 (variable_count s)

  pub variable-is : (i : ℕ) → i < variable_count s → get_or (rule_in s).variables i no_variable ≡ variable_at s i
  variable-is i h = get_or-from (variable_at s) no_variable (variable_count s) 0 i h ∙ ap (variable_at s) (zero-add i)
