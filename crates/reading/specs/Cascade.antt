-- The refusal of a sheet, worked out in document 01's order; and the rule that an accepted sheet holds. `limit` is the most nodes that a sheet may have.
use Rattle.std.specs.Prelude.{ℕ, List}
use Rattle.std.proofs.Math.Option.{Option, none, some}
use Rattle.lists.specs.First.{◌otherwise◌}
use Rattle.refusals.specs.declared.Refusal.{Refusal}
use Rattle.meaning.specs.Rule.{Rule}
use Rattle.layout.specs.Parts.{rule_in}
use Rattle.blocks.specs.Early.{early}
use Rattle.header.specs.Header.{header}
use Rattle.records.specs.Variables.{variables}
use Rattle.nodes.specs.Nodes.{nodes}

unfoldable pub refusal_of : ℕ → List ℕ → Option Refusal
refusal_of limit s = early limit s otherwise header limit s otherwise variables s otherwise nodes s

-- the rule of a sheet that is not refused
unfoldable pub rule_of : ℕ → List ℕ → Option Rule
rule_of limit s = elim (refusal_of limit s) [ none ↦ some (rule_in s) | some r ↦ none ]
