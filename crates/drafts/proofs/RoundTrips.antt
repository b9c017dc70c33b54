-- From an accepted sheet to its text and back. Assumes nothing.
use Prim.Native.Nat.{ℕ, ◌<◌}
use mathlib.Core.Path.{◌≡◌, sym, subst, ◌∙◌}
use mathlib.Core.List.{List}
use mathlib.Core.Option.{none}
use native.Mathlib.Omega.{arith}
use Rattle.numbers.specs.Bytes.{Bytes}
use Rattle.meaning.specs.Rule.{Variable}
use Rattle.layout.specs.Limits.{most_nodes}
use Rattle.layout.specs.Parts.{variable_count, variable_at, rule_in}
use Rattle.layout.proofs.PartLaws.{variable-total, variable-is}
use Rattle.reading.specs.Cascade.{refusal_of}
use Rattle.reading.proofs.RuleLaws.{rule-some, rule-to-sheet, rule-allowed}
use Rattle.texts.specs.Expressions.{draft_of, draft_sheet}
use Rattle.texts.specs.Plain.{text_of}
use Rattle.texts.specs.Texts.{Word, Says}
use Rattle.drafts.proofs.TreeLaws.{draft-sheet}
use Rattle.drafts.proofs.Saying.{draft-says}

module _ (s : List ℕ) (bytes : Bytes s) (e : refusal_of most_nodes s ≡ none) where
  -- the sheet of its rule's draft is the sheet itself
  pub sheet-text-sheet : draft_sheet (draft_of (rule_in s)) ≡ s
  sheet-text-sheet = draft-sheet (rule_in s) ∙ rule-to-sheet s bytes (rule_in s) (rule-some s e)

  -- and the rule's text says that draft, where the names avoid the words
  pub sheet-says : ((i : ℕ) → i < variable_count s → Word (variable_at s i).name → ⊥) → Says (text_of (rule_in s)) (draft_of (rule_in s))
  sheet-says avoid =
      draft-says (rule_in s) (rule-allowed s bytes (rule_in s) (rule-some s e))
      (λ i l. let h : i < variable_count s = omega (arith, variable-total s) in subst (λ (v : Variable). Word v.name → ⊥) (sym (variable-is s i h)) (avoid i h))
