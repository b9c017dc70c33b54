-- The promises on replies (document 02, item 1): one is accepted exactly where it spells a failing case, and such a case can be spelled; a variable's digits are its value, or an empty part. Assumes nothing.
use Prim.Native.Nat.{ℕ}
use mathlib.Core.Path.{◌≡◌, subst, ◌∙◌}
use mathlib.Core.Logic.{◌↔◌}
use mathlib.Core.List.{List, map}
use mathlib.Core.Option.{none}
use denote.Ref.{Bor}
use lib.IntN.{ℤ}
use lib.ListN.{length, take, drop}
use Rattle.std.specs.Prelude.{Ok}
use Rattle.lists.proofs.PartLaws.{empty-where}
use Rattle.numbers.specs.Bytes.{Bytes}
use Rattle.numbers.specs.Two.{dec}
use Rattle.numbers.proofs.Bytes16.{narrow_within}
use Rattle.meaning.specs.Rule.{value_in}
use Rattle.meaning.specs.Cases.{Failing}
use Rattle.layout.specs.Limits.{most_nodes}
use Rattle.layout.specs.Parts.{variable_count, rule_in}
use Rattle.layout.proofs.PartLaws.{variable-total}
use Rattle.reading.specs.Cascade.{refusal_of}
use Rattle.odometer.proofs.Domains.{case-narrow}
use Rattle.smtlib.specs.Tokens.{digit_value}
use Rattle.smtlib.specs.Terms.{number_of}
use Rattle.replies.specs.Says.{SpellsCase}
use Rattle.replies.proofs.Spelled.{spells-case}
use Rattle.digits.specs.Hashes.{digits_place, digits_size, digits_base}
use Rattle.digits.proofs.DigitLaws.{digits_number}
use Rattle.trial.specs.declared.Replied.TheVariants.{Fails}
use Rattle.trial.specs.Replies.{Replies}
use Rattle.trial.specs.Digits.{DigitsGiven, DigitsPart}
use Rattle.trial.proofs.Answers.{replies-failing}
use Rattle.trial.proofs.GivenLaws.{given_inside}

module _ (s reply : List ℕ) where
  -- of an accepted sheet
  pub accepted-spells : refusal_of most_nodes s ≡ none → Replies most_nodes s reply (Ok Fails) ↔ ((c : List ℤ) × Failing (rule_in s) c × SpellsCase (variable_count s) reply c)
  accepted-spells e = (λ h. (h.told.0, h.told.2, h.told.1), λ w. replies-failing s reply e w.2 w.1)

  -- a variable's digits, read as a number in two's complement, are its value
  pub digits_value : {i : ℕ} {c : List ℤ} → DigitsGiven most_nodes s reply i → SpellsCase (variable_count s) reply c →
      dec 16 (number_of (digits_base i reply) (map digit_value (take (digits_size i reply) (drop (digits_place i reply) reply)))) ≡ value_in c i
  digits_value {i} g x = digits_number x i g.1

-- a variable's digits are an empty part exactly where they aren't given
pub digits-empty : {s : List ℕ} {reply part : Bor (List ℕ)} {i : ℕ} → DigitsPart most_nodes s reply i part → (length part.now ≡ 0) ↔ (DigitsGiven most_nodes s reply.now i → ⊥)
digits-empty {s} {reply} {part} {i} p = empty-where (given_inside s reply.now i) p

-- each failing case of an accepted sheet is spelled by some reply, which is accepted
pub failing-spelled : (s : List ℕ) → Bytes s → refusal_of most_nodes s ≡ none → (c : List ℤ) → Failing (rule_in s) c → (reply : List ℕ) × SpellsCase (variable_count s) reply c × Replies most_nodes s reply (Ok Fails)
failing-spelled s b e c f =
    let w = spells-case c (λ i l. narrow_within (case-narrow s b f.0 i)) in
    let x : SpellsCase (variable_count s) w.0 c = subst (λ (n : ℕ). SpellsCase n w.0 c) (f.0.all ∙ variable-total s) w.1 in
    (w.0, x, replies-failing s w.0 e x f)
