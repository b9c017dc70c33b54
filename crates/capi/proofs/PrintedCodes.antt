-- The number that `print` gives in C tells its answer. Assumes nothing.
use Prim.Native.Nat.{ℕ, ◌^◌, ◌≤◌, ◌<◌}
use mathlib.Core.Path.{◌≡◌, ap, ◌∙◌}
use mathlib.Core.List.{List}
use mathlib.Core.Option.{none, some}
use native.Mathlib.Omega.{arith}
use lib.ListN.{length}
use Rattle.std.specs.Prelude.{Result}
use Rattle.refusals.specs.declared.Refused.{Refused}
use Rattle.lists.proofs.FirstLaws.{neither}
use Rattle.refusals.specs.declared.Refusal.{Refusal}
use Rattle.refusals.specs.Rows.{NoneApplies}
use Rattle.refusals.proofs.BoundLaws.{Bounded, bounded-row, bounded-then, bounded-each, bounded-as, bounded-answer}
use Rattle.layout.specs.Limits.{most_variables, most_nodes}
use Rattle.layout.specs.Parts.{variable_count, rule_in}
use Rattle.reading.specs.Rows.{sheet_rows}
use Rattle.reading.specs.Cascade.{refusal_of}
use Rattle.reading.proofs.Exact.{sheet-exactly}
use Rattle.reading.proofs.Bounds.{sheet-small}
use Rattle.reading.proofs.RuleLaws.{accepted-counted}
use Rattle.cases.specs.Tallies.{unless_refused}
use Rattle.texts.specs.Plain.{text_of}
use Rattle.printer.specs.Rows.{Row19, Row9, text_rows}
use Rattle.printer.specs.Prints.{text_refusal, longest_text, Prints}
use Rattle.printer.proofs.Exact.{text-exactly}
use Rattle.printer.proofs.Short.{text-short}
use Rattle.capi.specs.Codes.{code_said, written_code, TextCodes}
use Rattle.capi.proofs.CodeLaws.{code-tells}
use Rattle.capi.proofs.WrittenCodes.{code-decided}

-- a place is a block, a variable or a node, or the bytes that a text needs
record Low (number place : ℕ) : Type 0 where
  some_number : 1 ≤ number
  low-place : place ≤ longest_text

module _ (s : List ℕ) (room : ℕ) where
  few : NoneApplies (sheet_rows most_nodes s) → variable_count s ≤ most_variables
  few a = (accepted-counted s ((sheet-exactly most_nodes s).passed.1 a)).few

  rows-small : Bounded Low (text_rows most_nodes s room)
  rows-small =
      bounded-then (bounded-as (λ n p h. record { some_number = h.some_number; low-place = omega (arith, h.low-place) }) (sheet-small s))
      (λ a. bounded-then (bounded-each (variable_count s) 0 (λ i l h. bounded-row 19 i (Row19 s i) (λ c. record { some_number = omega arith; low-place = omega (arith, few a) })))
      (λ b. bounded-row 9 (length (text_of (rule_in s))) (Row9 s room) (λ c. record { some_number = omega arith; low-place = text-short s ((sheet-exactly most_nodes s).passed.1 a) })))

  text-small : {r : Refusal} → text_refusal most_nodes s room ≡ some r → Low r.number r.place
  text-small e = bounded-answer rows-small (text-exactly most_nodes s room) e

-- the refusal, or the bytes written
pub text-tells : (s : List ℕ) {before after : List ℕ} {r : ℕ} → TextCodes most_nodes s before r after → code_said r ≡ (text_refusal most_nodes s (length before), unless_refused (text_refusal most_nodes s (length before)) (length (text_of (rule_in s))))
unfolding text_refusal
text-tells s {before} c = ap code_said c.code ∙ code-tells (text_refusal most_nodes s (length before)) (length (text_of (rule_in s))) small answered
  where
    small : (r : Refusal) → text_refusal most_nodes s (length before) ≡ some r → (1 ≤ r.number) × (r.place < 2 ^ 48)
    small r e = let b = text-small s (length before) e in (b.some_number, omega (arith, b.low-place))

    answered : text_refusal most_nodes s (length before) ≡ none → length (text_of (rule_in s)) < 2 ^ 48
    answered e = omega (arith, text-short s (neither (refusal_of most_nodes s) _ e).0)

pub text-code : {s before after : List ℕ} {a : Result ℕ Refused} {n : ℕ} → Prints most_nodes s before a after → n ≡ written_code a → TextCodes most_nodes s before n after
text-code {s} {before} {after} {a} h e = record { code = e ∙ code-decided a (text_refusal most_nodes s (length before)) (text_of (rule_in s)) h.answer (λ r d. omega (arith, (text-small s (length before) d).low-place)); room = h.room }
