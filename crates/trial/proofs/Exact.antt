-- A refusal of a reply has a number, and a place below the most nodes or inside the reply. Assumes nothing.
use Prim.Native.Nat.{ℕ, suc, ◌≤◌, max}
use mathlib.Core.Path.{refl}
use mathlib.Core.List.{List}
use native.Mathlib.Omega.{arith}
use lib.ListN.{length}
use Rattle.std.specs.Prelude.{Err}
use Rattle.refusals.specs.declared.Refused.{Refused}
use Rattle.refusals.specs.Causes.{refusal_of as told_as}
use Rattle.layout.specs.Limits.{most_nodes}
use Rattle.layout.specs.Parts.{variable_count}
use Rattle.refusals.proofs.BoundLaws.{Bounded, bounded-row, bounded-then, bounded-each, bounded-answer}
use Rattle.reading.proofs.Exact.{sheet-exactly}
use Rattle.reading.proofs.Bounds.{sheet-small}
use Rattle.reading.proofs.RuleLaws.{accepted-inside}
use Rattle.trial.specs.Rows.{Row11, Row12, Row13, reply_rows}
use Rattle.trial.specs.Replies.{Replies}

-- what a refusal's number and place can be, for a reply of so many bytes
pub record Near (bytes number place : ℕ) : Type 0 where
  pub some_number : 1 ≤ number
  pub low-place : place ≤ max most_nodes bytes

module _ (s reply : List ℕ) where
  rows-near : Bounded (Near (length reply)) (reply_rows most_nodes s reply)
  rows-near =
      bounded-then (record { keeps = λ r a. record { some_number = ((sheet-small s).keeps r a).some_number; low-place = omega (arith, ((sheet-small s).keeps r a).low-place) } })
      (λ a. bounded-then (bounded-each (suc (length reply)) 0 (λ k i l. bounded-row 11 k (Row11 s reply k) (λ h. record { some_number = omega arith; low-place = omega arith })))
      (λ b. bounded-then (bounded-each (variable_count s) 0 (λ k i l. bounded-row 12 k (Row12 s reply k) (λ h. record { some_number = omega arith; low-place = omega (arith, (accepted-inside s ((sheet-exactly most_nodes s).passed.1 a)).1) })))
      (λ c. bounded-row 13 0 (Row13 s reply) (λ h. record { some_number = omega arith; low-place = omega arith }))))

pub reply-near : {s reply : List ℕ} {e : Refused} → Replies most_nodes s reply (Err e) → Near (length reply) (told_as e).number (told_as e).place
reply-near {s} {reply} h = bounded-answer (rows-near s reply) h.refusals refl
