-- The writer refuses a sheet exactly as its table of rows says, and a refusal's number and place are small. Assumes nothing.
use Prim.Native.Nat.{ℕ, ◌≤◌}
use mathlib.Core.Path.{◌≡◌}
use mathlib.Core.Bool.{Bool}
use mathlib.Core.List.{List}
use mathlib.Core.Option.{some}
use native.Mathlib.Omega.{arith}
use lib.ListN.{length}
use Rattle.layout.specs.Parts.{rule_in}
use Rattle.refusals.specs.declared.Refusal.{Refusal}
use Rattle.refusals.specs.Rows.{Exactly}
use Rattle.refusals.proofs.RowLaws.{exactly-most, exactly-then}
use Rattle.refusals.proofs.BoundLaws.{Bounded, bounded-row, bounded-then, bounded-as, bounded-answer}
use Rattle.layout.specs.Limits.{most_nodes}
use Rattle.reading.proofs.Exact.{sheet-exactly}
use Rattle.reading.proofs.Bounds.{sheet-small}
use Rattle.wording.specs.Form.{Form, sixteen}
use Rattle.wording.specs.Script.{script}
use Rattle.writer.specs.Writes.{script_refusal, enough_room}
use Rattle.writer.specs.Rows.{Row9, script_rows}
use Rattle.writer.proofs.ScriptLaws.{script-short}

-- a place is a block, a record or a node, or the bytes that a script needs
pub record Low (number place : ℕ) : Type 0 where
  pub some_number : 1 ≤ number
  pub low-place : place ≤ enough_room

-- in any form, at any limit of nodes
pub script-exactly : (limit : ℕ) (f : Form) (s : List ℕ) (room : ℕ) → Exactly (script_rows limit f s room) (script_refusal limit f s room)
unfolding script_refusal
script-exactly limit f s room = exactly-then (sheet-exactly limit s) (λ e. exactly-most (length (script f (rule_in s))) room 9 (length (script f (rule_in s))))

-- at 16 bits, with models or without
module _ (models : Bool) (s : List ℕ) (room : ℕ) where
  rows-small : Bounded Low (script_rows most_nodes (sixteen models) s room)
  rows-small =
      bounded-then (bounded-as (λ n p h. record { some_number = h.some_number; low-place = omega arith }) (sheet-small s))
      (λ a. bounded-row 9 (length (script (sixteen models) (rule_in s))) (Row9 (sixteen models) s room) (λ h. record { some_number = omega arith; low-place = script-short models s ((sheet-exactly most_nodes s).passed.1 a) }))

  pub script-small : {r : Refusal} → script_refusal most_nodes (sixteen models) s room ≡ some r → Low r.number r.place
  script-small e = bounded-answer rows-small (script-exactly most_nodes (sixteen models) s room) e
