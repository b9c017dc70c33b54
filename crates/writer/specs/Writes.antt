-- What `write_script` answers and what it leaves in the room, in any form (document 01, "The script" and refusal 9; document 02, item 1).
use Rattle.std.specs.Prelude.{ℕ, ◌≡◌, List, leb, length, Result}
use Rattle.std.proofs.Math.Option.{Option}
use Rattle.lists.specs.First.{◌otherwise◌}
use Rattle.refusals.specs.declared.Refusal.{Refusal}
use Rattle.layout.specs.Parts.{rule_in}
use Rattle.refusals.specs.Said.{unless}
use Rattle.reading.specs.Cascade.{refusal_of}
use Rattle.wording.specs.Form.{Form}
use Rattle.wording.specs.Script.{script}
use Rattle.refusals.specs.declared.Refused.{Refused}
use Rattle.room.specs.Written.{written_said, written_verdict, written_room}

-- the sheet's own refusal, then 9 at the script's bytes: a room of fewer bytes
unfoldable pub script_refusal : ℕ → Form → List ℕ → ℕ → Option Refusal
script_refusal limit f s room = refusal_of limit s otherwise unless (leb (length (script f (rule_in s))) room) 9 (length (script f (rule_in s)))

-- a room of so many bytes is enough for both scripts of every accepted sheet (document 02, item 3)
abbrev pub enough_room : ℕ
enough_room = 20480

pub record Writes (limit : ℕ) (f : Form) (s before : List ℕ) (r : Result ℕ Refused) (after : List ℕ) : Type 0 where
  pub answer : written_said r ≡ written_verdict (script_refusal limit f s (length before)) (script f (rule_in s))
  pub room : after ≡ written_room (script_refusal limit f s (length before)) (script f (rule_in s)) before
