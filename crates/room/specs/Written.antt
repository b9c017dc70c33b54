-- What a call that writes bytes answers, and what it leaves in the room: the bytes at the front, or a refusal and nothing changed.
use Rattle.std.specs.Prelude.{ℕ, ◌≡◌, List, length, Result, Ok, Err}
use Rattle.std.proofs.Math.Option.{Option, none, some}
use Rattle.refusals.specs.declared.Refusal.{Refusal}
use Rattle.refusals.specs.declared.Refused.{Refused}
use Rattle.refusals.specs.Causes.{refusal_of}
use Rattle.room.specs.Room.{over}

-- what an answer says: the refusal and 0, or none and the bytes written
abbrev pub written_said : Result ℕ Refused → Option Refusal × ℕ
written_said (Ok n) = (none, n)
written_said (Err e) = (some (refusal_of e), 0)

-- the answer where t is to be written, and the room afterwards: a refusal changes nothing
abbrev pub written_verdict : Option Refusal → List ℕ → Option Refusal × ℕ
written_verdict none t = (none, length t)
written_verdict (some r) t = (some r, 0)

abbrev pub written_room : Option Refusal → List ℕ → List ℕ → List ℕ
written_room none t room = over t room
written_room (some r) t room = room

-- such an answer, and such a room
pub record Fills (refusal : Option Refusal) (t before : List ℕ) (r : Result ℕ Refused) (after : List ℕ) : Type 0 where
  pub answer : written_said r ≡ written_verdict refusal t
  pub room : after ≡ written_room refusal t before
