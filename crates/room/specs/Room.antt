-- A room with a text in it: the text, and before and behind it the room as it was.
use Rattle.std.specs.Prelude.{ℕ, ◌+◌, ◌≡◌, List, ◌++◌, length, take, drop}

-- the text at the room's front
unfoldable pub over : List ℕ → List ℕ → List ℕ
over t room = t ++ drop (length t) room

-- the text from place at on
unfoldable pub within : List ℕ → ℕ → List ℕ → List ℕ
within t at room = take at room ++ t ++ drop (at + length t) room

-- what a writer of the text t from place at on leaves: the place behind the text, and the text in the room
pub record Wrote (t before after : List ℕ) (at next : ℕ) : Type 0 where
  pub place : next ≡ at + length t
  pub room : after ≡ within t at before
