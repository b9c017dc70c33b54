-- What `accept` hands back: the sheet where it is accepted, else the refusal; and the nodes of an accepted sheet.
use Rattle.std.specs.Prelude.{ℕ, ◌<◌, ◌≡◌, List, Result, Ok, Err}
use Rattle.std.proofs.Math.Option.{none, some}
use Rattle.refusals.specs.declared.Refused.{Refused}
use Rattle.refusals.specs.Causes.{refusal_of as told}
use Rattle.layout.specs.Limits.{most_nodes}
use Rattle.layout.specs.Parts.{node_count}
use Rattle.reading.specs.Cascade.{refusal_of}

-- of the model: an accepted sheet is its bytes
abbrev pub Accepts : ℕ → List ℕ → Result (List ℕ) Refused → Type 0
Accepts limit s (Ok t) = (t ≡ s) × (refusal_of limit s ≡ none)
Accepts limit s (Err e) = refusal_of limit s ≡ some (told e)

-- the sheet is accepted, and n is one of its nodes
pub record AcceptedNode (s : List ℕ) (n : ℕ) : Type 0 where
  pub accepted : refusal_of most_nodes s ≡ none
  pub below : n < node_count s
