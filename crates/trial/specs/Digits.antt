-- What `digits` gives (document 02, item 1): a variable's digits alone, as the very part of the lent reply.
use Rattle.std.specs.Prelude.{ℕ, ◌<◌, ◌≡◌, List, Ok}
use Rattle.std.specs.Borrow.{Bor}
use Rattle.lists.specs.Part.{PartWhere}
use Rattle.layout.specs.Parts.{variable_count}
use Rattle.digits.specs.Hashes.{digits_place, digits_size}
use Rattle.trial.specs.declared.Replied.TheVariants.{Fails}
use Rattle.trial.specs.Replies.{Replies}

-- `sat` is accepted, and the variable is listed
abbrev pub DigitsGiven : ℕ → List ℕ → List ℕ → ℕ → Type 0
DigitsGiven limit s reply i = Replies limit s reply (Ok Fails) × (i < variable_count s)

-- an empty part unless they are given
abbrev pub DigitsPart : ℕ → List ℕ → Bor (List ℕ) → ℕ → Bor (List ℕ) → Type 0
DigitsPart limit s reply i part = PartWhere (DigitsGiven limit s reply.now i) reply part (digits_place i reply.now) (digits_size i reply.now)

-- the same as two numbers: where the part starts and how long it is, both 0 where nothing is given
pub record DigitsSpan (limit : ℕ) (s reply : List ℕ) (i start size : ℕ) : Type 0 where
  pub given : DigitsGiven limit s reply i → (start ≡ digits_place i reply) × (size ≡ digits_size i reply)
  pub absent : (DigitsGiven limit s reply i → ⊥) → (start ≡ 0) × (size ≡ 0)
