-- What `block` hands back (document 01, "Cases, first failure, tally"): a block's content, the very part of the sheet.
use Rattle.std.specs.Prelude.{ℕ, ◌*◌, ◌≡◌, List}
use Rattle.std.specs.Borrow.{Bor}
use Rattle.lists.specs.Part.{PartWhere}
use Rattle.layout.specs.Limits.{block_bytes, content_bytes}
use Rattle.layout.specs.Checks.{check_of, content, stored_check, Inside}

-- block k is wholly inside the bytes, and its check is right
abbrev pub BlockGiven : List ℕ → ℕ → Type 0
BlockGiven s k = Inside s k × (check_of k (content s k) ≡ stored_check s k)

-- the 510 content bytes of block k where it is given, else the empty part at the sheet's start
abbrev pub BlockPart : Bor (List ℕ) → ℕ → Bor (List ℕ) → Type 0
BlockPart sheet k part = PartWhere (BlockGiven sheet.now k) sheet part (block_bytes * k) content_bytes
