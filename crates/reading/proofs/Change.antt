-- One byte altered in an accepted sheet: the answer is 2 at its block. Assumes nothing.
use Prim.Native.Nat.{ℕ, ◌/◌, ◌<◌}
use mathlib.Core.Path.{◌≡◌}
use mathlib.Core.List.{List}
use mathlib.Core.Option.{none, some}
use lib.ListN.{length, set}
use Rattle.lists.proofs.FirstLaws.{neither, otherwise-some}
use Rattle.numbers.specs.Bytes.{byte_at, Bytes}
use Rattle.layout.specs.Limits.{block_bytes, most_nodes}
use Rattle.blocks.specs.Early.{early}
use Rattle.blocks.proofs.Change.{one_byte}
use Rattle.reading.specs.Cascade.{refusal_of}

pub changed-byte : (s : List ℕ) → Bytes s → refusal_of most_nodes s ≡ none → (j b : ℕ) → j < length s → b < 256 → (b ≡ byte_at s j → ⊥) → refusal_of most_nodes (set s j b) ≡ some (record { number = 2; place = j / block_bytes })
unfolding refusal_of
changed-byte s bytes e j b h l d = otherwise-some _ (one_byte s bytes (neither (early most_nodes s) _ e).0 j b h l d)
