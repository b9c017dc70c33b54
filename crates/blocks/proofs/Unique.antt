-- No second answer fits the statement of `block` or that of `read_blocks`. Assumes nothing.
use mathlib.Core.Path.{◌≡◌}
use mathlib.Core.List.{List}
use Prim.Native.Nat.{ℕ}
use denote.Ref.{Bor}
use Rattle.lists.specs.Part.{SamePart}
use Rattle.lists.proofs.Decided.{decided}
use Rattle.lists.proofs.PartLaws.{where-once}
use Rattle.std.specs.Prelude.{Result}
use Rattle.refusals.specs.declared.Refused.{Refused}
use Rattle.refusals.specs.Said.{said_of}
use Rattle.refusals.proofs.SaidLaws.{said-once}
use Rattle.layout.specs.Limits.{most_nodes}
use Rattle.blocks.specs.Block.{BlockPart}
use Rattle.blocks.specs.Early.{early}
use Rattle.blocks.proofs.BlockLaws.{given-decided}

pub block-once : (sheet : Bor (List ℕ)) (k : ℕ) (p q : Bor (List ℕ)) → BlockPart sheet k p → BlockPart sheet k q → SamePart p q
block-once sheet k p q h g = where-once (decided (given-decided sheet.now k)) h g

pub read-blocks-once : (s : List ℕ) (r t : Result Unit Refused) → said_of r ≡ early most_nodes s → said_of t ≡ early most_nodes s → r ≡ t
read-blocks-once s r t = said-once r t
