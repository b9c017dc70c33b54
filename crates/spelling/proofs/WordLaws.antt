-- The plain words of kinds: how long they can be. Assumes nothing.
use Prim.Native.Nat.{◌≤◌}
use mathlib.Core.Path.{refl}
use borrow.Author.Tests.{leb-true}
use lib.Dec.{leb}
use lib.ListN.{length}
use Rattle.kinds.specs.declared.Kind.{Kind}
use Rattle.kinds.specs.Kinds.{row}
use Rattle.kinds.proofs.KindLaws.{passes}
use Rattle.spelling.specs.Spelling.{longest_plain}

pub plain-short : (k : Kind) → length (row k).plain ≤ longest_plain
plain-short k = leb-true _ _ (passes (λ j. leb (length (row j).plain) longest_plain) refl k)
