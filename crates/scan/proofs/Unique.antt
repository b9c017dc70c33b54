-- No second answer fits the statement of `scan`. Assumes nothing.
use Prim.Native.Nat.{ℕ}
use mathlib.Core.Path.{◌≡◌, refl, ap}
use mathlib.Core.List.{List}
use Rattle.std.specs.Prelude.{Result, Ok, Err}
use Rattle.grammar.proofs.BeginLaws.{no_member, one_place}
use Rattle.texts.specs.Texts.{Text}
use Rattle.scan.specs.Scanned.{ScanSays}

pub scan-once : (s : List ℕ) (r t : Result Unit ℕ) → ScanSays s r → ScanSays s t → r ≡ t
scan-once s (Ok _) (Ok _) h g = refl
scan-once s (Ok _) (Err p) h g = absurd (no_member Text g h)
scan-once s (Err p) (Ok _) h g = absurd (no_member Text h g)
scan-once s (Err p) (Err q) h g = ap Err (one_place Text h g)
