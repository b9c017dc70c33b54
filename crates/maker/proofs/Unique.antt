-- No second answer and no second room fits the statement of `make`. Assumes nothing.
use Prim.Native.Nat.{ℕ}
use mathlib.Core.Path.{◌≡◌}
use mathlib.Core.Logic.{⊎_elim}
use mathlib.Core.List.{List}
use Rattle.std.specs.Prelude.{Result}
use Rattle.refusals.specs.declared.Refused.{Refused}
use Rattle.room.proofs.WrittenLaws.{fills-once}
use Rattle.maker.specs.Makes.{Makes}
use Rattle.maker.proofs.Exact.{text-or-leaves}

pub make-once : {limit : ℕ} {text before x y : List ℕ} {r t : Result ℕ Refused} → Makes limit text before r x → Makes limit text before t y → (r ≡ t) × (x ≡ y)
make-once {text = text} h g =
    ⊎_elim (λ w. fills-once (h.said w.draft w.says) (g.said w.draft w.says)) (λ w. fills-once (h.off w.0 w.1) (g.off w.0 w.1)) (text-or-leaves text)
