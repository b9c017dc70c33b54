-- No second answer and no second room fits the statement of `write_script`. Assumes nothing.
use Prim.Native.Nat.{ℕ}
use mathlib.Core.Path.{◌≡◌, sym, ◌∙◌}
use mathlib.Core.List.{List}
use Rattle.layout.specs.Limits.{most_nodes}
use Rattle.wording.specs.Form.{Form}
use Rattle.std.specs.Prelude.{Result}
use Rattle.refusals.specs.declared.Refused.{Refused}
use Rattle.room.proofs.WrittenLaws.{written-injective}
use Rattle.writer.specs.Writes.{Writes}

pub write-once : {f : Form} {s before x y : List ℕ} {r t : Result ℕ Refused} → Writes most_nodes f s before r x → Writes most_nodes f s before t y → (r ≡ t) × (x ≡ y)
write-once {f} {s} {before} {x} {y} {r} {t} h g = (written-injective r t (h.answer ∙ sym g.answer), h.room ∙ sym g.room)
