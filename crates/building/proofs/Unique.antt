-- No second answer and no second sheet fits the statement of `build`, where an expression stands there. Assumes nothing.
use Prim.Native.Nat.{ℕ}
use mathlib.Core.Path.{◌≡◌, sym, ◌∙◌}
use mathlib.Core.List.{List}
use Rattle.building.specs.declared.Built.{Built}
use Rattle.building.specs.Building.{Buildable, Builds}

pub build-once :
    (text : List ℕ) (count at size first : ℕ) (before x y : List ℕ) (r t : Built) →
    Buildable text count at size first → Builds text count at first before r x → Builds text count at first before t y → (r ≡ t) × (x ≡ y)
build-once text count at size first before x y r t b h g =
    let v = h.all b.variables b.goal b.ready.spelt in
    let w = g.all b.variables b.goal b.ready.spelt in
    let e : r.end ≡ t.end = v.end ∙ sym w.end in
    let n : r.next ≡ t.next = v.next ∙ sym w.next in
    ((λ i. record { end = e i; next = n i }), v.sheet ∙ sym w.sheet)
