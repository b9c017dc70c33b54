-- Laws of returned parts: their length, when one is empty, and that no second part fits (same bytes, at the same place in memory). Assumes nothing.
use mathlib.Core.Path.{◌≡◌, sym, ap, ◌∙◌}
use mathlib.Core.Logic.{◌↔◌}
use mathlib.Core.List.{List}
use Prim.Native.Nat.{ℕ, ◌+◌, ◌≤◌}
use native.Mathlib.Omega.{arith}
use denote.Ref.{Bor}
use lib.ListN.{length, length-take, length-drop}
use Rattle.lists.specs.Part.{PartAt, PartWhere, SamePart}

pub part-once : {whole p q : Bor (List ℕ)} {a n : ℕ} → PartAt whole p a n → PartAt whole q a n → SamePart p q
part-once h g = (h.bytes ∙ sym g.bytes, λ i. ((h.memory ∙ sym g.memory) i, (h.place ∙ sym g.place) i))

pub part-size : {whole part : Bor (List ℕ)} {a n : ℕ} → PartAt whole part a n → a + n ≤ length whole.now → length part.now ≡ n
part-size h l = ap length h.bytes ∙ rw (length-take, length-drop) (omega arith)

module _ {Given : Type 0} {whole : Bor (List ℕ)} {a n : ℕ} where
  pub given-part : {part : Bor (List ℕ)} → Given → PartAt whole part a n → PartWhere Given whole part a n
  given-part g h = record { given = λ k. h; absent = λ f. absurd (f g) }

  pub empty-part : {part : Bor (List ℕ)} → (Given → ⊥) → PartAt whole part 0 0 → PartWhere Given whole part a n
  empty-part f h = record { given = λ g. absurd (f g); absent = λ k. h }

  pub where-once : {p q : Bor (List ℕ)} → Dec Given → PartWhere Given whole p a n → PartWhere Given whole q a n → SamePart p q
  where-once (yes g) h k = part-once (h.given g) (k.given g)
  where-once (no f) h k = part-once (h.absent f) (k.absent f)

  -- a part that has a byte where it is given is empty exactly where it is not
  pub empty-where : {part : Bor (List ℕ)} → (Given → (1 ≤ n) × (a + n ≤ length whole.now)) → PartWhere Given whole part a n → (length part.now ≡ 0) ↔ (Given → ⊥)
  empty-where inside h = (
    λ e g. let l = inside g in omega (arith, part-size (h.given g) l.1),
    λ f. part-size (h.absent f) (omega arith),
  )
