-- What the number of a kind's operands says of its shape. Assumes nothing.
use Prim.Native.Nat.{ℕ}
use mathlib.Core.Path.{◌≡◌}
use mathlib.Core.Option.{Option, none, some}
use native.Mathlib.Omega.{arith}
use Rattle.meaning.specs.declared.Sort.{Sort}
use Rattle.kinds.specs.declared.Shape.{Shape}
use Rattle.kinds.specs.declared.Shape.TheVariants.{Wrong, Bare, Valued, Named, One, Two, Three}
use Rattle.texts.specs.Texts.{operands_behind}

none-some : {n : ℕ} → ◌≡◌ {A = Option ℕ} none (some n) → ⊥
none-some e = let z : ◌≡◌ {A = ℕ} 0 1 = cc e in omega arith

some-some : {m n : ℕ} → ◌≡◌ {A = Option ℕ} (some m) (some n) → m ≡ n
some-some e = cc e

-- ---- what holds of the shapes with so many operands holds of every shape that takes them
pub takes-0 {ℓ} : (P : Shape → Type ℓ) → P Bare → (h : Shape) → operands_behind h ≡ some 0 → P h
takes-0 P p Wrong e = absurd (none-some e)
takes-0 P p Bare e = p
takes-0 P p Valued e = absurd (none-some e)
takes-0 P p Named e = absurd (none-some e)
takes-0 P p (One s) e = absurd (omega (arith, some-some e))
takes-0 P p (Two s t) e = absurd (omega (arith, some-some e))
takes-0 P p (Three s t u) e = absurd (omega (arith, some-some e))

pub takes-1 {ℓ} : (P : Shape → Type ℓ) → ((s : Sort) → P (One s)) → (h : Shape) → operands_behind h ≡ some 1 → P h
takes-1 P p Wrong e = absurd (none-some e)
takes-1 P p Bare e = absurd (omega (arith, some-some e))
takes-1 P p Valued e = absurd (none-some e)
takes-1 P p Named e = absurd (none-some e)
takes-1 P p (One s) e = p s
takes-1 P p (Two s t) e = absurd (omega (arith, some-some e))
takes-1 P p (Three s t u) e = absurd (omega (arith, some-some e))

pub takes-2 {ℓ} : (P : Shape → Type ℓ) → ((s t : Sort) → P (Two s t)) → (h : Shape) → operands_behind h ≡ some 2 → P h
takes-2 P p Wrong e = absurd (none-some e)
takes-2 P p Bare e = absurd (omega (arith, some-some e))
takes-2 P p Valued e = absurd (none-some e)
takes-2 P p Named e = absurd (none-some e)
takes-2 P p (One s) e = absurd (omega (arith, some-some e))
takes-2 P p (Two s t) e = p s t
takes-2 P p (Three s t u) e = absurd (omega (arith, some-some e))

pub takes-3 {ℓ} : (P : Shape → Type ℓ) → ((s t u : Sort) → P (Three s t u)) → (h : Shape) → operands_behind h ≡ some 3 → P h
takes-3 P p Wrong e = absurd (none-some e)
takes-3 P p Bare e = absurd (omega (arith, some-some e))
takes-3 P p Valued e = absurd (none-some e)
takes-3 P p Named e = absurd (none-some e)
takes-3 P p (One s) e = absurd (omega (arith, some-some e))
takes-3 P p (Two s t) e = absurd (omega (arith, some-some e))
takes-3 P p (Three s t u) e = p s t u
