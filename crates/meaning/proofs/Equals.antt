-- The test of equality of two integers. Assumes nothing.
use mathlib.Core.Path.{◌≡◌, refl, ap}
use mathlib.Core.Bool.{true, false}
use borrow.Author.Tests.{eq-eqb, ne_eqb}
use lib.IntN.{ℤ, pos, negsuc}
use Rattle.meaning.specs.Value.{equals}

pub equals-same : (x : ℤ) → equals x x ≡ true
equals-same (pos n) = eq-eqb n n refl
equals-same (negsuc n) = eq-eqb n n refl

pub equals-false : (x y : ℤ) → (x ≡ y → ⊥) → equals x y ≡ false
equals-false (pos m) (pos n) h = ne_eqb m n (λ e. h (ap pos e))
equals-false (pos m) (negsuc n) h = refl
equals-false (negsuc m) (pos n) h = refl
equals-false (negsuc m) (negsuc n) h = ne_eqb m n (λ e. h (ap negsuc e))
