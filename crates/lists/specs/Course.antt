-- What is found at each number from what is found at the smaller ones: recursion over all smaller numbers.
use Rattle.std.specs.Prelude.{ℕ, zero, suc, true, false, eqb}

module _ {A : Type 0} (d : A) (f : ℕ → (ℕ → A) → A) where
  -- what f finds at k where k < n, else d
  unfoldable pub below : ℕ → ℕ → A
  below zero k = d
  below (suc n) k = elim (eqb k n) [ true ↦ f n (below n) | false ↦ below n k ]

  -- what f finds at n, from what it finds at the numbers below n
  unfoldable pub course : ℕ → A
  unfolding below
  course n = f n (below n)
