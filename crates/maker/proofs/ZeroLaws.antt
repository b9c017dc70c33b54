-- The front of a room in which every byte is the same. Assumes nothing.
use Prim.Native.Nat.{ℕ, zero, suc, ◌≤◌}
use mathlib.Core.Path.{◌≡◌, refl, sym, ap, ◌∙◌}
use mathlib.Core.List.{List, ◌∷◌}
use native.Mathlib.Omega.{arith}
use lib.ListN.{length, take, replicate, length-replicate}

module _ (x : ℕ) where
  same-take : (n k : ℕ) → k ≤ n → take k (replicate n x) ≡ replicate k x
  same-take n zero l = refl
  same-take zero (suc k) l = absurd (omega arith)
  same-take (suc n) (suc k) l = ap (λ (s : List ℕ). x ∷ s) (same-take n k (omega arith))

  pub front_length : (n k : ℕ) → k ≤ n → k ≡ length (take k (replicate n x))
  front_length n k l = sym (ap length (same-take n k l) ∙ length-replicate k x)

  pub front_same : (n k : ℕ) → k ≤ n → take k (replicate n x) ≡ replicate (length (take k (replicate n x))) x
  front_same n k l = same-take n k l ∙ ap (λ (m : ℕ). replicate m x) (front_length n k l)
