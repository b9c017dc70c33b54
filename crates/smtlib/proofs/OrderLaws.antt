-- The orders of bit vectors, by comparisons of their numbers. Assumes nothing.
use mathlib.Core.Path.{◌≡◌, sym}
use mathlib.Core.Bool.{not, ◌&&◌, ◌||◌, beq}
use Prim.Native.Nat.{ℕ, ◌+◌, ◌-◌, ◌/◌, ◌%◌, ◌^◌, ◌≤◌, ◌<◌}
use native.Mathlib.Nat.{div-eq_of_lt, div-eq_of_lt-le}
use native.Mathlib.Decide.{dec_le, dec_lt}
use native.Mathlib.Omega.{arith}
use lib.Dec.{eqb, leb, ltb}
use borrow.Author.Tests.{eq-eqb, ne_eqb, lt-ltb, le-ltb, le-leb, lt-leb}
use Rattle.numbers.proofs.Coding.{double}
use Rattle.smtlib.specs.BitVectors.{bit, negative, bvult, bvule, bvslt, bvsle}

-- less or equal, as one comparison
pub bvule-is : (m s t : ℕ) → bvule m s t ≡ leb s t
unfolding bvule bvult
bvule-is m s t = by (dec_lt s t) (dec_le s t)
  where
    by : Dec (s < t) → Dec (s ≤ t) → (ltb s t || eqb s t) ≡ leb s t
    by (yes h) k = rw (lt-ltb s t h) (sym (le-leb s t (omega arith)))
    by (no h) (yes k) = rw (le-ltb s t (omega arith), eq-eqb s t (omega arith)) (sym (le-leb s t k))
    by (no h) (no k) = rw (le-ltb s t (omega arith), ne_eqb s t (λ e. omega arith)) (sym (lt-leb s t (omega arith)))

-- the highest bit is 1 from the half of 2 ^ m on
pub negative-is : (m s : ℕ) → 1 ≤ m → s < 2 ^ m → negative m s ≡ leb (2 ^ (m - 1)) s
unfolding negative bit
negative-is m s l h = by (2 ^ (m - 1)) (double m l) (dec_le (2 ^ (m - 1)) s)
  where
    by : (p : ℕ) → 2 ^ m ≡ p + p → Dec (p ≤ s) → eqb (s / p % 2) 1 ≡ leb p s
    by p e (yes k) =
        let q : s / p ≡ 1 = div-eq_of_lt-le p (omega arith) (omega arith) in
        rw q (sym (le-leb p s k))
    by p e (no k) =
        let q : s / p ≡ 0 = div-eq_of_lt (omega arith) in
        rw q (sym (lt-leb p s (omega arith)))

-- the signed orders
module _ (m s t : ℕ) (l : 1 ≤ m) (h : s < 2 ^ m) (k : t < 2 ^ m) where
  pub bvslt-is : bvslt m s t ≡ ((leb (2 ^ (m - 1)) s && not (leb (2 ^ (m - 1)) t)) || (beq (leb (2 ^ (m - 1)) s) (leb (2 ^ (m - 1)) t) && ltb s t))
  unfolding bvslt bvult
  bvslt-is = rw (negative-is m s l h, negative-is m t l k)

  pub bvsle-is : bvsle m s t ≡ ((leb (2 ^ (m - 1)) s && not (leb (2 ^ (m - 1)) t)) || (beq (leb (2 ^ (m - 1)) s) (leb (2 ^ (m - 1)) t) && leb s t))
  unfolding bvsle
  bvsle-is = rw (negative-is m s l h, negative-is m t l k, bvule-is m s t)
