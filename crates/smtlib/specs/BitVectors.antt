-- Bit vectors of width m as numbers below 2 ^ m, and their operations (SMT-LIB 2.6, theory FixedSizeBitVectors and logic QF_BV).
use Rattle.std.specs.Prelude.{ℕ, zero, suc, ◌+◌, ◌*◌, ◌-◌, ◌/◌, ◌%◌, ◌^◌, Bool, cond, not, ◌&&◌, ◌||◌, eqb, ltb}
use Rattle.std.specs.Bool.{beq}

-- the number's low m bits
abbrev pub nat2bv : ℕ → ℕ → ℕ
nat2bv m n = n % 2 ^ m

-- bit i is 1; bit 0 is the lowest
unfoldable pub bit : ℕ → ℕ → Bool
bit i n = eqb (n / 2 ^ i % 2) 1

-- the number whose bit i, for each i below m, is 1 where f says so
unfoldable pub from_bits : ℕ → (ℕ → Bool) → ℕ
from_bits zero f = 0
from_bits (suc m) f = cond (f m) (2 ^ m) 0 + from_bits m f

-- ---- bit by bit

unfoldable pub bvnot : ℕ → ℕ → ℕ
bvnot m s = from_bits m (λ i. not (bit i s))

unfoldable pub bvand : ℕ → ℕ → ℕ → ℕ
bvand m s t = from_bits m (λ i. bit i s && bit i t)

unfoldable pub bvor : ℕ → ℕ → ℕ → ℕ
bvor m s t = from_bits m (λ i. bit i s || bit i t)

-- ---- modulo 2 ^ m

unfoldable pub bvneg : ℕ → ℕ → ℕ
bvneg m s = nat2bv m (2 ^ m - s)

unfoldable pub bvadd : ℕ → ℕ → ℕ → ℕ
bvadd m s t = nat2bv m (s + t)

unfoldable pub bvmul : ℕ → ℕ → ℕ → ℕ
bvmul m s t = nat2bv m (s * t)

-- QF_BV: the sum with the other's negation
unfoldable pub bvsub : ℕ → ℕ → ℕ → ℕ
bvsub m s t = bvadd m s (bvneg m t)

-- ---- unsigned order

unfoldable pub bvult : ℕ → ℕ → ℕ → Bool
bvult m s t = ltb s t

-- QF_BV: less, or equal; greater is less the other way round
unfoldable pub bvule : ℕ → ℕ → ℕ → Bool
bvule m s t = bvult m s t || eqb s t

unfoldable pub bvugt : ℕ → ℕ → ℕ → Bool
bvugt m s t = bvult m t s

unfoldable pub bvuge : ℕ → ℕ → ℕ → Bool
bvuge m s t = bvule m t s

-- ---- signed order (QF_BV)

-- the sign: the highest bit
unfoldable pub negative : ℕ → ℕ → Bool
negative m s = bit (m - 1) s

-- a negative number is below one that isn't; of two with one sign, the unsigned order decides
unfoldable pub bvslt : ℕ → ℕ → ℕ → Bool
bvslt m s t = (negative m s && not (negative m t)) || (beq (negative m s) (negative m t) && bvult m s t)

unfoldable pub bvsle : ℕ → ℕ → ℕ → Bool
bvsle m s t = (negative m s && not (negative m t)) || (beq (negative m s) (negative m t) && bvule m s t)

unfoldable pub bvsgt : ℕ → ℕ → ℕ → Bool
bvsgt m s t = bvslt m t s

unfoldable pub bvsge : ℕ → ℕ → ℕ → Bool
bvsge m s t = bvsle m t s
