-- Two's complement at w bits, w at least 1: what a number of w bits stands for, and which number stands for an integer.
use Rattle.std.specs.Prelude.{cond, ℕ, suc, ◌-◌, ◌%◌, ◌^◌, ltb, ℤ, pos, negsuc, neg_ℤ, ◌≤ℤ◌, ◌<ℤ◌}

-- the number of an integer's low w bits
unfoldable pub enc : ℕ → ℤ → ℕ
enc w (pos n) = n % 2 ^ w
enc w (negsuc n) = 2 ^ w - suc (n % 2 ^ w)

-- the integer that w bits stand for
unfoldable pub dec : ℕ → ℕ → ℤ
dec w n = cond (ltb n (2 ^ (w - 1))) (pos n) (negsuc (2 ^ w - suc n))

-- serves proofs: z is one of the integers that w bits stand for
pub record Within (w : ℕ) (z : ℤ) : Type 0 where
  pub low : neg_ℤ (pos (2 ^ (w - 1))) ≤ℤ z
  pub high : z <ℤ pos (2 ^ (w - 1))
