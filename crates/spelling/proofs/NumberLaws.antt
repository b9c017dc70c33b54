-- An integer of 16 bits in decimal: how far it is from zero, its sign and its digits. Assumes nothing.
use Prim.Native.Nat.{ℕ, suc, ◌+◌, ◌-◌, ◌≤◌, ◌<◌}
use mathlib.Core.Path.{◌≡◌, refl, sym, ap}
use mathlib.Core.Bool.{true, false}
use mathlib.Core.List.{◌++◌}
use native.Mathlib.Decide.{dec_lt}
use native.Mathlib.Omega.{arith}
use lib.Dec.{lit≤}
use lib.IntN.{ℤ, pos, negsuc, nat_abs}
use lib.ListN.{length}
use lib.Signed.{◌≤ℤ◌, ◌<ℤ◌, lt_z}
use mir.Syntax.{w16}
use mir.Val.{SFits, to_z, of_z}
use mir.Facts.{to_z-of_z}
use Rattle.lists.specs.Ascii.{ascii}
use Rattle.numbers.specs.Two.{dec}
use Rattle.numbers.proofs.Coding.{dec-low, dec-high}
use Rattle.numbers.proofs.Zed.{zed, pos-ud, negsuc-ud, abs-ud}
use Rattle.numbers.proofs.OrderTests.{lt_z-true, lt_z-false}
use Rattle.numbers.proofs.Fit.{narrow-ud, narrow-of-i16}
use Rattle.numbers.specs.Decimal.{decimal, signed}
use Rattle.spelling.specs.Spelling.{longest_number}
use Rattle.spelling.proofs.DigitLaws.{decimal-short}

-- ---- by its sign
below : (z : ℤ) → z <ℤ pos 0 → ascii "-" ++ decimal (nat_abs z) ≡ signed z
unfolding signed
below (pos n) l = absurd (omega (zed, pos-ud n, pos-ud 0))
below (negsuc n) l = refl

above : (z : ℤ) → pos 0 ≤ℤ z → decimal (nat_abs z) ≡ signed z
unfolding signed
above (pos n) l = refl
above (negsuc n) l = absurd (omega (zed, negsuc-ud n, pos-ud 0))

short : (z : ℤ) → nat_abs z < 65536 → length (signed z) ≤ longest_number
unfolding signed
short (pos n) b = omega (arith, decimal-short 4 n (omega arith))
short (negsuc n) b = omega (arith, decimal-short 4 (suc n) (omega arith))

-- ---- as the machine has it, by 16 bits
abbrev kept : ℤ → ℤ
kept z = to_z w16 (of_z w16 z)

module _ {z : ℤ} (f : SFits w16 z) where
  pub kept-is : kept z ≡ z
  kept-is = to_z-of_z f

  -- ---- its text
  module _ {n : ℕ} (e : n ≡ nat_abs (kept z)) where
    pub minus-text : lt_z (kept z) (pos 0) ≡ true → ascii "-" ++ decimal n ≡ signed z
    minus-text t = rw (e, kept-is) (below z (lt_z-true (rw kept-is at t)))

    pub plain-text : lt_z (kept z) (pos 0) ≡ false → decimal n ≡ signed z
    plain-text t = rw (e, kept-is) (above z (lt_z-false (rw kept-is at t)))

    -- its length
    pub minus-length : lt_z (kept z) (pos 0) ≡ true → length (signed z) ≡ 1 + length (decimal n)
    minus-length t = omega (arith, ap length (minus-text t))

    pub plain-length : lt_z (kept z) (pos 0) ≡ false → length (signed z) ≡ length (decimal n)
    plain-length t = sym (ap length (plain-text t))

  pub signed-short : length (signed (kept z)) ≤ longest_number
  signed-short =
      let b : nat_abs z < 65536 = omega (arith, abs-ud z, narrow-ud (narrow-of-i16 f)) in
      rw kept-is (short z b)

-- ---- the integer that 16 bits stand for, and 16 bits of more: never far from zero
pub value-short : (n : ℕ) → length (signed (dec 16 n)) ≤ longest_number
value-short n = by (dec_lt n 32768)
  where
    by : Dec (n < 32768) → length (signed (dec 16 n)) ≤ longest_number
    by (yes l) = rw (dec-low 16 (lit≤ tt) n l) (short (pos n) (omega arith))
    by (no l) = rw (dec-high 16 (lit≤ tt) n (omega arith)) (short (negsuc (65536 - suc n)) (omega arith))
