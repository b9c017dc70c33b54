-- What a signed operation asks of numbers in -32,768..32,767: that its result fits. `search fit` closes such a need with no path. Assumes nothing.
use mathlib.Core.Path.{◌≡◌, ◌∙◌}
use Prim.Native.Nat.{◌*◌, ◌≤◌, ◌<◌}
use native.Mathlib.Nat.{mul-le-mul}
use native.Mathlib.Omega.{arith}
use lib.IntN.{ℤ, pos, negsuc, ◌+ℤ◌, ◌-ℤ◌, ◌*ℤ◌, +ℤ_idl}
use mir.Syntax.{w16, w32}
use mir.Val.{SFits, to_z, of_z}
use mir.Facts.{sfits_widen, to_z-of_z}
use borrow.Author.Rules.{rules}
use Rattle.std.specs.Int.{int_min, int_max}
use Rattle.numbers.specs.Ranges.{Narrow, least_of, greatest_of}
use Rattle.numbers.proofs.OrderTests.{least_is, greatest_is}
use Rattle.numbers.proofs.Zed.{up, dn, zed, side, mag-ud, ud-mag, pos-ud, negsuc-ud, sum-ud, sub-ud, mul-ud}

-- a number in the bounds by its two parts
pub narrow-ud : {z : ℤ} → Narrow z → (up z ≤ 32767) × (dn z ≤ 32768)
narrow-ud {z} n = omega (zed, pos-ud 32767, negsuc-ud 32767, side z)

-- an i16 is a number in the bounds
pub narrow-of-i16 : {z : ℤ} → SFits w16 z → Narrow z
narrow-of-i16 {z} s = omega (zed, mag-ud z 32768 s.sfits, pos-ud 32767, negsuc-ud 32767)

pub i16-of-narrow : {z : ℤ} → Narrow z → SFits w16 z
i16-of-narrow {z} n = record { sfits = ud-mag z 32768 (omega (arith, narrow-ud n)) (narrow-ud n).1 }

-- ---- an i32 has room for the results
fits32 : (z : ℤ) → (up z < 2147483648) × (dn z ≤ 2147483648) → SFits w32 z
fits32 z h = record { sfits = ud-mag z 2147483648 h.0 h.1 }

pub i16-fits : {z : ℤ} → SFits w16 z → SFits w32 z
i16-fits s = sfits_widen tt s

pub narrow-fits : {z : ℤ} → Narrow z → SFits w32 z
narrow-fits {z} n = i16-fits (i16-of-narrow n)

pub sum_fits : {a b : ℤ} → Narrow a → Narrow b → SFits w32 (a +ℤ b)
sum_fits {a} {b} m n = fits32 (a +ℤ b) (omega (arith, narrow-ud m, narrow-ud n, side (a +ℤ b), sum-ud a b))

pub difference-fits : {a b : ℤ} → Narrow a → Narrow b → SFits w32 (a -ℤ b)
difference-fits {a} {b} m n = fits32 (a -ℤ b) (omega (arith, narrow-ud m, narrow-ud n, side (a -ℤ b), sub-ud a b))

-- `-x` is `0 - x` to the machine
pub minus-fits : {a : ℤ} → Narrow a → SFits w32 (pos 0 -ℤ a)
minus-fits {a} m = fits32 (pos 0 -ℤ a) (omega (arith, narrow-ud m, side (pos 0 -ℤ a), sub-ud (pos 0) a, pos-ud 0))

pub product-fits : {a b : ℤ} → Narrow a → Narrow b → SFits w32 (a *ℤ b)
product-fits {a} {b} m n =
    let uu : up a * up b ≤ 1073676289 = mul-le-mul (narrow-ud m).0 (narrow-ud n).0 in
    let ud : up a * dn b ≤ 1073709056 = mul-le-mul (narrow-ud m).0 (narrow-ud n).1 in
    let du : dn a * up b ≤ 1073709056 = mul-le-mul (narrow-ud m).1 (narrow-ud n).0 in
    let dd : dn a * dn b ≤ 1073741824 = mul-le-mul (narrow-ud m).1 (narrow-ud n).1 in
    fits32 (a *ℤ b) (omega (arith, side (a *ℤ b), mul-ud a b))

-- the library's least and greatest of two are the specification's
pub least_told : (a b : ℤ) {r : ℤ} → SFits w32 a → SFits w32 b → r ≡ int_min (to_z w32 (of_z w32 a)) (to_z w32 (of_z w32 b)) → r ≡ least_of a b
least_told a b f g e = e ∙ rw (to_z-of_z f, to_z-of_z g) (least_is a b)

pub greatest_told : (a b : ℤ) {r : ℤ} → SFits w32 a → SFits w32 b → r ≡ int_max (to_z w32 (of_z w32 a)) (to_z w32 (of_z w32 b)) → r ≡ greatest_of a b
greatest_told a b f g e = e ∙ rw (to_z-of_z f, to_z-of_z g) (greatest_is a b)

pub ruleset fit = (rules, i16-fits, narrow-fits, sum_fits, difference-fits, minus-fits, product-fits, +ℤ_idl)
