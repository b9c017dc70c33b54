-- The 16 bits of an integer, as the library has them, and the two bytes of 16 bits. Assumes nothing.
use Prim.Native.Nat.{ℕ, ◌/◌, ◌%◌, ◌<◌}
use mathlib.Core.Path.{◌≡◌, ◌∙◌}
use mathlib.Core.List.{List}
use native.Mathlib.Omega.{arith}
use lib.IntN.{ℤ, pos, negsuc}
use mir.Syntax.{w16}
use mir.Val.{SFits, to_z, of_z}
use mir.Facts.{to_z-of_z}
use Rattle.std.specs.Int.{to_le_bytes}
use Rattle.numbers.specs.Two.{enc}
use Rattle.numbers.specs.Bytes.{word_limit, pair}
use Rattle.numbers.proofs.Zed.{pos-ud, negsuc-ud}
use Rattle.numbers.proofs.Fit.{narrow-ud, narrow-of-i16}

coded : (z : ℤ) → SFits w16 z → of_z w16 z ≡ enc 16 z
unfolding enc
coded (pos n) f = omega (arith, narrow-ud (narrow-of-i16 f), pos-ud n)
coded (negsuc n) f = omega (arith, narrow-ud (narrow-of-i16 f), negsuc-ud n)

pub bits-are : {z : ℤ} → SFits w16 z → of_z w16 (to_z w16 (of_z w16 z)) ≡ enc 16 z
bits-are {z} f = rw (to_z-of_z f) (coded z f)

pub pair-is : {x : ℕ} {t : List ℕ} → t ≡ to_le_bytes w16 x → x < word_limit → t ≡ pair x
pair-is {x} e h = let d : x / 256 % 256 ≡ x / 256 = omega arith in e ∙ rw d
