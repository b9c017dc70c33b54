-- Document 01's cases at the edges of ranges and of 16 bits, each by its number there and by computation. Assumes nothing.
use mathlib.Core.Path.{◌≡◌, refl}
use mathlib.Core.Bool.{true, false}
use lib.IntN.{pos, negsuc}
use Rattle.numbers.specs.Two.{enc, dec}
use Rattle.numbers.specs.Ranges.{◌⋯◌, is_narrow, has_narrow_ends, least_of, greatest_of, minus_of, sum_of, product_of}

-- 5, 6: -1 is 0xffff at 16 bits, and -32,768 is 0x8000
minus_one : (enc 16 (negsuc 0) ≡ 0xffff) × (dec 16 0xffff ≡ negsuc 0)
unfolding enc dec
minus_one = (refl, refl)

least-of-16 : (enc 16 (negsuc 32767) ≡ 0x8000) × (dec 16 0x8000 ≡ negsuc 32767)
unfolding enc dec
least-of-16 = (refl, refl)

-- 7, 8: 16,384 + 16,383 fits, and 16,384 + 16,384 does not
sum_fits : has_narrow_ends (sum_of (pos 16384 ⋯ pos 16384) (pos 16383 ⋯ pos 16383)) ≡ true
unfolding has_narrow_ends is_narrow
sum_fits = refl

sum-too-wide : has_narrow_ends (sum_of (pos 16384 ⋯ pos 16384) (pos 16384 ⋯ pos 16384)) ≡ false
unfolding has_narrow_ends is_narrow
sum-too-wide = refl

-- 9, 10: minus of -32,767..0 is 0..32,767, which fits, and that of -32,768..0 does not
minus_is : minus_of (negsuc 32766 ⋯ pos 0) ≡ pos 0 ⋯ pos 32767
minus_is = refl

minus-fits : has_narrow_ends (minus_of (negsuc 32766 ⋯ pos 0)) ≡ true
unfolding has_narrow_ends is_narrow
minus-fits = refl

minus-too-wide : has_narrow_ends (minus_of (negsuc 32767 ⋯ pos 0)) ≡ false
unfolding has_narrow_ends is_narrow
minus-too-wide = refl

-- 11: -3..2 times -4..5 is -15..12
product_is : product_of (negsuc 2 ⋯ pos 2) (negsuc 3 ⋯ pos 5) ≡ negsuc 14 ⋯ pos 12
unfolding least_of greatest_of
product_is = refl
