-- Document 02's reply (item 1) worked out, and one with a binary value and letters in either case: where the digits stand, how many they are, and what they say. Assumes nothing.
use Prim.Native.Nat.{ℕ}
use mathlib.Core.Path.{◌≡◌, refl}
use mathlib.Core.List.{List}
use lib.IntN.{ℤ, pos, negsuc}
use Rattle.lists.specs.Ascii.{ascii}
use Rattle.numbers.specs.Two.{dec}
use Rattle.smtlib.specs.Characters.{digit_char}
use Rattle.smtlib.specs.Tokens.{digit_value}
use Rattle.replies.specs.Replies.{value_bits}
use Rattle.digits.specs.Hashes.{place_behind, number_at, digits_place, digits_size, digits_base}

abbrev shown : List ℕ → ℕ → ℕ × ℕ × ℕ × ℤ
shown reply i = (digits_place i reply, digits_size i reply, digits_base i reply, dec value_bits (number_at reply (place_behind i 0 reply)))

abbrev first : List ℕ
first = ascii "sat ((v0 #x0000) (v1 #x0001))"

abbrev second : List ℕ
second = ascii "sat((v0 #b1000000000000000)\n(v1\t#xFffe) )"

first-0 : shown first 0 ≡ (11, 4, 16, pos 0)
unfolding place_behind digit_value digit_char dec
first-0 = refl

first-1 : shown first 1 ≡ (23, 4, 16, pos 1)
unfolding place_behind digit_value digit_char dec
first-1 = refl

second-0 : shown second 0 ≡ (10, 16, 2, negsuc 32767)
unfolding place_behind digit_value digit_char dec
second-0 = refl

second-1 : shown second 1 ≡ (34, 4, 16, negsuc 1)
unfolding place_behind digit_value digit_char dec
second-1 = refl
