-- Symbols and constants: their bytes and how many these are. Assumes nothing.
use Prim.Native.Nat.{ℕ, ◌≤◌, ◌<◌}
use mathlib.Core.Path.{◌≡◌, refl}
use native.Mathlib.Decide.{dec_lt}
use native.Mathlib.Omega.{arith}
use borrow.Author.Tests.{lt-ltb, le-ltb}
use lib.IntN.{ℤ}
use lib.ListN.{length}
use Rattle.numbers.specs.Two.{enc}
use Rattle.wording.specs.Sixteen.{hex_text, literal, symbol_text}
use Rattle.pieces.specs.Sizes.{constant_bytes, longest_symbol}

symbol_low : {i : ℕ} → i < 10 → length (symbol_text i) ≡ 2
unfolding symbol_text
symbol_low {i} h = rw (lt-ltb i 10 h)

symbol_high : {i : ℕ} → 10 ≤ i → length (symbol_text i) ≡ 3
unfolding symbol_text
symbol_high {i} h = rw (le-ltb i 10 h)

pub symbol-short : (i : ℕ) → length (symbol_text i) ≤ longest_symbol
symbol-short i = elim (dec_lt i 10) [ yes h ↦ omega (arith, symbol_low h) | no h ↦ let g : 10 ≤ i = omega arith in omega (arith, symbol_high g) ]

pub hex-length : (x : ℕ) → length (hex_text x) ≡ constant_bytes
unfolding hex_text
hex-length x = refl

pub literal-length : (z : ℤ) → length (literal z) ≡ constant_bytes
unfolding literal
literal-length z = hex-length (enc 16 z)
