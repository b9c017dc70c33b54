-- Numbers of 16 bits: two bytes and the number in them, and the integers that such numbers stand for. Assumes nothing.
use mathlib.Core.Path.{◌≡◌}
use mathlib.Core.List.{List, [], ◌∷◌}
use Prim.Native.Nat.{ℕ, ◌+◌, ◌*◌, ◌/◌, ◌%◌, ◌<◌}
use native.Mathlib.Numerals.{add-one}
use native.Mathlib.Omega.{arith}
use lib.Dec.{lit≤}
use lib.IntN.{ℤ, pos}
use Rattle.lists.specs.Run.{Stands}
use Rattle.numbers.specs.Two.{enc, dec, Within}
use Rattle.numbers.specs.Bytes.{byte_limit, word_limit, byte_at, u16_at, i16_at, pair, Bytes}
use Rattle.numbers.specs.Ranges.{Narrow}
use Rattle.numbers.proofs.Zed.{zed, pos-ud, negsuc-ud, neg-ud}
use Rattle.numbers.proofs.Coding.{enc-lt, dec-enc, dec-within, enc-dec, enc-inj}

-- ---- a number by its lower and higher byte
pub word_lt : {a b : ℕ} → a < byte_limit → b < byte_limit → a + byte_limit * b < word_limit
word_lt h k = omega arith

pub word-parts : {a c : ℕ} (b d : ℕ) → a < byte_limit → c < byte_limit → a + byte_limit * b ≡ c + byte_limit * d → (a ≡ c) × (b ≡ d)
word-parts b d h k e = omega arith

pub word-pair : {a : ℕ} (b : ℕ) → a < byte_limit → pair (a + byte_limit * b) ≡ a ∷ b ∷ []
word-pair {a} b h =
    let l : (a + byte_limit * b) % byte_limit ≡ a = omega arith in
    let u : (a + byte_limit * b) / byte_limit ≡ b = omega arith in
    rw (l, u)

pub pair-word : (x : ℕ) → x % byte_limit + byte_limit * (x / byte_limit) ≡ x
pair-word x = omega arith

-- ---- in a list
pub u16-of : (s : List ℕ) (j x : ℕ) → byte_at s j ≡ x % byte_limit → byte_at s (j + 1) ≡ x / byte_limit → u16_at s j ≡ x
u16-of s j x e f = omega arith

pub u16-of-stands : (s : List ℕ) (j x : ℕ) → Stands (byte_at s) j (pair x) → u16_at s j ≡ x
u16-of-stands s j x h = u16-of s j x h.0 (rw add-one h.1.0)

-- ---- in a list of bytes
module _ (s : List ℕ) (b : Bytes s) where
  pub u16-lt : (j : ℕ) → u16_at s j < word_limit
  u16-lt j = word_lt (b j) (b (j + 1))

  pub u16-pair : (j : ℕ) → pair (u16_at s j) ≡ byte_at s j ∷ byte_at s (j + 1) ∷ []
  u16-pair j = word-pair (byte_at s (j + 1)) (b j)

  pub u16-bytes : (j x : ℕ) → u16_at s j ≡ x → (byte_at s j ≡ x % byte_limit) × (byte_at s (j + 1) ≡ x / byte_limit)
  u16-bytes j x e = omega (arith, b j)

  pub stands-of-u16 : (j x : ℕ) → u16_at s j ≡ x → Stands (byte_at s) j (pair x)
  stands-of-u16 j x e =
      let h = u16-bytes j x e in
      (h.0, (rw add-one at h.1, tt))

-- ---- the integers of 16 bits
pub narrow_within : {z : ℤ} → Narrow z → Within 16 z
narrow_within h = omega (zed, pos-ud 32767, negsuc-ud 32767, pos-ud 32768, neg-ud (pos 32768))

pub within-narrow : {z : ℤ} → Within 16 z → Narrow z
within-narrow h = omega (zed, pos-ud 32767, negsuc-ud 32767, pos-ud 32768, neg-ud (pos 32768))

pub enc16-lt : (z : ℤ) → enc 16 z < word_limit
enc16-lt z = enc-lt 16 z

pub dec16-narrow : {n : ℕ} → n < word_limit → Narrow (dec 16 n)
dec16-narrow {n} h = within-narrow (dec-within 16 (lit≤ tt) n h)

pub i16-narrow : (s : List ℕ) → Bytes s → (j : ℕ) → Narrow (i16_at s j)
i16-narrow s b j = dec16-narrow (u16-lt s b j)

pub enc16-dec16 : {n : ℕ} → n < word_limit → enc 16 (dec 16 n) ≡ n
enc16-dec16 {n} h = enc-dec 16 (lit≤ tt) n h

pub dec16-enc16 : {z : ℤ} → Narrow z → dec 16 (enc 16 z) ≡ z
dec16-enc16 {z} h = dec-enc 16 (lit≤ tt) z (narrow_within h)

pub enc16-inj : {x y : ℤ} → Narrow x → Narrow y → enc 16 x ≡ enc 16 y → x ≡ y
enc16-inj h k e = enc-inj 16 (lit≤ tt) (narrow_within h) (narrow_within k) e
