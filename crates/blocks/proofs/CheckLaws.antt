-- Laws of a block's check: one more byte, one changed byte, and the greatest sum. Assumes nothing.
use mathlib.Core.Path.{◌≡◌, refl, ◌∙◌, ap}
use mathlib.Core.List.{List, [], ◌∷◌, ◌++◌}
use Prim.Native.Nat.{ℕ, zero, suc, ◌+◌, ◌*◌, ◌/◌, ◌^◌, ◌≤◌, ◌<◌}
use native.Mathlib.Nat.{add_assoc, add-suc, suc-add, add-zero, zero-add, mul-le-mul, le_of_suc-le-suc, not-suc-le-zero}
use native.Mathlib.Numerals.{add-one, one-add}
use native.Mathlib.Omega.{arith}
use lib.ListN.{length, take, set, replicate}
use lib.Seq.{take-suc, length-take-le, take_all}
use Rattle.numbers.specs.Bytes.{byte_limit, most_byte, byte_at, Bytes}
use Rattle.layout.specs.Limits.{content_bytes}
use Rattle.layout.specs.Checks.{weighted}

pub weighted-append : (w : ℕ) (xs ys : List ℕ) → weighted w (xs ++ ys) ≡ weighted w xs + weighted (w + length xs) ys
unfolding weighted
weighted-append w [] ys = simp (zero-add, add-zero)
weighted-append w (x ∷ xs) ys = simp (weighted-append (suc w) xs ys, add_assoc, suc-add, add-suc)

pub weighted-take : (l : List ℕ) (i : ℕ) → i < length l → weighted 1 (take (i + 1) l) ≡ weighted 1 (take i l) + (i + 1) * byte_at l i
unfolding weighted
weighted-take l i h =
    let le : i ≤ length l = omega arith in
    rw (add-one, take-suc l i 0, weighted-append, length-take-le) (simp (add-zero, one-add))

-- byte i changed to b
pub weighted-set : (w : ℕ) (l : List ℕ) (i b : ℕ) → i < length l → weighted w (set l i b) + (w + i) * byte_at l i ≡ weighted w l + (w + i) * b
unfolding weighted
weighted-set w [] i b h = absurd (not-suc-le-zero h)
weighted-set w (x ∷ l) zero b h = rw add-zero (omega arith)
weighted-set w (x ∷ l) (suc i) b h =
    let ih = rw suc-add at (weighted-set (suc w) l i b (le_of_suc-le-suc h)) in
    rw add-suc (omega (arith, ih))

-- no bytes have a greater sum than as many, or more, that are all 255
pub weighted-most : (w : ℕ) (l : List ℕ) (i n : ℕ) → Bytes l → i ≤ n → weighted w (take i l) ≤ weighted w (replicate n most_byte)
unfolding weighted
weighted-most w l zero n h le = omega arith
weighted-most w [] (suc i) n h le = omega arith
weighted-most w (x ∷ l) (suc i) zero h le = absurd (not-suc-le-zero le)
weighted-most w (x ∷ l) (suc i) (suc n) h le =
    let more : w * x ≤ w * most_byte = mul-le-mul {n₂ = w} {m₂ = most_byte} (omega arith) (omega (arith, h 0)) in
    omega (arith, more, weighted-most (suc w) l i n (λ j. h (suc j)) (le_of_suc-le-suc le))

-- of a content it is 255 times 1 + 2 + ... + 510
pub greatest-sum : weighted 1 (replicate content_bytes most_byte) ≡ most_byte * (content_bytes * (content_bytes + 1) / 2)
unfolding weighted
greatest-sum = refl

pub product-fits : {i b : ℕ} → i < content_bytes → b < byte_limit → (i + 1) * b < 2 ^ 32
product-fits {i} {b} hi hb =
    let most : (i + 1) * b ≤ content_bytes * most_byte = mul-le-mul {n₂ = content_bytes} {m₂ = most_byte} (omega arith) (omega arith) in
    omega arith

module _ (l : List ℕ) (i : ℕ) where
  -- the sum of the first i bytes fits
  pub sum_fits : {sum : ℕ} → sum ≡ weighted 1 (take i l) → Bytes l → i ≤ content_bytes → sum < 2 ^ 32
  sum_fits e bytes h = omega (arith, e, greatest-sum, weighted-most 1 l i content_bytes bytes h)

  -- and is that of all where there are no more
  pub sum-whole : {sum : ℕ} → sum ≡ weighted 1 (take i l) → length l ≤ i → sum ≡ weighted 1 l
  sum-whole e h = e ∙ ap (weighted 1) (take_all i l h)

  -- with byte i, weighed, it is the sum of one byte more
  pub sum-next : (before sum : ℕ) {more : ℕ} → before + sum ≡ weighted 1 (take i l) → more ≡ (i + 1) * byte_at l i → i < length l → before + (sum + more) ≡ weighted 1 (take (i + 1) l)
  sum-next before sum e f h = rw (← add_assoc before, e, f, weighted-take l i h)
