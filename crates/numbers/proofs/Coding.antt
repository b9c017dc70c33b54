-- Two's complement at any width: the encoding is the residue, and what stands within the width is told apart by it. Assumes nothing.
use mathlib.Core.Path.{◌≡◌, refl, sym, ap, ap₂, ◌∙◌}
use mathlib.Core.List.{List, [], ◌∷◌, map}
use Prim.Native.Nat.{ℕ, zero, suc, ◌+◌, ◌-◌, ◌/◌, ◌%◌, ◌^◌, ◌≤◌, ◌<◌}
use native.Mathlib.Nat.{mod-add-div', mod-lt, mod-eq_of_lt, two-pow-succ}
use native.Mathlib.Decide.{dec_lt}
use native.Mathlib.Omega.{arith}
use lib.Pow.{pow_pos}
use lib.IntN.{ℤ, pos, negsuc}
use lib.ListN.{length, get_or}
use borrow.Author.Tests.{lt-ltb, le-ltb}
use Rattle.numbers.specs.Two.{enc, dec, Within}
use Rattle.numbers.proofs.Zed.{up, dn, zed, side, pos-ud, negsuc-ud, neg-ud}
use Rattle.numbers.proofs.Cong.{Cong, cong-unique}

-- ---- the encoding is the residue
pub enc-lt : (w : ℕ) (z : ℤ) → enc w z < 2 ^ w
unfolding enc
enc-lt w (pos n) = mod-lt n (pow_pos w)
enc-lt w (negsuc n) = omega (arith, pow_pos w)

pub enc-cong : (w : ℕ) (z : ℤ) → Cong (2 ^ w) (enc w z + dn z) (up z)
unfolding enc
enc-cong w (pos n) =
    record { p = n / 2 ^ w; q = 0; same = omega (arith, mod-add-div' n (2 ^ w), pos-ud n) }
enc-cong w (negsuc n) =
    record { p = 0; q = suc (n / 2 ^ w); same = omega (arith, mod-add-div' n (2 ^ w), mod-lt n (pow_pos w), negsuc-ud n) }

pub enc-is : (w : ℕ) (z : ℤ) {r : ℕ} → r < 2 ^ w → Cong (2 ^ w) (r + dn z) (up z) → r ≡ enc w z
enc-is w z {r} f h =
    let e = enc-cong w z in
    cong-unique f (enc-lt w z)
    (record { p = h.p + e.q; q = h.q + e.p; same = omega arith })

-- ---- within the width
pub double : (w : ℕ) → 1 ≤ w → 2 ^ w ≡ 2 ^ (w - 1) + 2 ^ (w - 1)
double zero h = absurd (omega arith)
double (suc k) h =
    let e : suc k - 1 ≡ k = omega arith in
    rw e (two-pow-succ k)

pub within-ud : (w : ℕ) {z : ℤ} → Within w z → (up z < 2 ^ (w - 1)) × (dn z ≤ 2 ^ (w - 1))
within-ud w {z} h = omega (zed, side z, pos-ud (2 ^ (w - 1)), neg-ud (pos (2 ^ (w - 1))), pow_pos (w - 1))

module _ (w : ℕ) (h : 1 ≤ w) where
  -- where the bits lie
  pub enc-pos : (n : ℕ) → Within w (pos n) → (enc w (pos n) ≡ n) × (n < 2 ^ (w - 1))
  unfolding enc
  enc-pos n k =
      let b : n < 2 ^ (w - 1) = omega (arith, within-ud w k, pos-ud n) in
      (mod-eq_of_lt (omega (arith, double w h)), b)

  pub enc-negsuc : (n : ℕ) → Within w (negsuc n) → (enc w (negsuc n) ≡ 2 ^ w - suc n) × (n < 2 ^ (w - 1))
  unfolding enc
  enc-negsuc n k =
      let b : n < 2 ^ (w - 1) = omega (arith, within-ud w k, negsuc-ud n) in
      let e : n % 2 ^ w ≡ n = mod-eq_of_lt (omega (arith, double w h)) in
      (rw e, b)

  pub dec-low : (n : ℕ) → n < 2 ^ (w - 1) → dec w n ≡ pos n
  unfolding dec
  dec-low n k = simp (lt-ltb n (2 ^ (w - 1)) k)

  pub dec-high : (n : ℕ) → 2 ^ (w - 1) ≤ n → dec w n ≡ negsuc (2 ^ w - suc n)
  unfolding dec
  dec-high n k = simp (le-ltb n (2 ^ (w - 1)) k)

  pub dec-enc : (z : ℤ) → Within w z → dec w (enc w z) ≡ z
  dec-enc (pos n) k =
      let e = enc-pos n k in
      rw e.0 (dec-low n e.1)
  dec-enc (negsuc n) k =
      let e = enc-negsuc n k in
      let d = double w h in
      let b : 2 ^ w - suc (2 ^ w - suc n) ≡ n = omega arith in
      rw e.0 (dec-high (2 ^ w - suc n) (omega arith) ∙ ap negsuc b)

  -- every number of w bits is one's encoding
  pub dec-within : (n : ℕ) → n < 2 ^ w → Within w (dec w n)
  dec-within n k = within_by (dec_lt n (2 ^ (w - 1)))
    where
      within_by : Dec (n < 2 ^ (w - 1)) → Within w (dec w n)
      within_by (yes l) =
          rw (dec-low n l) (omega (zed, pos-ud n, pos-ud (2 ^ (w - 1)), neg-ud (pos (2 ^ (w - 1)))))
      within_by (no l) =
          let g : 2 ^ (w - 1) ≤ n = omega arith in
          rw (dec-high n g) (omega (zed, double w h, negsuc-ud (2 ^ w - suc n), pos-ud (2 ^ (w - 1)), neg-ud (pos (2 ^ (w - 1))), pow_pos (w - 1)))

  pub enc-dec : (n : ℕ) → n < 2 ^ w → enc w (dec w n) ≡ n
  enc-dec n k = back_by (dec_lt n (2 ^ (w - 1)))
    where
      back_by : Dec (n < 2 ^ (w - 1)) → enc w (dec w n) ≡ n
      back_by (yes l) = rw (dec-low n l) (enc-pos n (rw (dec-low n l) at (dec-within n k))).0
      back_by (no l) =
          let g : 2 ^ (w - 1) ≤ n = omega arith in
          let e = enc-negsuc (2 ^ w - suc n) (rw (dec-high n g) at (dec-within n k)) in
          rw (dec-high n g) (omega (arith, e.0))

  pub enc-inj : {x y : ℤ} → Within w x → Within w y → enc w x ≡ enc w y → x ≡ y
  enc-inj {x} {y} f g e = sym (dec-enc x f) ∙ ap (dec w) e ∙ dec-enc y g

-- ---- a list of integers within the width, from their numbers
pub decs-encs : {w : ℕ} → 1 ≤ w → (c : List ℤ) → ((i : ℕ) → i < length c → Within w (get_or c i (pos 0))) → map (dec w) (map (enc w) c) ≡ c
decs-encs one [] h = refl
decs-encs {w} one (z ∷ c) h = ap₂ ◌∷◌ (dec-enc w one z (h 0 (omega arith))) (decs-encs one c (λ i l. h (suc i) (omega arith)))
