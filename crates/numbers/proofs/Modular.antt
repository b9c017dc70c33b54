-- Arithmetic modulo 2 ^ w on encodings gives the encoding of the exact result, whatever that is; and what compares numbers of w bits by their
-- highest bits, then as unsigned numbers, compares the integers that they stand for. At any width. Assumes nothing.
use mathlib.Core.Path.{◌≡◌, refl, sym, ◌∙◌}
use mathlib.Core.Bool.{Bool, true, false, not, ◌&&◌, ◌||◌, beq}
use Prim.Native.Nat.{ℕ, suc, ◌+◌, ◌*◌, ◌-◌, ◌%◌, ◌^◌, ◌≤◌, ◌<◌}
use native.Mathlib.Nat.{mod-lt}
use native.Mathlib.Decide.{dec_lt, dec_le}
use native.Mathlib.Omega.{arith}
use lib.Pow.{pow_pos}
use lib.Dec.{ltb, leb}
use lib.IntN.{ℤ, pos, negsuc, neg_ℤ, ◌+ℤ◌, ◌-ℤ◌, ◌*ℤ◌}
use lib.Signed.{lt_z, le_z}
use borrow.Author.Tests.{lt-ltb, le-ltb, le-leb, lt-leb}
use Rattle.numbers.specs.Two.{enc, Within}
use Rattle.numbers.proofs.Zed.{dn, sum-ud, neg-ud, mul-ud}
use Rattle.numbers.proofs.Cong.{cong-mul, cong-times, cong-times-left, cong-mod}
use Rattle.numbers.proofs.Coding.{enc-lt, enc-cong, enc-is, double, enc-pos, enc-negsuc}

-- ---- the operations
pub enc-add : (w : ℕ) (x y : ℤ) → (enc w x + enc w y) % 2 ^ w ≡ enc w (x +ℤ y)
enc-add w x y =
    let f = enc-cong w x in
    let g = enc-cong w y in
    let h = cong-mod (2 ^ w) (enc w x + enc w y) in
    enc-is w (x +ℤ y) (mod-lt (enc w x + enc w y) (pow_pos w))
    (record { p = f.p + g.p + h.p; q = f.q + g.q + h.q; same = omega (arith, sum-ud x y) })

pub enc-neg : (w : ℕ) (x : ℤ) → (2 ^ w - enc w x) % 2 ^ w ≡ enc w (neg_ℤ x)
enc-neg w x =
    let f = enc-cong w x in
    let h = cong-mod (2 ^ w) (2 ^ w - enc w x) in
    enc-is w (neg_ℤ x) (mod-lt (2 ^ w - enc w x) (pow_pos w))
    (record { p = h.p + f.q; q = suc (h.q + f.p); same = omega (arith, neg-ud x, enc-lt w x) })

pub enc-sub : (w : ℕ) (x y : ℤ) → (enc w x + (2 ^ w - enc w y) % 2 ^ w) % 2 ^ w ≡ enc w (x -ℤ y)
enc-sub w x y = rw (enc-neg w y) (enc-add w x (neg_ℤ y))

pub enc-mul : (w : ℕ) (x y : ℤ) → (enc w x * enc w y) % 2 ^ w ≡ enc w (x *ℤ y)
enc-mul w x y =
    let f = enc-cong w x in
    let g = enc-cong w y in
    let h = cong-mod (2 ^ w) (enc w x * enc w y) in
    let i = cong-mul f g in
    let j = cong-times (dn y) f in
    let k = cong-times-left (dn x) g in
    enc-is w (x *ℤ y) (mod-lt (enc w x * enc w y) (pow_pos w))
    (record { p = h.p + i.p + (j.q + k.q); q = h.q + i.q + (j.p + k.p); same = omega (arith, mul-ud x y) })

-- ---- the comparisons
-- an unsigned comparison, turned round by differences, and the comparison of integers that goes with it
record Follows (below : ℕ → ℕ → Bool) (order : ℤ → ℤ → Bool) : Type 0 where
  turns : (M a b : ℕ) → a < M → b < M → below (M - suc a) (M - suc b) ≡ below b a
  pos-pos : (a b : ℕ) → below a b ≡ order (pos a) (pos b)
  pos-neg : (a b : ℕ) → false ≡ order (pos a) (negsuc b)
  neg-pos : (a b : ℕ) → true ≡ order (negsuc a) (pos b)
  neg-neg : (a b : ℕ) → below b a ≡ order (negsuc a) (negsuc b)

less-follows : Follows ltb lt_z
less-follows =
    record {
      turns = λ M a b f g. by M a b f g (dec_lt b a);
      pos-pos = λ a b. refl;
      pos-neg = λ a b. refl;
      neg-pos = λ a b. refl;
      neg-neg = λ a b. refl;
    }
  where
    by : (M a b : ℕ) → a < M → b < M → Dec (b < a) → ltb (M - suc a) (M - suc b) ≡ ltb b a
    by M a b f g (yes l) = lt-ltb (M - suc a) (M - suc b) (omega arith) ∙ sym (lt-ltb b a l)
    by M a b f g (no l) = le-ltb (M - suc a) (M - suc b) (omega arith) ∙ sym (le-ltb b a (omega arith))

most-follows : Follows leb le_z
most-follows =
    record {
      turns = λ M a b f g. by M a b f g (dec_le b a);
      pos-pos = λ a b. refl;
      pos-neg = λ a b. refl;
      neg-pos = λ a b. refl;
      neg-neg = λ a b. refl;
    }
  where
    by : (M a b : ℕ) → a < M → b < M → Dec (b ≤ a) → leb (M - suc a) (M - suc b) ≡ leb b a
    by M a b f g (yes l) = le-leb (M - suc a) (M - suc b) (omega arith) ∙ sym (le-leb b a l)
    by M a b f g (no l) = lt-leb (M - suc a) (M - suc b) (omega arith) ∙ sym (lt-leb b a (omega arith))

module _ (w : ℕ) (h : 1 ≤ w) where
  -- the highest bit is the sign
  pub sign_pos : (n : ℕ) → Within w (pos n) → leb (2 ^ (w - 1)) (enc w (pos n)) ≡ false
  sign_pos n k = lt-leb (2 ^ (w - 1)) (enc w (pos n)) (omega (arith, enc-pos w h n k))

  pub sign-negsuc : (n : ℕ) → Within w (negsuc n) → leb (2 ^ (w - 1)) (enc w (negsuc n)) ≡ true
  sign-negsuc n k = le-leb (2 ^ (w - 1)) (enc w (negsuc n)) (omega (arith, enc-negsuc w h n k, double w h))

  compared : {below : ℕ → ℕ → Bool} {order : ℤ → ℤ → Bool} → Follows below order → (x y : ℤ) → Within w x → Within w y
      → ((leb (2 ^ (w - 1)) (enc w x) && not (leb (2 ^ (w - 1)) (enc w y)))
      || (beq (leb (2 ^ (w - 1)) (enc w x)) (leb (2 ^ (w - 1)) (enc w y)) && below (enc w x) (enc w y))) ≡ order x y
  compared o (pos a) (pos b) f g = simp (sign_pos a f, sign_pos b g) (simp ((enc-pos w h a f).0, (enc-pos w h b g).0) (o.pos-pos a b))
  compared o (pos a) (negsuc b) f g = simp (sign_pos a f, sign-negsuc b g) (o.pos-neg a b)
  compared o (negsuc a) (pos b) f g = simp (sign-negsuc a f, sign_pos b g) (o.neg-pos a b)
  compared o (negsuc a) (negsuc b) f g =
      let e = enc-negsuc w h a f in
      let k = enc-negsuc w h b g in
      simp (sign-negsuc a f, sign-negsuc b g) (rw (e.0, k.0) (o.turns (2 ^ w) a b (omega (arith, double w h)) (omega (arith, double w h)) ∙ o.neg-neg a b))

  pub less-is : (x y : ℤ) → Within w x → Within w y
      → ((leb (2 ^ (w - 1)) (enc w x) && not (leb (2 ^ (w - 1)) (enc w y)))
      || (beq (leb (2 ^ (w - 1)) (enc w x)) (leb (2 ^ (w - 1)) (enc w y)) && ltb (enc w x) (enc w y))) ≡ lt_z x y
  less-is = compared less-follows

  pub most-is : (x y : ℤ) → Within w x → Within w y
      → ((leb (2 ^ (w - 1)) (enc w x) && not (leb (2 ^ (w - 1)) (enc w y)))
      || (beq (leb (2 ^ (w - 1)) (enc w x)) (leb (2 ^ (w - 1)) (enc w y)) && leb (enc w x) (enc w y))) ≡ le_z x y
  most-is = compared most-follows
