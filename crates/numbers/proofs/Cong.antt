-- Numbers that agree up to multiples of M. Assumes nothing.
use mathlib.Core.Path.{◌≡◌, sym, ap, ◌∙◌}
use Prim.Native.Nat.{ℕ, ◌+◌, ◌*◌, ◌/◌, ◌%◌, ◌<◌}
use native.Mathlib.Nat.{mul_comm, mod-add-div', add-mul-mod_self_right, mod-eq_of_lt}
use native.Mathlib.Omega.{arith}

pub record Cong (M a b : ℕ) : Type 0 where
  pub p : ℕ
  pub q : ℕ
  pub same : a + p * M ≡ b + q * M

pub cong-trans : {M a b c : ℕ} → Cong M a b → Cong M b c → Cong M a c
cong-trans h k = record { p = h.p + k.p; q = h.q + k.q; same = omega arith }

pub cong-times : {M a b : ℕ} (c : ℕ) → Cong M a b → Cong M (a * c) (b * c)
cong-times c h = record { p = h.p * c; q = h.q * c; same = omega (arith, ap (λ (n : ℕ). n * c) h.same) }

pub cong-times-left : {M a b : ℕ} (c : ℕ) → Cong M a b → Cong M (c * a) (c * b)
cong-times-left {a = a} {b = b} c h = rw (mul_comm c a, mul_comm c b) (cong-times c h)

pub cong-mul : {M a b c d : ℕ} → Cong M a b → Cong M c d → Cong M (a * c) (b * d)
cong-mul {b = b} {c = c} h k = cong-trans (cong-times c h) (cong-times-left b k)

pub cong-mod : (M a : ℕ) → Cong M (a % M) a
cong-mod M a = record { p = a / M; q = 0; same = omega (arith, mod-add-div' a M) }

pub cong-unique : {M a b : ℕ} → a < M → b < M → Cong M a b → a ≡ b
cong-unique {M} {a} {b} f g h =
    sym (mod-eq_of_lt f) ∙ sym (add-mul-mod_self_right a h.p M) ∙ ap (λ (n : ℕ). n % M) h.same ∙ add-mul-mod_self_right b h.q M ∙ mod-eq_of_lt g
