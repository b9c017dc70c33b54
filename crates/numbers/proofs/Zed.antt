-- ℤ by two numbers: z is `up z` minus `dn z`, and one of them is 0. What is linear over ℤ is then linear over ℕ, and `omega` proves it:
-- `omega (zed, sum-ud a b)` reads the hypotheses that are `◌≤ℤ◌` and `◌<ℤ◌`, and proves those and equations of integers.
-- A numeral, a sum, a difference, a negation or a product has its fact, named `..-ud`, in the list. Assumes nothing.
use mathlib.Core.Path.{◌≡◌, refl, ap}
use mathlib.Core.Bool.{Bool, true, false, not, cond}
use Prim.Native.Nat.{ℕ, zero, suc, ◌+◌, ◌*◌, ◌-◌, ◌≤◌, ◌<◌, min, zero-le}
use native.Mathlib.Omega.{arith}
use lib.Dec.{T, ltb, ltb→lt, nltb→le, leb→le, le→leb, lt→ltb}
use lib.IntN.{ℤ, pos, negsuc, neg_ℤ, nat_abs, sub_ℕ, ◌+ℤ◌, ◌-ℤ◌, ◌*ℤ◌}
use lib.Signed.{◌≤ℤ◌, ◌<ℤ◌, mag}

pub up : ℤ → ℕ
up (pos n) = n
up (negsuc n) = 0

pub dn : ℤ → ℕ
dn (pos n) = 0
dn (negsuc n) = suc n

-- numerals and constructors
pub up_pos : (n : ℕ) → up (pos n) ≡ n
unfolding up
up_pos n = refl

pub dn-pos : (n : ℕ) → dn (pos n) ≡ 0
unfolding dn
dn-pos n = refl

pub up-negsuc : (n : ℕ) → up (negsuc n) ≡ 0
unfolding up
up-negsuc n = refl

pub dn-negsuc : (n : ℕ) → dn (negsuc n) ≡ suc n
unfolding dn
dn-negsuc n = refl

pub pos-ud : (n : ℕ) → (up (pos n) ≡ n) × (dn (pos n) ≡ 0)
pos-ud n = (up_pos n, dn-pos n)

pub negsuc-ud : (n : ℕ) → (up (negsuc n) ≡ 0) × (dn (negsuc n) ≡ suc n)
negsuc-ud n = (up-negsuc n, dn-negsuc n)

-- one of the two is 0
pub side : (z : ℤ) → min (up z) (dn z) ≡ 0
unfolding up dn
side (pos n) = omega arith
side (negsuc n) = omega arith

-- the order
pub ≤ℤ-ud : {a b : ℤ} → a ≤ℤ b → up a + dn b ≤ up b + dn a
unfolding up dn
≤ℤ-ud {a = pos a} {b = pos b} h = omega (arith, leb→le a b h.le)
≤ℤ-ud {a = pos a} {b = negsuc b} h = absurd h.le
≤ℤ-ud {a = negsuc a} {b = pos b} h = zero-le
≤ℤ-ud {a = negsuc a} {b = negsuc b} h = omega (arith, leb→le b a h.le)

pub ud-≤ℤ : {a b : ℤ} → up a + dn b ≤ up b + dn a → a ≤ℤ b
unfolding up dn
ud-≤ℤ {a = pos a} {b = pos b} h = record { le = le→leb a b (omega arith) }
ud-≤ℤ {a = pos a} {b = negsuc b} h = record { le = absurd (omega arith) }
ud-≤ℤ {a = negsuc a} {b = pos b} h = record { le = tt }
ud-≤ℤ {a = negsuc a} {b = negsuc b} h = record { le = le→leb b a (omega arith) }

pub <ℤ-ud : {a b : ℤ} → a <ℤ b → up a + dn b < up b + dn a
unfolding up dn
<ℤ-ud {a = pos a} {b = pos b} h = omega (arith, ltb→lt a b h.lt)
<ℤ-ud {a = pos a} {b = negsuc b} h = absurd h.lt
<ℤ-ud {a = negsuc a} {b = pos b} h = omega arith
<ℤ-ud {a = negsuc a} {b = negsuc b} h = omega (arith, ltb→lt b a h.lt)

pub ud-<ℤ : {a b : ℤ} → up a + dn b < up b + dn a → a <ℤ b
unfolding up dn
ud-<ℤ {a = pos a} {b = pos b} h = record { lt = lt→ltb a b (omega arith) }
ud-<ℤ {a = pos a} {b = negsuc b} h = record { lt = absurd (omega arith) }
ud-<ℤ {a = negsuc a} {b = pos b} h = record { lt = tt }
ud-<ℤ {a = negsuc a} {b = negsuc b} h = record { lt = lt→ltb b a (omega arith) }

-- equality
pub ud-≡ : {a b : ℤ} → up a + dn b ≡ up b + dn a → a ≡ b
unfolding up dn
ud-≡ {a = pos a} {b = pos b} h = ap pos (omega arith)
ud-≡ {a = pos a} {b = negsuc b} h = absurd (omega arith)
ud-≡ {a = negsuc a} {b = pos b} h = absurd (omega arith)
ud-≡ {a = negsuc a} {b = negsuc b} h = ap negsuc (omega arith)

pub ≡-ud : {a b : ℤ} → a ≡ b → up a + dn b ≡ up b + dn a
≡-ud p = omega (arith, ap up p, ap dn p)

-- the bound that `SFits` has
pub mag-ud : (z : ℤ) (H : ℕ) → mag z < H → (up z < H) × (dn z ≤ H)
unfolding up dn
mag-ud (pos n) H h = (h, zero-le)
mag-ud (negsuc n) H h = (omega arith, h)

pub ud-mag : (z : ℤ) (H : ℕ) → up z < H → dn z ≤ H → mag z < H
unfolding up dn
ud-mag (pos n) H h k = h
ud-mag (negsuc n) H h k = k

-- the size, as a cast to an unsigned type has it
pub abs-ud : (z : ℤ) → nat_abs z ≡ up z + dn z
unfolding up dn
abs-ud (pos n) = omega arith
abs-ud (negsuc n) = omega arith

-- the operations
neg-up : (a : ℤ) → up (neg_ℤ a) ≡ dn a
unfolding up dn
neg-up (pos zero) = refl
neg-up (pos (suc n)) = refl
neg-up (negsuc n) = refl

neg-dn : (a : ℤ) → dn (neg_ℤ a) ≡ up a
unfolding up dn
neg-dn (pos zero) = refl
neg-dn (pos (suc n)) = refl
neg-dn (negsuc n) = refl

pub neg-ud : (a : ℤ) → (up (neg_ℤ a) ≡ dn a) × (dn (neg_ℤ a) ≡ up a)
neg-ud a = (neg-up a, neg-dn a)

sub-ud-by : (a b : ℕ) (t : Bool) → (T t → a < b) → (T (not t) → b ≤ a) → up (cond t (negsuc (b - suc a)) (pos (a - b))) + b ≡ dn (cond t (negsuc (b - suc a)) (pos (a - b))) + a
unfolding up dn
sub-ud-by a b true f g = let h = f tt in omega arith
sub-ud-by a b false f g = let h = g tt in omega arith

subℕ-ud : (a b : ℕ) → up (sub_ℕ a b) + b ≡ dn (sub_ℕ a b) + a
subℕ-ud a b = sub-ud-by a b (ltb a b) (ltb→lt a b) (nltb→le a b)

pub sum-ud : (a b : ℤ) → up (a +ℤ b) + (dn a + dn b) ≡ dn (a +ℤ b) + (up a + up b)
unfolding up dn
sum-ud (pos a) (pos b) = omega arith
sum-ud (pos a) (negsuc b) = omega (arith, subℕ-ud a (suc b))
sum-ud (negsuc a) (pos b) = omega (arith, subℕ-ud b (suc a))
sum-ud (negsuc a) (negsuc b) = omega arith

pub sub-ud : (a b : ℤ) → up (a -ℤ b) + (dn a + up b) ≡ dn (a -ℤ b) + (up a + dn b)
sub-ud a b = omega (arith, sum-ud a (neg_ℤ b), neg-ud b)

-- a product: nonlinear, its four parts are `omega`'s unknowns
pub mul-ud : (a b : ℤ) → up (a *ℤ b) + (up a * dn b + dn a * up b) ≡ dn (a *ℤ b) + (up a * up b + dn a * dn b)
unfolding up dn
mul-ud (pos a) (pos b) = omega arith
mul-ud (pos a) (negsuc b) = omega (arith, neg-up (pos (a * suc b)), neg-dn (pos (a * suc b)))
mul-ud (negsuc a) (pos b) = omega (arith, neg-up (pos (suc a * b)), neg-dn (pos (suc a * b)))
mul-ud (negsuc a) (negsuc b) = omega arith

-- by a factor whose sign is known
pub mul-pos-ud : (a : ℤ) (n : ℕ) → up (a *ℤ pos n) + dn a * n ≡ dn (a *ℤ pos n) + up a * n
unfolding up dn
mul-pos-ud a n = omega (arith, mul-ud a (pos n))

pub mul-neg-ud : (a : ℤ) (n : ℕ) → up (a *ℤ negsuc n) + up a * suc n ≡ dn (a *ℤ negsuc n) + dn a * suc n
unfolding up dn
mul-neg-ud a n = omega (arith, mul-ud a (negsuc n))

pub ruleset zed = (arith, ≤ℤ-ud, ud-≤ℤ, <ℤ-ud, ud-<ℤ, ud-≡, ≡-ud)

-- ---- the order's laws that the library does not have
pub ≤ℤ-trans : {a b c : ℤ} → a ≤ℤ b → b ≤ℤ c → a ≤ℤ c
≤ℤ-trans h k = omega zed

pub <ℤ-≤ℤ : {a b : ℤ} → a <ℤ b → a ≤ℤ b
<ℤ-≤ℤ h = omega zed
