-- The tests of the integers' order, as equations of truth values, and the order that they decide. Assumes nothing.
use mathlib.Core.Path.{◌≡◌, sym, subst}
use mathlib.Core.Bool.{Bool, true, false, not}
use lib.Dec.{T, not_T, lt→ltb, nleb→lt}
use lib.IntN.{ℤ, pos, negsuc}
use Rattle.std.specs.Int.{int_min, int_max}
use Rattle.numbers.specs.Ranges.{least_of, greatest_of}
use Rattle.std.proofs.lemmas.Int.{by_lt_z}
use lib.Signed.{◌≤ℤ◌, ◌<ℤ◌, le_z, lt_z, le_z_yes, lt_z_yes, lt_z_no, clash_ℤ}
use Rattle.lists.proofs.Decided.{Decides}
use lib.Ieee.Bits.{is_true, is_false}

holds : {t : Bool} → t ≡ true → T t
holds e = subst T (sym e) tt

fails : {t : Bool} → t ≡ false → T (not t)
fails e = subst (λ (t : Bool). T (not t)) (sym e) tt

le_z-no : (a b : ℤ) → T (not (le_z a b)) → T (lt_z b a)
le_z-no (pos a) (pos b) t = lt→ltb b a (nleb→lt a b t)
le_z-no (pos a) (negsuc b) t = tt
le_z-no (negsuc a) (pos b) t = t
le_z-no (negsuc a) (negsuc b) t = lt→ltb a b (nleb→lt b a t)

-- from the test to the order
pub le_z-true : {a b : ℤ} → le_z a b ≡ true → a ≤ℤ b
le_z-true e = le_z_yes (holds e)

pub le_z-false : {a b : ℤ} → le_z a b ≡ false → b <ℤ a
le_z-false {a} {b} e = lt_z_yes (le_z-no a b (fails e))

pub lt_z-true : {a b : ℤ} → lt_z a b ≡ true → a <ℤ b
lt_z-true e = lt_z_yes (holds e)

pub lt_z-false : {a b : ℤ} → lt_z a b ≡ false → b ≤ℤ a
lt_z-false e = lt_z_no (fails e)

-- and back
pub le-le_z : {a b : ℤ} → a ≤ℤ b → le_z a b ≡ true
le-le_z {a} {b} h = is_true (le_z a b) h.le

pub lt-le_z : {a b : ℤ} → b <ℤ a → le_z a b ≡ false
lt-le_z {a} {b} h = is_false (le_z a b) (not_T (le_z a b) (λ t. clash_ℤ h (le_z_yes t)))

pub lt-lt_z : {a b : ℤ} → a <ℤ b → lt_z a b ≡ true
lt-lt_z {a} {b} h = is_true (lt_z a b) h.lt

pub le-lt_z : {a b : ℤ} → b ≤ℤ a → lt_z a b ≡ false
le-lt_z {a} {b} h = is_false (lt_z a b) (not_T (lt_z a b) (λ t. clash_ℤ (lt_z_yes t) h))

pub decides-le_z : (a b : ℤ) → Decides (le_z a b) (a ≤ℤ b)
decides-le_z a b = (le_z-true, le-le_z)

-- ---- the library's least and greatest of two
pub least_is : (a b : ℤ) → int_min a b ≡ least_of a b
unfolding least_of
least_is a b = by_lt_z b a (λ h. simp (lt-lt_z h, lt-le_z h)) (λ h. simp (le-lt_z h, le-le_z h))

pub greatest_is : (a b : ℤ) → int_max a b ≡ greatest_of a b
unfolding greatest_of
greatest_is a b = by_lt_z b a (λ h. simp (lt-lt_z h, lt-le_z h)) (λ h. simp (le-lt_z h, le-le_z h))
