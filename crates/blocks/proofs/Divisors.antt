-- 65,521 has no divisor from 2 to 255, so a changed weighted byte changes the rest. Assumes nothing.
use mathlib.Core.Path.{◌≡◌, refl, sym, ◌∙◌, ap, subst}
use mathlib.Core.Bool.{Bool, true, false, true≢false, not, ◌||◌}
use Prim.Native.Nat.{ℕ, ◌+◌, ◌-◌, ◌*◌, ◌%◌, ◌≤◌, ◌<◌}
use native.Mathlib.Nat.{mul-mod_left, mul-add, mul-pos, mul-le-mul}
use native.Mathlib.Omega.{arith}
use borrow.Author.Tests.{eqb-true, not-true}
use lib.Dec.{eqb}
use Rattle.lists.specs.Places.{all_below}
use Rattle.lists.proofs.TestLaws.{all_true}
use Rattle.numbers.specs.Bytes.{byte_limit, most_byte}
use Rattle.layout.specs.Limits.{content_bytes, modulus}

-- d is 1, or does not divide 65,521
abbrev apart : ℕ → Bool
apart d = eqb d 1 || not (eqb (modulus % d) 0)

no-divisor : (d : ℕ) → d < byte_limit → apart d ≡ true
unfolding all_below
no-divisor = all_true apart byte_limit refl

no-factor : (m d : ℕ) → m ≤ content_bytes → d < byte_limit → m * d ≡ modulus → ⊥
no-factor m d hm hd e = go (eqb d 1) refl (no-divisor d hd)
  where
    divides : eqb (modulus % d) 0 ≡ true
    divides = ap (λ (x : ℕ). eqb (x % d) 0) (sym e) ∙ rw (mul-mod_left m d)

    go : (t : Bool) → eqb d 1 ≡ t → t || not (eqb (modulus % d) 0) ≡ true → ⊥
    go true q t =
        let f : m * 1 ≡ modulus = subst (λ (x : ℕ). m * x ≡ modulus) (eqb-true d 1 q) e in
        omega arith
    go false q t = true≢false (sym divides ∙ not-true _ t)

-- two numbers that differ by m times the difference of two bytes have different rests
pub rests-differ : (x y m a b : ℕ) → 0 < m → m ≤ content_bytes → a < b → b < byte_limit → x + m * a ≡ y + m * b → x % modulus ≡ y % modulus → ⊥
rests-differ x y m a b pm hm lt hb e r =
    let d : b ≡ a + (b - a) = omega arith in
    let f : m * b ≡ m * a + m * (b - a) = ap (λ (z : ℕ). m * z) d ∙ mul-add m a (b - a) in
    let p : 0 < m * (b - a) = mul-pos pm (omega arith) in
    let q : m * (b - a) ≤ content_bytes * most_byte = mul-le-mul {n₂ = content_bytes} {m₂ = most_byte} hm (omega arith) in
    no-factor m (b - a) hm (omega arith) (omega arith)
