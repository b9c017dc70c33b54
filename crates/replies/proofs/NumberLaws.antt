-- A spelled setting has a number below 2 ^ 16 for each symbol. Assumes nothing.
use Prim.Native.Nat.{ℕ, suc, ◌+◌, ◌*◌, ◌^◌, ◌<◌, ◌≤◌}
use mathlib.Core.Path.{◌≡◌, sym, ap, subst, ◌∙◌}
use mathlib.Core.List.{List, [], ◌∷◌, map}
use native.Mathlib.Nat.{lt_of_lt_of_le, mul_assoc, mul-one, mul-le-mul_right, suc-mul, pow-zero, pow-succ'}
use native.Mathlib.Omega.{arith}
use lib.Dec.{ltb}
use lib.ListN.{length, length-map}
use borrow.Author.Tests.{ltb-true, lt-ltb}
use Rattle.smtlib.specs.Terms.{number_from, number_of}
use Rattle.grammar.specs.Patterns.{All}
use Rattle.replies.specs.Replies.{value_bits}
use Rattle.replies.specs.Says.{Numeral, hexadecimal, binary, number_in, Sixteen, AllSixteen, SpellsSetting}

number-below : (base n : ℕ) (ds : List ℕ) → All (λ d. ltb d base) ds → number_from base n ds < suc n * base ^ length ds
number-below base n [] a = let e = ap (λ (k : ℕ). suc n * k) (pow-zero base) ∙ mul-one (suc n) in omega arith
number-below base n (d ∷ ds) a =
    let h = number-below base (n * base + d) ds a.1 in
    let l = ltb-true d base a.0 in
    let e = suc-mul n base in
    let m : suc (n * base + d) ≤ suc n * base = omega arith in
    let q : suc n * base * base ^ length ds ≡ suc n * base ^ suc (length ds) = mul_assoc (suc n) base (base ^ length ds) ∙ ap (λ (k : ℕ). suc n * k) (sym (pow-succ' base (length ds))) in
    subst (λ (k : ℕ). number_from base (n * base + d) ds < k) q (lt_of_lt_of_le h (mul-le-mul_right (base ^ length ds) m))

-- a number of 16 bits
abbrev pub Small : List ℕ → Type 0
Small = All (λ n. ltb n (2 ^ value_bits))

numeral-below : (n : Numeral) → Sixteen n → number_in n < 2 ^ value_bits
numeral-below (hexadecimal ds) r = subst (λ (k : ℕ). number_of 16 ds < 1 * 16 ^ k) r.0 (number-below 16 0 ds r.1)
numeral-below (binary ds) r = subst (λ (k : ℕ). number_of 2 ds < 1 * 2 ^ k) r.0 (number-below 2 0 ds r.1)

numerals-small : (ns : List Numeral) → AllSixteen ns → Small (map number_in ns)
numerals-small [] a = tt
numerals-small (n ∷ ns) a = (lt-ltb _ _ (numeral-below n a.0), numerals-small ns a.1)

pub setting-small : {v : ℕ} {s t : List ℕ} → SpellsSetting v s t → Small t
setting-small x = subst Small x.numbers (numerals-small x.numerals x.sixteen)

pub setting-length : {v : ℕ} {s t : List ℕ} → SpellsSetting v s t → length t ≡ v
setting-length x = ap length (sym x.numbers) ∙ length-map x.numerals number_in ∙ x.each
