-- Laws of `zeros`: what the test says of each byte, and the turns of a loop. Assumes nothing.
use Prim.Native.Nat.{ℕ, zero, suc, ◌+◌, ◌-◌, ◌≤◌, ◌<◌}
use mathlib.Core.Path.{◌≡◌, refl, ap, ◌∙◌}
use mathlib.Core.Bool.{Bool, true, false, ◌&&◌}
use mathlib.Core.List.{List}
use native.Mathlib.Omega.{arith}
use borrow.Author.Tests.{eq-eqb, ne_eqb, eqb-true, eqb-false}
use lib.Dec.{eqb}
use lib.ListN.{length, take, drop, length-drop}
use lib.Seq.{take-suc, get_or-drop}
use Rattle.std.specs.List.{list_all}
use Rattle.std.proofs.lemmas.List.Folds.{list_all-append}
use Rattle.lists.specs.Places.{all_below}
use Rattle.lists.proofs.TestLaws.{all_true, all_of}
use Rattle.numbers.specs.Bytes.{byte_at}
use Rattle.layout.specs.LaidOut.{Zeros}
use Rattle.header.specs.Header.{zeros}
use Rattle.lists.proofs.BelowLaws.{all-stop, lowest-of}

module _ (s : List ℕ) (i n : ℕ) where
  pub zeros-at : zeros s i n ≡ true → Zeros s i n
  unfolding zeros
  zeros-at e j h = eqb-true _ _ (all_true _ n e j h)

  pub zeros_of : Zeros s i n → zeros s i n ≡ true
  unfolding zeros
  zeros_of h = all_of _ n (λ j l. eq-eqb _ _ (h j l))

  -- a byte that is not zero, and the lowest one
  pub zeros-stop : {j : ℕ} → j < n → (byte_at s (i + j) ≡ 0 → ⊥) → zeros s i n ≡ false
  unfolding zeros
  zeros-stop l h = all-stop _ n l (ne_eqb _ _ h)

  pub record NotZero : Type 0 where
    pub number : ℕ
    pub below : number < n
    pub not-zero : byte_at s (i + number) ≡ 0 → ⊥
    pub passed : Zeros s i number

  pub not-zero-of : zeros s i n ≡ false → NotZero
  unfolding zeros
  not-zero-of e =
      let w = lowest-of _ n e in
      record { number = w.number; below = w.below; not-zero = eqb-false _ _ w.fails; passed = λ j h. eqb-true _ _ (w.passed j h) }

  -- by the byte's own place
  pub zero-within : Zeros s i n → (p : ℕ) → i ≤ p → p < i + n → byte_at s p ≡ 0
  zero-within h p l u =
      let e : p ≡ i + (p - i) = omega arith in
      ap (byte_at s) e ∙ h (p - i) (omega arith)

-- from the front on, as a chain of tests has them
swapped : (a b : Bool) → a && b ≡ b && (a && true)
swapped true true = refl
swapped true false = refl
swapped false true = refl
swapped false false = refl

pub zeros_all : (s : List ℕ) (i n : ℕ) → i + n ≤ length s → zeros s i n ≡ list_all (λ b. eqb b 0) (take n (drop i s))
unfolding zeros all_below
zeros_all s i zero h = refl
zeros_all s i (suc n) h =
    let inside : n < length (drop i s) = rw length-drop (omega arith) in
    rw (take-suc (drop i s) n 0 inside, list_all-append, get_or-drop)
    (rw (← zeros_all s i n (omega arith)) (swapped (eqb (byte_at s (i + n)) 0) (zeros s i n)))
