-- Laws of a test at every number below another: the turns of a loop, and the lowest number that fails. Assumes nothing.
use Prim.Native.Nat.{ℕ, zero, suc, ◌+◌, ◌<◌}
use mathlib.Core.Path.{◌≡◌, refl, sym, ◌∙◌}
use mathlib.Core.Logic.{◌⊎◌, inl, inr}
use mathlib.Core.Bool.{Bool, true, false, ◌&&◌, true≢false, and-true}
use native.Mathlib.Numerals.{add-one}
use native.Mathlib.Omega.{arith}
use Rattle.lists.specs.Places.{all_below}
use Rattle.lists.proofs.TestLaws.{and, all_true}

-- the first of two tests that fails
pub not-both : (p q : Bool) → p && q ≡ false → (p ≡ false) ⊎ ((p ≡ true) × (q ≡ false))
not-both true q e = inr (refl, e)
not-both false q e = inl refl

module _ (t : ℕ → Bool) where
  pub all_pass : (n : ℕ) → all_below t n ≡ true → t n ≡ true → all_below t (n + 1) ≡ true
  unfolding all_below
  all_pass n e h = rw add-one (and h e)

  pub all-stop : (n : ℕ) {j : ℕ} → j < n → t j ≡ false → all_below t n ≡ false
  all-stop n {j} l h = go (all_below t n) refl
    where
      go : (b : Bool) → all_below t n ≡ b → b ≡ false
      go true e = absurd (true≢false (sym (all_true t n e j l) ∙ h))
      go false e = refl

  pub record Lowest (n : ℕ) : Type 0 where
    pub number : ℕ
    pub below : number < n
    pub fails : t number ≡ false
    pub passed : (j : ℕ) → j < number → t j ≡ true

  pub lowest-of : (n : ℕ) → all_below t n ≡ false → Lowest n
  unfolding all_below
  lowest-of zero e = absurd (true≢false e)
  lowest-of (suc n) e = go (all_below t n) refl (lowest-of n)
    where
      go : (b : Bool) → all_below t n ≡ b → (all_below t n ≡ false → Lowest n) → Lowest (suc n)
      go true q more = record { number = n; below = omega arith; fails = rw and-true at (rw q at e); passed = all_true t n q }
      go false q more =
          let w = more q in
          record { number = w.number; below = omega (arith, w.below); fails = w.fails; passed = w.passed }
