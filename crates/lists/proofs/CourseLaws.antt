-- Laws of course-of-values recursion. Assumes nothing.
use Prim.Native.Nat.{ℕ, zero, suc, ◌≤◌, ◌<◌}
use mathlib.Core.Path.{◌≡◌, refl, ◌∙◌, ap, sym, fun_ext}
use mathlib.Core.Logic.{⊎_elim, ◌⊎◌, inl, inr}
use mathlib.Core.List.{List}
use lib.ListN.{length, get_or, set, replicate}
use lib.Seq.{get_or-set_same, get_or-set_other}
use native.Mathlib.Decide.{ℕ_discrete}
use native.Mathlib.Omega.{arith}
use native.Mathlib.Nat.{eq-or-lt_of_le, le_of_suc-le-suc}
use borrow.Author.Tests.{eq-eqb, ne_eqb}
use Rattle.lists.specs.Places.{at}
use Rattle.lists.specs.Course.{below, course}

module _ {A : Type 0} (d : A) (f : ℕ → (ℕ → A) → A) where
  -- the last clause of below, by the test
  pub below_last : (n k : ℕ) → k ≡ n → below d f (suc n) k ≡ f n (below d f n)
  unfolding below
  below_last n k e = rw (eq-eqb k n e, below)

  pub below_other : (n k : ℕ) → (k ≡ n → ⊥) → below d f (suc n) k ≡ below d f n k
  unfolding below
  below_other n k l = rw (ne_eqb k n l, below)

  -- below n at a number below n
  pub below-is : (n k : ℕ) → k < n → below d f n k ≡ course d f k
  below-is zero k h = absurd (omega arith)
  below-is (suc n) k h =
      ⊎_elim
      (λ e. below_last n k e ∙ unfold course in sym (ap (λ (j : ℕ). f j (below d f j)) e))
      (λ l. below_other n k (λ e. omega arith) ∙ below-is n k l)
      (eq-or-lt_of_le (le_of_suc-le-suc h))

  -- below n at any other number
  pub below-past : (n k : ℕ) → n ≤ k → below d f n k ≡ d
  unfolding below
  below-past zero k h = refl
  below-past (suc n) k h = below_other n k (λ e. omega arith) ∙ below-past n k (omega arith)

  -- an array that is filled from the front, and is full of d at first, is what is known below n
  pub filled_none : (k : ℕ) → at d (replicate k d) ≡ below d f 0
  unfolding below
  filled_none k = fun_ext (none k)
    where
      none : (k j : ℕ) → get_or (replicate k d) j d ≡ d
      none zero j = refl
      none (suc k) zero = refl
      none (suc k) (suc j) = none k j

  pub filled_more : (l : List A) (n : ℕ) (x : A) → n < length l → at d l ≡ below d f n → x ≡ f n (below d f n) → at d (set l n x) ≡ below d f (suc n)
  filled_more l n x h e ex = fun_ext (λ j. ⊎_elim (here j) (there j) (same? j n))
    where
      same? : (j n : ℕ) → (j ≡ n) ⊎ (j ≡ n → ⊥)
      same? j n = elim (ℕ_discrete j n) [ yes p ↦ inl p | no p ↦ inr p ]

      here : (j : ℕ) → j ≡ n → at d (set l n x) j ≡ below d f (suc n) j
      here j q = ap (λ (i : ℕ). get_or (set l n x) i d) q ∙ get_or-set_same l n x d h ∙ ex ∙ sym (below_last n j q)

      there : (j : ℕ) → (j ≡ n → ⊥) → at d (set l n x) j ≡ below d f (suc n) j
      there j q = get_or-set_other l n j x d q ∙ ap (λ (g : ℕ → A). g j) e ∙ sym (below_other n j q)
