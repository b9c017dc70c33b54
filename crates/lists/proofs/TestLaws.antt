-- Laws of tests: several at once, and one at every number below another. Assumes nothing.
use Prim.Native.Nat.{ℕ, zero, suc, ◌<◌}
use mathlib.Core.Path.{◌≡◌, refl, ap, ◌∙◌}
use mathlib.Core.Logic.{⊎_elim}
use mathlib.Core.Bool.{Bool, true, false, ◌&&◌, false≢true}
use native.Mathlib.Nat.{eq-or-lt_of_le, le_of_suc-le-suc}
use native.Mathlib.Omega.{arith}
use Rattle.lists.specs.Places.{all_below}

-- both tests hold where their conjunction does, and the other way round
pub both : (p q : Bool) → p && q ≡ true → (p ≡ true) × (q ≡ true)
both true q h = (refl, h)
both false q h = absurd (false≢true h)

pub and : {p q : Bool} → p ≡ true → q ≡ true → p && q ≡ true
and e d = rw (e, d)

pub all_true : (t : ℕ → Bool) (n : ℕ) → all_below t n ≡ true → (j : ℕ) → j < n → t j ≡ true
unfolding all_below
all_true t zero h j l = absurd (omega arith)
all_true t (suc n) h j l =
    let w = both (t n) (all_below t n) h in
    ⊎_elim (λ e. ap t e ∙ w.0) (λ k. all_true t n w.1 j k) (eq-or-lt_of_le (le_of_suc-le-suc l))

pub all_of : (t : ℕ → Bool) (n : ℕ) → ((j : ℕ) → j < n → t j ≡ true) → all_below t n ≡ true
unfolding all_below
all_of t zero h = refl
all_of t (suc n) h = and (h n (omega arith)) (all_of t n (λ j l. h j (omega arith)))
