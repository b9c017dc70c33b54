-- Laws of the first answer of several. Assumes nothing.
use Prim.Native.Nat.{ℕ, zero, suc, ◌+◌, ◌-◌, ◌≤◌, ◌<◌}
use mathlib.Core.Path.{◌≡◌, refl, sym, ap, ◌∙◌}
use mathlib.Core.Logic.{⊎_elim}
use mathlib.Core.Option.{Option, none, some}
use native.Mathlib.Nat.{eq-or-lt_of_le}
use native.Mathlib.Numerals.{add-one}
use native.Mathlib.Omega.{arith}
use Rattle.lists.specs.First.{◌otherwise◌, first}

module _ {A : Type 0} where
  -- no answer is none of both
  pub neither : (a b : Option A) → a otherwise b ≡ none → (a ≡ none) × (b ≡ none)
  neither none b e = (refl, e)
  neither (some x) b e = absurd (let z : ◌≡◌ {A = ℕ} 0 1 = cc in omega arith)

  -- where the first gives none, the second answers
  pub otherwise-none : {a : Option A} (b : Option A) → a ≡ none → a otherwise b ≡ b
  otherwise-none b e = rw e

  pub otherwise-some : {a : Option A} (b : Option A) {x : A} → a ≡ some x → a otherwise b ≡ some x
  otherwise-some b e = rw e

  module _ (f : ℕ → Option A) where
    -- one step
    pub first-pass : (k n : ℕ) → f k ≡ none → first f k (suc n) ≡ first f (suc k) n
    unfolding first
    first-pass k n e = rw (e, first)

    pub first-stop : (k n : ℕ) {x : A} → f k ≡ some x → first f k (suc n) ≡ some x
    unfolding first
    first-stop k n e = rw (e, first)

    pub first-suc : (k n : ℕ) → first f k (suc n) ≡ (f k otherwise first f (suc k) n)
    first-suc k n = go (f k) refl
      where
        go : (o : Option A) → f k ≡ o → first f k (suc n) ≡ (f k otherwise first f (suc k) n)
        go none q = first-pass k n q ∙ rw q
        go (some x) q = first-stop k n q ∙ rw q

    -- the step of a loop that stands at k of n
    pub left-pass : {k n : ℕ} → k < n → f k ≡ none → first f k (n - k) ≡ first f (k + 1) (n - (k + 1))
    left-pass {k} {n} h e =
        let p : n - k ≡ suc (n - (k + 1)) = omega arith in
        rw (p, add-one) (first-pass k (n - suc k) e)

    pub left-stop : {k n : ℕ} {x : A} → k < n → f k ≡ some x → first f k (n - k) ≡ some x
    left-stop {k} {n} h e =
        let p : n - k ≡ suc (n - (k + 1)) = omega arith in
        rw p (first-stop k (n - (k + 1)) e)

    pub left-done : {k n : ℕ} → n ≤ k → first f k (n - k) ≡ none
    unfolding first
    left-done {k} {n} h =
        let p : n - k ≡ 0 = omega arith in
        rw (p, first)

    -- none answers
    pub first-none : (n k : ℕ) → first f k n ≡ none → (j : ℕ) → k ≤ j → j < k + n → f j ≡ none
    first-none zero k e j l h = absurd (omega arith)
    first-none (suc n) k e j l h = go (f k) refl (λ q p. first-none n (suc k) (sym (first-pass k n q) ∙ e) j p (omega arith))
      where
        go : (o : Option A) → f k ≡ o → (f k ≡ none → suc k ≤ j → f j ≡ none) → f j ≡ none
        go none q more = ⊎_elim (λ p. ap f (sym p) ∙ q) (more q) (eq-or-lt_of_le l)
        go (some x) q more = absurd (let z : ◌≡◌ {A = ℕ} 0 1 = cc (first-stop k n q, e) in omega arith)

    pub none_first : (n k : ℕ) → ((j : ℕ) → k ≤ j → j < k + n → f j ≡ none) → first f k n ≡ none
    unfolding first
    none_first zero k h = refl
    none_first (suc n) k h = first-pass k n (h k (omega arith) (omega arith)) ∙ none_first n (suc k) (λ j l m. h j (omega arith) (omega arith))

    -- the first that answers
    pub record Found (k n : ℕ) (x : A) : Type 0 where
      pub number : ℕ
      pub low : k ≤ number
      pub high : number < k + n
      pub answers : f number ≡ some x
      pub lowest : (j : ℕ) → k ≤ j → j < number → f j ≡ none

    pub first_some : (n k : ℕ) {x : A} → first f k n ≡ some x → Found k n x
    unfolding first
    first_some zero k e = absurd (let z : ◌≡◌ {A = ℕ} 0 1 = cc in omega arith)
    first_some (suc n) k {x} e = go (f k) refl (λ q. first_some n (suc k) (sym (first-pass k n q) ∙ e))
      where
        go : (o : Option A) → f k ≡ o → (f k ≡ none → Found (suc k) n x) → Found k (suc n) x
        go none q more =
            let w = more q in
            record {
              number = w.number;
              low = omega (arith, w.low);
              high = omega (arith, w.high);
              answers = w.answers;
              lowest = λ j l h. ⊎_elim (λ p. ap f (sym p) ∙ q) (λ p. w.lowest j p h) (eq-or-lt_of_le l);
            }
        go (some y) q more =
            let p : some y ≡ some x = sym (first-stop k n q) ∙ e in
            record { number = k; low = omega arith; high = omega arith; answers = q ∙ p; lowest = λ j l h. absurd (omega arith) }

    pub some_first : (n k m : ℕ) {x : A} → k ≤ m → m < k + n → f m ≡ some x → ((j : ℕ) → k ≤ j → j < m → f j ≡ none) → first f k n ≡ some x
    some_first zero k m l h e w = absurd (omega arith)
    some_first (suc n) k m l h e w =
        ⊎_elim (λ p. first-stop k n (ap f p ∙ e)) (λ p. first-pass k n (w k (omega arith) p) ∙ some_first n (suc k) m p (omega arith) e (λ j i o. w j (omega arith) o)) (eq-or-lt_of_le l)
