-- A row for each of n numbers: none applies, or the lowest that does is known. Assumes nothing.
use Prim.Native.Nat.{ℕ, ◌<◌}
use mathlib.Core.Path.{◌≡◌, refl, sym, subst, ◌∙◌}
use mathlib.Core.Bool.{true, not, true≢false}
use mathlib.Core.Option.{Option, none, some}
use native.Mathlib.Decide.{dec_lt}
use native.Mathlib.Omega.{arith}
use lib.Dec.{eqb}
use borrow.Author.Tests.{eq-eqb, ne_eqb, eqb-true, not-false}
use Rattle.lists.specs.First.{first}
use Rattle.lists.proofs.FirstLaws.{none_first, some_first}
use Rattle.refusals.specs.declared.Refusal.{Refusal}
use Rattle.refusals.specs.Said.{unless}
use Rattle.refusals.specs.Rows.{row, each_of, Exactly}
use Rattle.refusals.proofs.RowLaws.{exactly-row, exactly-each}

module _ (C : ℕ → Type 0) (number n : ℕ) where
  pub each_none : ((i : ℕ) → i < n → C i → ⊥) → Exactly (each_of (λ i. row number i (C i)) 0 n) none
  each_none h =
      let e : first (λ i. unless true number i) 0 n ≡ none = none_first _ n 0 (λ j l m. refl) in
      rw e at (exactly-each {table = λ i. row number i (C i)} {f = λ i. unless true number i} n 0 (λ i l m d. exactly-row true number i (λ t c. h i (omega arith) c) (λ t. absurd (true≢false t))))

  module _ (q : ℕ) (l : q < n) (here : C q) (lowest : (i : ℕ) → i < q → C i → ⊥) where
    at : ℕ → Option Refusal
    at i = unless (not (eqb i q)) number i

    here-some : at q ≡ some (record { number = number; place = q })
    unfolding at
    here-some = rw (eq-eqb q q refl)

    off-none : (i : ℕ) → (i ≡ q → ⊥) → at i ≡ none
    unfolding at
    off-none i m = rw (ne_eqb i q m)

    each_row : (i : ℕ) → ((j : ℕ) → j < i → at j ≡ none) → Exactly (row number i (C i)) (at i)
    unfolding at
    each_row i earlier = exactly-row (not (eqb i q)) number i (λ t c. elim (dec_lt i q) [ yes k ↦ lowest i k c | no k ↦ past t k ]) (λ t. subst C (sym (eqb-true i q (not-false (eqb i q) t))) here)
      where
        past : not (eqb i q) ≡ true → (i < q → ⊥) → ⊥
        past t k = elim (dec_lt q i) [
          | yes m ↦ (let z : ◌≡◌ {A = ℕ} 0 1 = cc (earlier q m, here-some) in omega arith)
          | no m ↦ (let e : i ≡ q = omega arith in true≢false (sym t ∙ rw (eq-eqb i q e)))
        ]

    pub each-lowest : Exactly (each_of (λ i. row number i (C i)) 0 n) (some (record { number = number; place = q }))
    each-lowest =
        let e : first at 0 n ≡ some (record { number = number; place = q }) = some_first at n 0 q (omega arith) (omega arith) here-some (λ j k m. off-none j (λ d. omega arith)) in
        rw e at (exactly-each {table = λ i. row number i (C i)} {f = at} n 0 (λ i k m earlier. each_row i (λ j a. earlier j (omega arith) a)))
