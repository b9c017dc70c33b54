-- Refusals 1 and 2 in propositions: when each is answered, and when neither is. Assumes nothing.
use mathlib.Core.Path.{◌≡◌, sym, ◌∙◌}
use mathlib.Core.Bool.{true, false, true≢false, not, ◌&&◌, and-false}
use mathlib.Core.List.{List}
use mathlib.Core.Logic.{◌⊎◌, inl, inr}
use mathlib.Core.Option.{none, some}
use Prim.Native.Nat.{ℕ, ◌/◌, ◌%◌, ◌≤◌, ◌<◌}
use native.Mathlib.Nat.{zero-add}
use native.Mathlib.Decide.{ℕ_discrete, dec_le}
use native.Mathlib.Omega.{arith}
use borrow.Author.Tests.{eq-eqb, ne_eqb, eqb-true, eqb-false, not-true, le-leb, lt-leb, leb-true}
use lib.Dec.{eqb, leb}
use lib.ListN.{length}
use Rattle.lists.proofs.TestLaws.{both}
use Rattle.lists.proofs.FirstLaws.{neither, otherwise-none, otherwise-some, first-none, none_first, some_first}
use Rattle.layout.specs.Limits.{block_bytes, sheet_bytes}
use Rattle.layout.specs.Checks.{block_right}
use Rattle.refusals.proofs.SaidLaws.{unless-none, unless-true, unless-false}
use Rattle.blocks.specs.Early.{length_right, block_refusal, checks_refusal, early}

-- the length
module _ (limit n : ℕ) where
  pub length-right : (n ≡ 0 → ⊥) → n % block_bytes ≡ 0 → n ≤ sheet_bytes limit → length_right limit n ≡ true
  unfolding length_right
  length-right h e l = rw (ne_eqb n 0 h, eq-eqb (n % block_bytes) 0 e, le-leb n (sheet_bytes limit) l)

  pub right-length : length_right limit n ≡ true → (n ≡ 0 → ⊥) × (n % block_bytes ≡ 0) × (n ≤ sheet_bytes limit)
  unfolding length_right
  right-length e =
      let v = both (not (eqb n 0) && eqb (n % block_bytes) 0) (leb n (sheet_bytes limit)) e in
      let w = both (not (eqb n 0)) (eqb (n % block_bytes) 0) v.0 in
      (eqb-false n 0 (not-true _ w.0), eqb-true _ _ w.1, leb-true _ _ v.1)

  -- each of the three ways to be wrong
  pub length-zero : n ≡ 0 → length_right limit n ≡ false
  unfolding length_right
  length-zero e = rw (eq-eqb n 0 e)

  pub length_part : (n % block_bytes ≡ 0 → ⊥) → length_right limit n ≡ false
  unfolding length_right
  length_part h = rw (ne_eqb (n % block_bytes) 0 h, and-false)

  pub length-long : sheet_bytes limit < n → length_right limit n ≡ false
  unfolding length_right
  length-long h = rw (lt-leb n (sheet_bytes limit) h, and-false)

  pub wrong-length : length_right limit n ≡ false → (n ≡ 0) ⊎ ((n % block_bytes ≡ 0 → ⊥) ⊎ (sheet_bytes limit < n))
  wrong-length e = go (ℕ_discrete n 0) (ℕ_discrete (n % block_bytes) 0)
    where
      go : Dec (n ≡ 0) → Dec (n % block_bytes ≡ 0) → (n ≡ 0) ⊎ ((n % block_bytes ≡ 0 → ⊥) ⊎ (sheet_bytes limit < n))
      go (yes p) d = inl p
      go (no p) (no q) = inr (inl q)
      go (no p) (yes q) = inr (inr (long (dec_le n (sheet_bytes limit))))
        where
          long : Dec (n ≤ sheet_bytes limit) → sheet_bytes limit < n
          long (yes l) = absurd (true≢false (sym (length-right p q l) ∙ e))
          long (no l) = omega arith

-- block k is the lowest of the whole blocks whose check is wrong
pub record LowestWrong (s : List ℕ) (k : ℕ) : Type 0 where
  pub inside : k < length s / block_bytes
  pub wrong : block_right s k ≡ false
  pub lower : (j : ℕ) → j < k → block_right s j ≡ true

module _ (limit : ℕ) (s : List ℕ) where
  -- refusal 1
  pub early-length : length_right limit (length s) ≡ false → early limit s ≡ some (record { number = 1; place = 0 })
  unfolding early
  early-length e = otherwise-some _ (unless-false 1 0 e)

  pub early-right : length_right limit (length s) ≡ true → early limit s ≡ checks_refusal s
  unfolding early
  early-right e = otherwise-none _ (unless-true 1 0 e)

  -- refusal 2
  pub early-lowest : {k : ℕ} → length_right limit (length s) ≡ true → LowestWrong s k → early limit s ≡ some (record { number = 2; place = k })
  early-lowest {k} e w =
      early-right e ∙
      some_first (block_refusal s) _ 0 k (omega arith) (rw zero-add w.inside) (unless-false 2 k w.wrong) (λ j l h. unless-true 2 j (w.lower j h))

  -- neither
  pub early-none : early limit s ≡ none → (length_right limit (length s) ≡ true) × ((k : ℕ) → k < length s / block_bytes → block_right s k ≡ true)
  unfolding early
  early-none e =
      let w = neither _ _ e in
      (unless-none _ 1 0 w.0, λ k h. unless-none _ 2 k (first-none (block_refusal s) _ 0 w.1 k (omega arith) (rw zero-add h)))

  pub none-early : length_right limit (length s) ≡ true → ((k : ℕ) → k < length s / block_bytes → block_right s k ≡ true) → early limit s ≡ none
  none-early e h = early-right e ∙ none_first (block_refusal s) _ 0 (λ j l m. unless-true 2 j (h j (rw zero-add at m)))
