-- From hash to hash: the place behind the next hash, looked for from where the last one was found. Assumes nothing.
use Prim.Native.Nat.{ℕ, suc, ◌+◌, ◌-◌, ◌≤◌}
use mathlib.Core.Path.{◌≡◌, sym, ap, ◌∙◌}
use mathlib.Core.Bool.{Bool, true, false}
use mathlib.Core.List.{List, [], ◌∷◌}
use native.Mathlib.Nat.{add-zero}
use native.Mathlib.Numerals.{add-one}
use native.Mathlib.Omega.{arith}
use lib.Dec.{eqb}
use lib.ListN.{length, drop, length-drop}
use lib.Seq.{drop-drop}
use borrow.Author.Tests.{eq-eqb, ne_eqb}
use Rattle.std.specs.Prelude.{Option, Some, None, cond}
use Rattle.std.specs.List.{position, position_from}
use Rattle.std.proofs.lemmas.Iterator.Adapters.{position_from-zero}
use Rattle.digits.specs.Hashes.{place_behind}

-- ---- at a byte

pub pass : (i k c : ℕ) (s : List ℕ) → (c ≡ 35 → ⊥) → place_behind i k (c ∷ s) ≡ place_behind i (suc k) s
unfolding place_behind
pass i k c s n = rw (ne_eqb c 35 n, place_behind)

pub stop-here : (k c : ℕ) (s : List ℕ) → c ≡ 35 → place_behind 0 k (c ∷ s) ≡ suc k
unfolding place_behind
stop-here k c s e = rw (eq-eqb c 35 e, place_behind)

pub next-hash : (i k c : ℕ) (s : List ℕ) → c ≡ 35 → place_behind (suc i) k (c ∷ s) ≡ place_behind i (suc k) s
unfolding place_behind
next-hash i k c s e = rw (eq-eqb c 35 e, place_behind)

-- ---- the scan for one hash

-- the place behind the hash that is found, if any, so many bytes behind place k; or the end, m
abbrev found_at : ℕ → ℕ → Option ℕ → ℕ
found_at k m None = m
found_at k m (Some n) = k + n + 1

hash_from : (k j : ℕ) (s : List ℕ) → place_behind 0 (k + j) s ≡ found_at k (k + j + length s) (position_from (λ c. eqb c 35) j s)
unfolding place_behind
hash_from k j [] = sym (add-zero (k + j))
hash_from k j (c ∷ s) = go (eqb c 35) (hash_from k (j + 1) s)
  where
    go : (b : Bool) → place_behind 0 (k + (j + 1)) s ≡ found_at k (k + (j + 1) + length s) (position_from (λ d. eqb d 35) (j + 1) s) →
        elim b [ true ↦ suc (k + j) | false ↦ place_behind 0 (suc (k + j)) s ] ≡ found_at k (k + j + suc (length s)) (cond b (Some j) (position_from (λ d. eqb d 35) (j + 1) s))
    go true h = sym (add-one (k + j))
    go false h =
        let e : suc (k + j) ≡ k + (j + 1) = omega arith in
        let d : k + (j + 1) + length s ≡ k + j + suc (length s) = omega arith in
        ap (λ (n : ℕ). place_behind 0 n s) e ∙ h ∙ ap (λ (m : ℕ). found_at k m (position_from (λ d. eqb d 35) (j + 1) s)) d

module _ (s : List ℕ) (from : ℕ) {o : Option ℕ} (found : o ≡ position (λ c. eqb c 35) (drop from s)) where
  behind : place_behind 0 from (drop from s) ≡ found_at from (from + length (drop from s)) o
  behind =
      let e = hash_from from 0 (drop from s) in
      let d = found ∙ position_from-zero (λ c. eqb c 35) (drop from s) in
      (simp add-zero at e) ∙ ap (found_at from (from + length (drop from s))) (sym d)

  pub behind-some : {n : ℕ} → o ≡ Some n → from + n + 1 ≡ place_behind 0 from (drop from s)
  behind-some e = sym (behind ∙ ap (found_at from (from + length (drop from s))) e)

  pub behind-none : from ≤ length s → o ≡ None → length s ≡ place_behind 0 from (drop from s)
  behind-none h e =
      let d : length s ≡ from + length (drop from s) = omega (arith, length-drop from s) in
      d ∙ sym (behind ∙ ap (found_at from (from + length (drop from s))) e)

-- ---- the scan for one after the other

-- the place lies at most behind the end
within : (k : ℕ) (s : List ℕ) → (k ≤ place_behind 0 k s) × (place_behind 0 k s ≤ k + length s)
unfolding place_behind
within k [] = omega arith
within k (c ∷ s) = go (eqb c 35) (within (suc k) s)
  where
    go : (b : Bool) → (suc k ≤ place_behind 0 (suc k) s) × (place_behind 0 (suc k) s ≤ suc k + length s) →
        (k ≤ elim b [ true ↦ suc k | false ↦ place_behind 0 (suc k) s ]) × (elim b [ true ↦ suc k | false ↦ place_behind 0 (suc k) s ] ≤ k + suc (length s))
    go true h = omega arith
    go false h = omega arith

-- the hash behind the next one is looked for behind it
onward : (j k : ℕ) (s : List ℕ) → place_behind (suc j) k s ≡ place_behind j (place_behind 0 k s) (drop (place_behind 0 k s - k) s)
unfolding place_behind
onward j k [] = let e : k - k ≡ 0 = omega arith in rw e
onward j k (c ∷ s) = go (eqb c 35) (onward j (suc k) s) (within (suc k) s).0
  where
    go : (b : Bool) → place_behind (suc j) (suc k) s ≡ place_behind j (place_behind 0 (suc k) s) (drop (place_behind 0 (suc k) s - suc k) s) → suc k ≤ place_behind 0 (suc k) s →
        elim b [ true ↦ place_behind j (suc k) s | false ↦ place_behind (suc j) (suc k) s ]
        ≡ place_behind j (elim b [ true ↦ suc k | false ↦ place_behind 0 (suc k) s ]) (drop (elim b [ true ↦ suc k | false ↦ place_behind 0 (suc k) s ] - k) (c ∷ s))
    go true h l = let e : suc k - k ≡ 1 = omega arith in rw e
    go false h l = let e : place_behind 0 (suc k) s - k ≡ suc (place_behind 0 (suc k) s - suc k) = omega arith in rw e h

-- i hashes are behind place p
pub record Passing (s : List ℕ) (i p : ℕ) : Type 0 where
  pub inside : p ≤ length s
  pub same : (j : ℕ) → place_behind (i + j) 0 s ≡ place_behind j p (drop p s)

module _ {s : List ℕ} {i p : ℕ} (w : Passing s i p) {q : ℕ} (e : q ≡ place_behind 0 p (drop p s)) where
  -- the next is hash number i
  pub passing-place : q ≡ place_behind i 0 s
  passing-place = e ∙ sym (w.same 0) ∙ ap (λ (n : ℕ). place_behind n 0 s) (add-zero i)

  pub passing-turn : Passing s (i + 1) q
  passing-turn =
      let b = within p (drop p s) in
      let m : length (drop p s) ≡ length s - p = simp length-drop in
      let k : p + (q - p) ≡ q = omega arith in
      record {
        inside = let l = w.inside in omega arith;
        same = λ j.
            let n : i + 1 + j ≡ i + suc j = omega arith in
            ap (λ (x : ℕ). place_behind x 0 s) n ∙ w.same (suc j) ∙ onward j p (drop p s) ∙ ap (λ (x : ℕ). place_behind j x (drop (x - p) (drop p s))) (sym e) ∙ ap (place_behind j q) (drop-drop (q - p) p s ∙ ap (λ (x : ℕ). drop x s) k);
      }
