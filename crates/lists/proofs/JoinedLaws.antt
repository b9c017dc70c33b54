-- Laws of lists that stand one behind the other. Assumes nothing.
use Prim.Native.Nat.{ℕ, zero, suc, ◌+◌, ◌*◌, ◌≤◌, ◌<◌}
use mathlib.Core.Path.{◌≡◌, refl, sym, ap, ◌∙◌}
use mathlib.Core.Logic.{⊎_elim}
use mathlib.Core.List.{List, [], ◌∷◌, ◌++◌, append_assoc, append-nil}
use native.Mathlib.Nat.{le_refl, le_of_suc-le-suc, eq-or-lt_of_le, zero-add, add-zero, add-suc, suc-add, mul-zero, mul-suc}
use native.Mathlib.Numerals.{add-one}
use native.Mathlib.Omega.{arith}
use lib.ListN.{length, length-append}
use Rattle.lists.specs.Places.{from}
use Rattle.lists.specs.Joined.{joined, joined_below}

pub joined-append : {A B : Type 0} (f : A → List B) (xs ys : List A) → joined f (xs ++ ys) ≡ joined f xs ++ joined f ys
joined-append f [] ys = refl
joined-append f (x ∷ xs) ys = ap (λ (l : List _). f x ++ l) (joined-append f xs ys) ∙ sym (append_assoc (f x) (joined f xs) (joined f ys))

-- ---- numbers from i on
module _ {B : Type 0} (f : ℕ → List B) where
  more : (i n : ℕ) → joined f (from (λ (j : ℕ). j) i (suc n)) ≡ joined f (from (λ (j : ℕ). j) i n) ++ f (i + n)
  more i zero = append-nil (f i) ∙ ap f (sym (add-zero i))
  more i (suc n) =
      ap (λ (l : List B). f i ++ l) (more (suc i) n ∙ ap (λ (k : ℕ). joined f (from (λ (j : ℕ). j) (suc i) n) ++ f k) (suc-add i n ∙ sym (add-suc i n)))
      ∙ sym (append_assoc (f i) (joined f (from (λ (j : ℕ). j) (suc i) n)) (f (i + suc n)))

  pub joined-none : joined_below f 0 ≡ []
  unfolding joined_below
  joined-none = refl

  pub joined-more : (n : ℕ) → joined_below f n ++ f n ≡ joined_below f (n + 1)
  unfolding joined_below
  joined-more n = rw add-one (sym (more 0 n ∙ ap (λ (k : ℕ). joined f (from (λ (j : ℕ). j) 0 n) ++ f k) (zero-add n)))

  -- how long they are: one more, and never fewer
  pub length_more : (n : ℕ) → length (joined_below f (n + 1)) ≡ length (joined_below f n) + length (f n)
  length_more n = ap length (sym (joined-more n)) ∙ length-append (joined_below f n) (f n)

  fewer : (n m : ℕ) → n ≤ m → length (joined_below f n) ≤ length (joined_below f m)
  fewer n zero h = let e : n ≡ 0 = omega arith in rw e (le_refl _)
  fewer n (suc m) h = ⊎_elim (λ e. rw e (le_refl _)) (λ l. let k = fewer n m (le_of_suc-le-suc l) in omega (arith, rw add-one at (length_more m))) (eq-or-lt_of_le h)

  pub length-within : {n m : ℕ} → n < m → length (joined_below f n) + length (f n) ≤ length (joined_below f m)
  length-within {n} {m} h = let k = fewer (n + 1) m (omega arith) in omega (arith, length_more n)

-- ---- things of one length
pub length-joined : {A B : Type 0} (g : A → List B) (f : ℕ → A) (w m i : ℕ) → ((j : ℕ) → i ≤ j → j < i + m → length (g (f j)) ≡ w) → length (joined g (from f i m)) ≡ w * m
length-joined g f w zero i h = sym (mul-zero w)
length-joined g f w (suc m) i h =
    let p = h i (omega arith) (omega arith) in
    let q = length-joined g f w m (suc i) (λ j k l. h j (omega arith) (omega arith)) in
    rw (length-append, mul-suc) (omega arith)
