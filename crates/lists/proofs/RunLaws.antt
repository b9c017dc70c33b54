-- Laws of lists that stand at numbered places. Assumes nothing.
use Prim.Native.Nat.{ℕ, zero, suc, ◌+◌, ◌-◌, ◌≤◌, ◌<◌, min}
use mathlib.Core.Path.{◌≡◌, refl, sym, ap, ap₂, subst, ◌∙◌}
use mathlib.Core.List.{List, [], ◌∷◌, ◌++◌}
use native.Mathlib.Nat.{add-zero, zero-add, add-suc, suc-add, add_assoc, zero-sub, suc-sub-suc, sub-zero, zero-min, min-zero, suc-min-suc}
use native.Mathlib.Omega.{arith}
use lib.ListN.{length, length-append, get_or, take, drop, length-take, length-drop}
use lib.Seq.{get_or-take, get_or-drop}
use Rattle.lists.specs.Places.{at, from}
use Rattle.lists.specs.Run.{Stands, Run}

module _ {A : Type 0} (f : ℕ → A) where
  pub stands-append : (xs ys : List A) (i : ℕ) → Stands f i xs → Stands f (i + length xs) ys → Stands f i (xs ++ ys)
  stands-append [] ys i h t = subst (λ (k : ℕ). Stands f k ys) (add-zero i) t
  stands-append (x ∷ xs) ys i h t = (h.0, stands-append xs ys (suc i) h.1 (subst (λ (k : ℕ). Stands f k ys) (add-suc i (length xs) ∙ sym (suc-add i (length xs))) t))

  pub stands-split : (xs ys : List A) (i : ℕ) → Stands f i (xs ++ ys) → Stands f i xs × Stands f (i + length xs) ys
  stands-split [] ys i h = (tt, subst (λ (k : ℕ). Stands f k ys) (sym (add-zero i)) h)
  stands-split (x ∷ xs) ys i h =
      let w = stands-split xs ys (suc i) h.1 in
      ((h.0, w.0), subst (λ (k : ℕ). Stands f k ys) (suc-add i (length xs) ∙ sym (add-suc i (length xs))) w.1)

  pub stands_from : (xs : List A) (i : ℕ) → Stands f i xs → from f i (length xs) ≡ xs
  stands_from [] i h = refl
  stands_from (x ∷ xs) i h = ap₂ ◌∷◌ h.0 (stands_from xs (suc i) h.1)

  pub stands_at : (xs : List A) (i : ℕ) → Stands f i xs → (d : A) (j : ℕ) → j < length xs → f (i + j) ≡ get_or xs j d
  stands_at [] i h d j l = absurd (omega arith)
  stands_at (x ∷ xs) i h d zero l = ap f (add-zero i) ∙ h.0
  stands_at (x ∷ xs) i h d (suc j) l = ap f (add-suc i j ∙ sym (suc-add i j)) ∙ stands_at xs (suc i) h.1 d j (omega arith)

  pub run-append : {xs ys : List A} {i j e : ℕ} → Run f i xs j → Run f j ys e → Run f i (xs ++ ys) e
  run-append {xs} {ys} {i} h t = record {
    each = stands-append xs ys i h.each (subst (λ (k : ℕ). Stands f k ys) (sym h.end) t.each);
    end = rw length-append (omega (arith, h.end, t.end));
  }

  pub run-one : {x : A} {i e : ℕ} → f i ≡ x → i + 1 ≡ e → Run f i (x ∷ []) e
  run-one p q = record { each = (p, tt); end = q }

  -- the two parts of a run
  pub run-split : {xs ys : List A} {i e : ℕ} → Run f i (xs ++ ys) e → Run f i xs (i + length xs) × Run f (i + length xs) ys e
  run-split {xs} {ys} {i} {e} h =
      let w = stands-split xs ys i h.each in
      (record { each = w.0; end = refl }, record { each = w.1; end = rw add_assoc (rw length-append at h.end) })

  pub stands_of : (xs : List A) (i : ℕ) (d : A) → ((j : ℕ) → j < length xs → f (i + j) ≡ get_or xs j d) → Stands f i xs
  stands_of [] i d h = tt
  stands_of (x ∷ xs) i d h =
      (ap f (sym (add-zero i)) ∙ h 0 (omega arith), stands_of xs (suc i) d (λ j l. ap f (suc-add i j ∙ sym (add-suc i j)) ∙ h (suc j) (omega arith)))

  -- two lists of one length that stand in the same place are the same
  pub stands_same : (xs ys : List A) (i : ℕ) → Stands f i xs → Stands f i ys → length xs ≡ length ys → xs ≡ ys
  stands_same xs ys i p q e = sym (stands_from xs i p) ∙ ap (from f i) e ∙ stands_from ys i q

-- a list's own things, by their number
module _ {A : Type 0} (s : List A) (d : A) where
  pub run-part : (i n : ℕ) → i + n ≤ length s → Run (at d s) i (take n (drop i s)) (i + n)
  run-part i n h =
      let l : length (take n (drop i s)) ≡ n = rw (length-take, length-drop) (omega arith) in
      record {
        each = stands_of (at d s) (take n (drop i s)) i d (λ j k. sym (get_or-take n (drop i s) j d (omega arith) ∙ get_or-drop i s j d));
        end = ap (λ (k : ℕ). i + k) l;
      }

  pub run-all : Run (at d s) 0 s (length s)
  run-all = record { each = stands_of (at d s) s 0 d (λ j k. ap (at d s) (zero-add j)); end = zero-add (length s) }

  -- what stands from 0 to the end is the list
  pub run_is : {xs : List A} → Run (at d s) 0 xs (length s) → xs ≡ s
  run_is {xs} h = stands_same (at d s) xs s 0 h.each run-all.each (sym (zero-add (length xs)) ∙ h.end)

  pub part-is : {xs : List A} {i e : ℕ} → Run (at d s) i xs e → e ≤ length s → take (length xs) (drop i s) ≡ xs
  part-is {xs} {i} {e} h l =
      let w = h.end in
      let p = run-part i (length xs) (omega arith) in
      stands_same (at d s) (take (length xs) (drop i s)) xs i p.each h.each (rw (length-take, length-drop) (omega arith))

-- the same run, by other words for its ends
pub shift : {A : Type 0} {f : ℕ → A} {i j e d : ℕ} {xs : List A} → Run f i xs e → i ≡ j → e ≡ d → Run f j xs d
shift {A} {f} {i} {j} {e} {d} {xs} h p q = subst (λ (k : ℕ). Run f k xs d) p (subst (λ (k : ℕ). Run f i xs k) q h)

pub length_from : {A : Type 0} (f : ℕ → A) (i n : ℕ) → length (from f i n) ≡ n
length_from f i zero = refl
length_from f i (suc n) = ap suc (length_from f (suc i) n)

pub from-same : {A : Type 0} (f g : ℕ → A) (n i j : ℕ) → ((k : ℕ) → k < n → f (i + k) ≡ g (j + k)) → from f i n ≡ from g j n
from-same f g zero i j h = refl
from-same f g (suc n) i j h =
    ap₂ ◌∷◌ (ap f (sym (add-zero i)) ∙ h 0 (omega arith) ∙ ap g (add-zero j))
    (from-same f g n (suc i) (suc j) (λ k l. ap f (suc-add i k ∙ sym (add-suc i k)) ∙ h (suc k) (omega arith) ∙ ap g (add-suc j k ∙ sym (suc-add j k))))

pub take-from : {A : Type 0} (f : ℕ → A) (n i m : ℕ) → take n (from f i m) ≡ from f i (min n m)
take-from f zero i m = ap (from f i) (sym (zero-min m))
take-from f (suc n) i zero = ap (from f i) (sym (min-zero (suc n)))
take-from f (suc n) i (suc m) = ap (λ (l : List _). f i ∷ l) (take-from f n (suc i) m) ∙ ap (from f i) (sym (suc-min-suc n m))

pub drop-from : {A : Type 0} (f : ℕ → A) (n i m : ℕ) → drop n (from f i m) ≡ from f (i + n) (m - n)
drop-from f zero i m = ap₂ (from f) (sym (add-zero i)) (sym (sub-zero m))
drop-from f (suc n) i zero = ap (from f (i + suc n)) (sym (zero-sub (suc n)))
drop-from f (suc n) i (suc m) = drop-from f n (suc i) m ∙ ap₂ (from f) (suc-add i n ∙ sym (add-suc i n)) (sym (suc-sub-suc m n))

-- what a list of things has at a number
pub get_or-from : {A : Type 0} (f : ℕ → A) (d : A) (n i j : ℕ) → j < n → get_or (from f i n) j d ≡ f (i + j)
get_or-from f d zero i j h = absurd (omega arith)
get_or-from f d (suc n) i zero h = let e : i ≡ i + 0 = omega arith in ap f e
get_or-from f d (suc n) i (suc j) h = let e : suc i + j ≡ i + suc j = omega arith in get_or-from f d n (suc i) j (omega arith) ∙ ap f e
