-- Members of lists, lists in which nothing stands twice, and lists in rising order. Assumes nothing.
use mathlib.Core.Path.{◌≡◌, refl, sym, ap, ◌∙◌}
use mathlib.Core.Bool.{Bool, true, false}
use mathlib.Core.Logic.{◌⊎◌, inl, inr, ⊎_elim, ◌↔◌}
use mathlib.Core.List.Memᴰ
use mathlib.Core.List.{List, [], ◌∷◌, ◌++◌, map, Memᴰ}
use Prim.Native.Nat.{suc, ◌≤◌, ◌<◌, zero-le}
use native.Mathlib.Omega.{arith}
use lib.ListN.{length}
use Rattle.lists.specs.Places.{NoRepeats}
use Rattle.meaning.specs.Cases.{keep, those}
use Rattle.meaning.specs.CaseOrder.{Rising}

module _ {A : Type 0} where
  -- a list has a member exactly when it is not empty
  pub some-mem : (l : List A) → 0 < length l → (x : A) × Memᴰ x l
  some-mem [] h = absurd (omega arith)
  some-mem (x ∷ l) h = (x, Memᴰ.head refl)

  pub mem-some : {l : List A} {x : A} → Memᴰ x l → 0 < length l
  mem-some (Memᴰ.head e) = omega arith
  mem-some (Memᴰ.tail m) = omega arith

-- a function that tells the members apart keeps a list free of repeats
pub map-no-repeats : {A B : Type 0} (f : A → B) (l : List A) → ((x y : A) → Memᴰ x l → Memᴰ y l → f x ≡ f y → x ≡ y) → NoRepeats l → NoRepeats (map f l)
map-no-repeats f [] h n = tt
map-no-repeats f (a ∷ l) h n = (
  λ m.
      let r = Memᴰ.of_map f l m in
      n.0 (Memᴰ.cast (h a r.0 (Memᴰ.head refl) (Memᴰ.tail r.1) (sym r.2)) r.1),
  map-no-repeats f l (λ x y p q. h x y (Memᴰ.tail p) (Memᴰ.tail q)) n.1,
)

-- ---- those that pass a test
module _ {A : Type 0} (t : A → Bool) where
  pub mem-those : {x : A} {l : List A} → Memᴰ x l → t x ≡ true → Memᴰ x (those t l)
  mem-those {x} (Memᴰ.head {x = y} {xs = l} e) h = rw (← ap t e, h) (Memᴰ.head e)
  mem-those {x} (Memᴰ.tail {x = y} {xs = l} m) h = by (t y) (mem-those m h)
    where
      by : (b : Bool) → Memᴰ x (those t l) → Memᴰ x (keep b y (those t l))
      by true k = Memᴰ.tail k
      by false k = k

  pub those-mem : {x : A} (l : List A) → Memᴰ x (those t l) → Memᴰ x l × (t x ≡ true)
  those-mem [] m = absurd (Memᴰ.not-nil m)
  those-mem {x} (y ∷ l) m = by (t y) refl m (λ (n : Memᴰ x (those t l)). those-mem l n)
    where
      parted : t y ≡ true → (x ≡ y) ⊎ Memᴰ x (those t l) → (Memᴰ x (those t l) → Memᴰ x l × (t x ≡ true)) → Memᴰ x (y ∷ l) × (t x ≡ true)
      parted e (inl h) k = (Memᴰ.head h, ap t h ∙ e)
      parted e (inr n) k = (Memᴰ.tail (k n).0, (k n).1)

      by : (b : Bool) → t y ≡ b → Memᴰ x (keep b y (those t l)) → (Memᴰ x (those t l) → Memᴰ x l × (t x ≡ true)) → Memᴰ x (y ∷ l) × (t x ≡ true)
      by true e n k = parted e (Memᴰ.cases_cons n) k
      by false e n k = (Memᴰ.tail (k n).0, (k n).1)

  pub those-no-repeats : (l : List A) → NoRepeats l → NoRepeats (those t l)
  those-no-repeats [] n = tt
  those-no-repeats (y ∷ l) n = by (t y) (those-no-repeats l n.1)
    where
      by : (b : Bool) → NoRepeats (those t l) → NoRepeats (keep b y (those t l))
      by true k = (λ m. n.0 (those-mem l m).0, k)
      by false k = k

-- ---- two lists with the same members, each once, are of one length
module _ {A : Type 0} where
  -- the list without the member at a place
  abbrev without : {x : A} {l : List A} → Memᴰ x l → List A
  without (Memᴰ.head {xs = l} e) = l
  without (Memᴰ.tail {x = y} m) = y ∷ without m

  length_without : {x : A} {l : List A} (m : Memᴰ x l) → length l ≡ suc (length (without m))
  length_without (Memᴰ.head e) = refl
  length_without (Memᴰ.tail m) = ap suc (length_without m)

  -- any other member is still there
  still : {x y : A} {l : List A} (m : Memᴰ x l) → (y ≡ x → ⊥) → Memᴰ y l → Memᴰ y (without m)
  still {x} {y} (Memᴰ.head {x = z} {xs = l} e) h k = by (Memᴰ.cases_cons k)
    where
      by : (y ≡ z) ⊎ Memᴰ y l → Memᴰ y l
      by (inl f) = absurd (h (f ∙ sym e))
      by (inr n) = n
  still {x} {y} (Memᴰ.tail {x = z} {xs = l} m) h k = by (Memᴰ.cases_cons k) (λ (n : Memᴰ y l). still m h n)
    where
      by : (y ≡ z) ⊎ Memᴰ y l → (Memᴰ y l → Memᴰ y (without m)) → Memᴰ y (z ∷ without m)
      by (inl f) r = Memᴰ.head f
      by (inr n) r = Memᴰ.tail (r n)

  pub no_longer : (l m : List A) → NoRepeats l → ((x : A) → Memᴰ x l → Memᴰ x m) → length l ≤ length m
  no_longer [] m n h = zero-le
  no_longer (x ∷ l) m n h =
      let k = h x (Memᴰ.head refl) in
      let r = no_longer l (without k) n.1 (λ y p. still k (λ e. n.0 (Memᴰ.cast (sym e) p)) (h y (Memᴰ.tail p))) in
      omega (arith, length_without k)

  pub same_length : (l m : List A) → NoRepeats l → NoRepeats m → ((x : A) → Memᴰ x l ↔ Memᴰ x m) → length l ≡ length m
  same_length l m p q h = omega (arith, no_longer l m p (λ x. (h x).0), no_longer m l q (λ x. (h x).1))

-- ---- lists in rising order
module _ {A : Type 0} (Before : A → A → Type 0) where
  pub append-rising : (l m : List A) → Rising Before l → Rising Before m → ((x y : A) → Memᴰ x l → Memᴰ y m → Before x y) → Rising Before (l ++ m)
  append-rising [] m p q h = q
  append-rising (x ∷ l) m p q h = (
    λ y k. ⊎_elim (p.0 y) (h x y (Memᴰ.head refl)) (Memᴰ.append_cases l k),
    append-rising l m p.1 q (λ y z u v. h y z (Memᴰ.tail u) v),
  )

  pub rising-once : ((x : A) → Before x x → ⊥) → (l : List A) → Rising Before l → NoRepeats l
  rising-once h [] p = tt
  rising-once h (x ∷ l) p = (λ m. h x (p.0 x m), rising-once h l p.1)
