-- A table of refusals has one answer, and a cascade of tests answers exactly what its table says: row by row, one after the other, and over numbers. Assumes nothing.
use Prim.Native.Nat.{ℕ, zero, suc, ◌+◌, ◌≤◌, ◌<◌}
use mathlib.Core.Path.{◌≡◌, refl, sym, ap, ◌∙◌}
use mathlib.Core.Logic.{◌⊎◌, inl, inr, ⊎_elim}
use mathlib.Core.Bool.{Bool, true, false}
use mathlib.Core.List.{List, [], ◌∷◌}
use mathlib.Core.Option.{Option, none, some}
use native.Mathlib.Nat.{zero-add, suc-add, eq-or-lt_of_le}
use native.Mathlib.Decide.{dec_lt}
use native.Mathlib.Omega.{arith}
use borrow.Author.Tests.{leb-true, leb-false}
use lib.Dec.{leb}
use lib.ListN.{length}
use Rattle.lists.specs.First.{◌otherwise◌, first}
use Rattle.lists.proofs.FirstLaws.{first-suc}
use Rattle.lists.proofs.Decided.{Decides, denied}
use Rattle.refusals.specs.declared.Refusal.{Refusal}
use Rattle.refusals.specs.Said.{unless}
use Rattle.refusals.specs.Rows.{Row, row, ◌then◌, each_of, Applies, Answered, NoneApplies, Exactly}
use Rattle.refusals.proofs.SaidLaws.{same-refusal, unless-some}

some-none : {A B : Type 0} {x : A} → none ≡ some x → B
some-none e = absurd (let z : ◌≡◌ {A = ℕ} 0 1 = cc in omega arith)

none-some : {A B : Type 0} {x : A} → some x ≡ none → B
none-some e = absurd (let z : ◌≡◌ {A = ℕ} 0 1 = cc in omega arith)

-- ---- one answer
same_rank : (rows : List Row) (i : ℕ) {r q : Refusal} → Applies rows i r → Applies rows i q → r ≡ q
same_rank [] i a b = absurd a
same_rank (x ∷ xs) zero a b = same-refusal (sym a.1 ∙ b.1) (sym a.2 ∙ b.2)
same_rank (x ∷ xs) (suc i) a b = same_rank xs i a b

pub one_answer : {rows : List Row} {r q : Refusal} → Answered rows r → Answered rows q → r ≡ q
one_answer {rows} {r} {q} a b = go (dec_lt a.rank b.rank) (dec_lt b.rank a.rank)
  where
    go : Dec (a.rank < b.rank) → Dec (b.rank < a.rank) → r ≡ q
    go (yes l) d = absurd (b.first _ r l a.applies)
    go (no l) (yes g) = absurd (a.first _ q g b.applies)
    go (no l) (no g) =
        let e : a.rank ≡ b.rank = omega arith in
        same_rank rows b.rank (rw e at a.applies) b.applies

-- a table has one answer
pub exactly-once : {rows : List Row} (o q : Option Refusal) → Exactly rows o → Exactly rows q → o ≡ q
exactly-once none q f g = sym (g.passed.1 (f.passed.0 refl))
exactly-once (some r) q f g = sym ((g.refused r).1 ((f.refused r).0 refl))

-- so it is enough that a refusal is by the table, and that silence is
exactly-by : {rows : List Row} (o : Option Refusal) → ((r : Refusal) → o ≡ some r → Answered rows r) → (o ≡ none → NoneApplies rows) → Exactly rows o
exactly-by none f g = record {
  refused = λ r. (f r, λ a. absurd (g refl _ r a.applies));
  passed = (g, λ h. refl);
}
exactly-by (some x) f g = record {
  refused = λ r. (f r, λ a. ap some (one_answer (f x refl) a));
  passed = (g, λ h. absurd (let a = f x refl in h _ x a.applies));
}

-- ---- one row
pub exactly-row : {C : Type 0} (b : Bool) (n p : ℕ) → (b ≡ true → C → ⊥) → (b ≡ false → C) → Exactly (row n p C) (unless b n p)
exactly-row {C} b n p f g = exactly-by (unless b n p) refused (λ e. passed b refl e)
  where
    refused : (r : Refusal) → unless b n p ≡ some r → Answered (row n p C) r
    refused r e =
        let w = unless-some b n p e in
        record { rank = 0; applies = (g w.0, ap (λ (q : Refusal). q.number) (sym w.1), ap (λ (q : Refusal). q.place) (sym w.1)); first = λ i q l a. omega arith }

    passed : (c : Bool) → b ≡ c → unless c n p ≡ none → NoneApplies (row n p C)
    passed true d e zero r a = f d a.0
    passed true d e (suc i) r a = a
    passed false d e i r a = none-some e

-- by what the test decides
pub exactly-unless : {P : Type 0} {b : Bool} (n p : ℕ) → Decides b P → Exactly (row n p (P → ⊥)) (unless b n p)
exactly-unless {P} {b} n p d = exactly-row b n p (λ e h. h (d.0 e)) (denied d).0

-- where m is more than k
pub exactly-most : (m k n p : ℕ) → Exactly (row n p (k < m)) (unless (leb m k) n p)
exactly-most m k n p = exactly-row (leb m k) n p (λ e h. omega (arith, leb-true m k e)) (leb-false m k)

-- ---- one table after another
applies-inside : (xs : List Row) (i : ℕ) (r : Refusal) → Applies xs i r → i < length xs
applies-inside [] i r a = absurd a
applies-inside (x ∷ xs) zero r a = omega arith
applies-inside (x ∷ xs) (suc i) r a = omega (arith, applies-inside xs i r a)

applies-left : (xs ys : List Row) (i : ℕ) (r : Refusal) → Applies xs i r → Applies (xs then ys) i r
applies-left [] ys i r a = absurd a
applies-left (x ∷ xs) ys zero r a = a
applies-left (x ∷ xs) ys (suc i) r a = applies-left xs ys i r a

applies-right : (xs ys : List Row) (i : ℕ) (r : Refusal) → Applies ys i r → Applies (xs then ys) (length xs + i) r
applies-right [] ys i r a = rw zero-add a
applies-right (x ∷ xs) ys i r a = rw suc-add (applies-right xs ys i r a)

-- the rank in the second table
record Later (xs ys : List Row) (i : ℕ) (r : Refusal) : Type 0 where
  rank : ℕ
  there : i ≡ length xs + rank
  applies : Applies ys rank r

applies-split : (xs ys : List Row) (i : ℕ) {r : Refusal} → Applies (xs then ys) i r → Applies xs i r ⊎ Later xs ys i r
applies-split [] ys i a = inr (record { rank = i; there = omega arith; applies = a })
applies-split (x ∷ xs) ys zero a = inl a
applies-split (x ∷ xs) ys (suc i) a = ⊎_elim inl (λ w. inr (record { rank = w.rank; there = omega (arith, w.there); applies = w.applies })) (applies-split xs ys i a)

module _ (xs ys : List Row) {r : Refusal} where
  answered-left : Answered xs r → Answered (xs then ys) r
  answered-left a = record {
    rank = a.rank;
    applies = applies-left xs ys a.rank r a.applies;
    first = λ i t l b. ⊎_elim (a.first i t l) (λ w. omega (arith, w.there, applies-inside xs a.rank r a.applies)) (applies-split xs ys i b);
  }

  answered-right : NoneApplies xs → Answered ys r → Answered (xs then ys) r
  answered-right silent a = record {
    rank = length xs + a.rank;
    applies = applies-right xs ys a.rank r a.applies;
    first = λ i t l b. ⊎_elim (silent i t) (λ w. a.first w.rank t (omega (arith, w.there)) w.applies) (applies-split xs ys i b);
  }

  -- and back: by the first, or by the second where the first is silent
  pub answered-split : Answered (xs then ys) r → Answered xs r ⊎ (NoneApplies xs × Answered ys r)
  answered-split a = ⊎_elim (λ b. inl (record { rank = a.rank; applies = b; first = λ i t l c. a.first i t l (applies-left xs ys i t c) })) (λ w. inr (silent w, later w)) (applies-split xs ys a.rank a.applies)
    where
      silent : Later xs ys a.rank r → NoneApplies xs
      silent w i t c = a.first i t (omega (arith, w.there, applies-inside xs i t c)) (applies-left xs ys i t c)

      later : Later xs ys a.rank r → Answered ys r
      later w = record { rank = w.rank; applies = w.applies; first = λ i t l c. a.first (length xs + i) t (omega (arith, w.there)) (applies-right xs ys i t c) }

pub exactly-then : {xs ys : List Row} {o q : Option Refusal} → Exactly xs o → (o ≡ none → Exactly ys q) → Exactly (xs then ys) (o otherwise q)
exactly-then {xs} {ys} {o} {q} f g = go o f g
  where
    go : (o : Option Refusal) → Exactly xs o → (o ≡ none → Exactly ys q) → Exactly (xs then ys) (o otherwise q)
    go none f g =
        let silent = f.passed.0 refl in
        let h = g refl in
        exactly-by q (λ r e. answered-right xs ys silent ((h.refused r).0 e)) (λ e i t b. ⊎_elim (silent i t) (λ w. h.passed.0 e w.rank t w.applies) (applies-split xs ys i b))
    go (some x) f g = exactly-by (some x) (λ r e. answered-left xs ys ((f.refused r).0 e)) (λ e. none-some e)

-- a table can stand for another with its answer, whatever rows stand behind
pub exactly-instead : {xs ys : List Row} {o : Option Refusal} → Exactly xs o → Exactly ys o → (zs : List Row) {q : Option Refusal} → Exactly (xs then zs) q → Exactly (ys then zs) q
exactly-instead {xs} {ys} {o} f g zs {q} h = exactly-by q refused passed
  where
    silent : NoneApplies xs → NoneApplies ys
    silent n = g.passed.0 (f.passed.1 n)

    refused : (r : Refusal) → q ≡ some r → Answered (ys then zs) r
    refused r e = ⊎_elim (λ a. answered-left ys zs ((g.refused r).0 ((f.refused r).1 a))) (λ w. answered-right ys zs (silent w.0) w.1) (answered-split xs zs ((h.refused r).0 e))

    passed : q ≡ none → NoneApplies (ys then zs)
    passed e i r b =
        let none-there = h.passed.0 e in
        ⊎_elim (silent (λ j t c. none-there j t (applies-left xs zs j t c)) i r) (λ w. none-there (length xs + w.rank) r (applies-right xs zs w.rank r w.applies)) (applies-split ys zs i b)

-- ---- a table for each number
no_row : Exactly [] none
no_row = exactly-by none (λ r e. some-none e) (λ e i r a. a)

pub exactly-each : {table : ℕ → List Row} {f : ℕ → Option Refusal} (n k : ℕ)
    → ((i : ℕ) → k ≤ i → i < k + n → ((j : ℕ) → k ≤ j → j < i → f j ≡ none) → Exactly (table i) (f i))
    → Exactly (each_of table k n) (first f k n)
unfolding first
exactly-each zero k h = no_row
exactly-each {table} {f} (suc n) k h =
    rw (first-suc f k n)
    (exactly-then (h k (omega arith) (omega arith) (λ j l m. absurd (omega arith)))
    (λ e. exactly-each n (suc k) (λ i l m earlier. h i (omega arith) (omega arith) (λ j a b. ⊎_elim (λ p. ap f (sym p) ∙ e) (λ p. earlier j p b) (eq-or-lt_of_le a)))))
