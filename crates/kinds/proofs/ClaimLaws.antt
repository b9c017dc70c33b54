-- Claims that hold throughout a tree: of it and of every tree in it. Assumes nothing.
use mathlib.Core.Path.{◌≡◌, refl, sym, subst}
use mathlib.Core.Logic.{◌↔◌, ⊎_elim}
use mathlib.Core.List.Memᴰ
use mathlib.Core.List.{Memᴰ}
use Rattle.meaning.specs.declared.Sort.{Sort}
use Rattle.meaning.specs.Tree.{Tree}
use Rattle.kinds.specs.declared.Kind.{Kind}
use Rattle.kinds.specs.declared.Shape.{Shape}
use Rattle.kinds.specs.declared.Shape.TheVariants.{Wrong, Bare, Valued, Named, One, Two, Three}
use Rattle.kinds.specs.Kinds.{Args, row}
use Rattle.kinds.specs.Rows.{make, Known, SomeTree, operands_in, Part, itself, operand, PartOf}
use Rattle.kinds.proofs.RowLaws.{Each, by_rows, each_of, rows-make}

-- the operands' claims together
abbrev pub together : (h : Shape) (x : Args h) → Each (λ s t. Type 0) h x → Type 0
together Wrong x y = Unit {0}
together Bare x y = Unit {0}
together Valued x y = Unit {0}
together Named x y = Unit {0}
together (One s) x y = y
together (Two s t) x y = y.0 × y.1
together (Three s t u) x y = y.0 × y.1 × y.2

-- the claim holds of a tree and of every tree in it
unfoldable pub Throughout : ((s : Sort) → Tree s → Type 0) → {s : Sort} → Tree s → Type 0
Throughout Q t = by_rows (λ s u. Type 0) (λ k q x y. Q (row k).gives (make k x) × together (row k).shape x y) t

-- throughout each operand
abbrev pub Parts : ((s : Sort) → Tree s → Type 0) → (h : Shape) → Args h → Type 0
Parts Q h x = together h x (each_of (λ s t. Type 0) (λ s t. Throughout Q t) h x)

-- of a tree that is made of a kind: the tree itself, and throughout its operands
pub throughout-make : (Q : (s : Sort) → Tree s → Type 0) (k : Kind) → Known (row k).shape → (x : Args (row k).shape) → Throughout Q (make k x) ≡ (Q (row k).gives (make k x) × Parts Q (row k).shape x)
unfolding Throughout
throughout-make Q k q x = rows-make (λ s u. Type 0) (λ k q x y. Q (row k).gives (make k x) × together (row k).shape x y) k q x

-- such a claim holds of the tree itself
pub own : (Q : (s : Sort) → Tree s → Type 0) {s : Sort} (t : Tree s) → Throughout Q t → Q s t
own Q t = by_rows (λ s u. Throughout Q u → Q s u) (λ k q x y h. (rw (throughout-make Q k q x) at h).0) t

-- a part of a part is a part
pub part-part : {r s t : SomeTree} → Part r s → Part s t → Part r t
part-part itself q = q
part-part (operand k x m p) q = operand k x m (part-part p q)

-- a kind with an operand is known
has-operand : (h : Shape) (x : Args h) {u : SomeTree} → Memᴰ u (operands_in h x) → Known h
has-operand Wrong x m = absurd (Memᴰ.not-nil m)
has-operand Bare x m = tt
has-operand Valued x m = tt
has-operand Named x m = tt
has-operand (One s) x m = tt
has-operand (Two s t) x m = tt
has-operand (Three s t u) x m = tt

-- ---- a claim holds throughout a tree exactly where it holds of every part
module _ (Q : (s : Sort) → Tree s → Type 0) where
  -- throughout a tree of either sort
  abbrev All : SomeTree → Type 0
  All t = Throughout Q t.1

  of-operand : (h : Shape) (x : Args h) → Known h → Parts Q h x → (u : SomeTree) → Memᴰ u (operands_in h x) → All u
  of-operand Wrong x q p u m = absurd q
  of-operand Bare x q p u m = absurd (Memᴰ.not-nil m)
  of-operand Valued x q p u m = absurd (Memᴰ.not-nil m)
  of-operand Named x q p u m = absurd (Memᴰ.not-nil m)
  of-operand (One s) x q p u m = subst All (sym (Memᴰ.eq_of_singleton m)) p
  of-operand (Two s t) x q p u m = ⊎_elim (λ e. subst All (sym e) p.0) (λ n. subst All (sym (Memᴰ.eq_of_singleton n)) p.1) (Memᴰ.cases_cons m)
  of-operand (Three s t v) x q p u m =
      ⊎_elim (λ e. subst All (sym e) p.0)
      (λ n. ⊎_elim (λ e. subst All (sym e) p.1) (λ o. subst All (sym (Memᴰ.eq_of_singleton o)) p.2) (Memᴰ.cases_cons n))
      (Memᴰ.cases_cons m)

  -- down to a part
  descend : {u t : SomeTree} → Part u t → All t → All u
  descend itself h = h
  descend (operand k x m p) h =
      let q = has-operand (row k).shape x m in
      of-operand (row k).shape x q (rw (throughout-make Q k q x) at (descend p h)).1 _ m

  -- up from the parts of t
  module _ (t : SomeTree) (every : (u : SomeTree) → Part u t → Q u.0 u.1) where
    abbrev Here : (s : Sort) → Tree s → Type 0
    Here s u = Part (s, u) t → Throughout Q u

    gather : (h : Shape) (x : Args h) → Each Here h x → ((u : SomeTree) → Memᴰ u (operands_in h x) → Part u t) → Parts Q h x
    gather Wrong x y p = tt
    gather Bare x y p = tt
    gather Valued x y p = tt
    gather Named x y p = tt
    gather (One s) x y p = y (p _ (Memᴰ.head refl))
    gather (Two s t) x y p = (y.0 (p _ (Memᴰ.head refl)), y.1 (p _ (Memᴰ.tail (Memᴰ.head refl))))
    gather (Three s t u) x y p = (y.0 (p _ (Memᴰ.head refl)), y.1 (p _ (Memᴰ.tail (Memᴰ.head refl))), y.2 (p _ (Memᴰ.tail (Memᴰ.tail (Memᴰ.head refl)))))

    ascend : {s : Sort} (u : Tree s) → Here s u
    ascend u = by_rows Here (λ k q x y p. rw (throughout-make Q k q x) (every _ p, gather (row k).shape x y (λ v m. operand k x m p))) u

  pub throughout-parts : {s : Sort} (t : Tree s) → Throughout Q t ↔ ((r : Sort) (u : Tree r) → PartOf u t → Q r u)
  throughout-parts {s} t = (λ h r u p. own Q u (descend p h), λ h. ascend (s, t) (λ u p. h u.0 u.1 p) t itself)
