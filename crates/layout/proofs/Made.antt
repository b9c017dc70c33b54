-- A tree that is made of a kind: what is found of it, its records and whether it is fine, from the same of its operands. Assumes nothing.
use Prim.Native.Nat.{ℕ, ◌<◌}
use mathlib.Core.Path.{◌≡◌, refl, sym, subst}
use mathlib.Core.List.{Memᴰ}
use lib.IntN.{ℤ}
use Rattle.numbers.specs.Ranges.{Narrow}
use Rattle.meaning.specs.declared.Sort.{Sort}
use Rattle.meaning.specs.declared.Sort.TheVariants.{Integer}
use Rattle.meaning.specs.Tree.{Tree, const, var}
use Rattle.kinds.specs.declared.Kind.{Kind}
use Rattle.kinds.specs.declared.Shape.{Shape}
use Rattle.kinds.specs.declared.Shape.TheVariants.{Wrong, Bare, Valued, Named, One, Two, Three}
use Rattle.kinds.specs.Kinds.{Args, row}
use Rattle.kinds.specs.Rows.{make, Known, SomeTree, operands_in, itself, operand, PartOf}
use Rattle.kinds.proofs.RowLaws.{by_rows}
use Rattle.kinds.proofs.ClaimLaws.{Throughout, part-part, throughout-parts}
use Rattle.kinds.proofs.KindLaws.{valued-is, named-is}
use Rattle.layout.specs.Fold.{Found, of_tree}
use Rattle.layout.specs.Nodes.{Listing, list_by, list_step, listing}
use Rattle.layout.specs.WellFormed.{Fine}

-- ---- what is found of it
module _ {A : Type 0} (step : (k : Kind) → Found A (row k).shape → A) where
  -- what a node of a shape is found from, where its tree is made of x
  abbrev pub found_made : (h : Shape) → Args h → Found A h
  found_made Wrong x = tt
  found_made Bare x = tt
  found_made Valued x = x
  found_made Named x = x
  found_made (One s) x = of_tree step x
  found_made (Two s t) x = (of_tree step x.0, of_tree step x.1)
  found_made (Three s t u) x = (of_tree step x.0, of_tree step x.1, of_tree step x.2)

pub found-make : (k : Kind) → Known (row k).shape → (x : Args (row k).shape) → {A : Type 0} (step : (k : Kind) → Found A (row k).shape → A) → of_tree step (make k x) ≡ step k (found_made step (row k).shape x)
unfolding of_tree
found-make Kind.Unknown q x step = absurd q
found-make Kind.True q x step = refl
found-make Kind.False q x step = refl
found-make Kind.Not q x step = refl
found-make Kind.And q x step = refl
found-make Kind.Or q x step = refl
found-make Kind.Implies q x step = refl
found-make Kind.Iff q x step = refl
found-make Kind.Equal q x step = refl
found-make Kind.Less q x step = refl
found-make Kind.AtMost q x step = refl
found-make Kind.Constant q x step = refl
found-make Kind.Variable q x step = refl
found-make Kind.Minus q x step = refl
found-make Kind.Sum q x step = refl
found-make Kind.Difference q x step = refl
found-make Kind.Product q x step = refl
found-make Kind.If q x step = refl

-- its records
abbrev pub list_made : (h : Shape) → Kind → Args h → Listing
list_made h k x = list_by h k (found_made list_step h x)

pub listing-make : (k : Kind) → Known (row k).shape → (x : Args (row k).shape) → listing (make k x) ≡ list_made (row k).shape k x
listing-make k q x = found-make k q x list_step

-- ---- whether it is fine

-- a leaf holds a constant or a variable's number
pub data Leaf : Type 0 where
  constant : ℤ → Leaf
  variable : ℕ → Leaf
  neither : Leaf

abbrev pub leaf_by : (h : Shape) → Found Leaf h → Leaf
leaf_by Wrong x = neither
leaf_by Bare x = neither
leaf_by Valued x = constant x
leaf_by Named x = variable x
leaf_by (One s) x = neither
leaf_by (Two s t) x = neither
leaf_by (Three s t u) x = neither

abbrev pub leaf_step : (k : Kind) → Found Leaf (row k).shape → Leaf
leaf_step k x = leaf_by (row k).shape x

abbrev pub FineLeaf : ℕ → Leaf → Type 0
FineLeaf v (constant z) = Narrow z
FineLeaf v (variable i) = i < v
FineLeaf v neither = Unit {0}

module _ (v : ℕ) where
  abbrev pub FineMade : (h : Shape) → Args h → Type 0
  FineMade Wrong x = Unit {0}
  FineMade Bare x = Unit {0}
  FineMade Valued x = Narrow x
  FineMade Named x = x < v
  FineMade (One s) x = Fine v x
  FineMade (Two s t) x = Fine v x.0 × Fine v x.1
  FineMade (Three s t u) x = Fine v x.0 × Fine v x.1 × Fine v x.2

  -- it is so itself
  abbrev Inner : Shape → Type 0
  Inner h = (x : Args h) → FineLeaf v (leaf_by h (found_made leaf_step h x))

  abbrev LeafFine : Kind → Type 0
  LeafFine k = (x : Args (row k).shape) → Fine v (make k x) → FineLeaf v (leaf_by (row k).shape (found_made leaf_step (row k).shape x))

  leaf-fine : (k : Kind) (h : Shape) → (row k).shape ≡ h → LeafFine k
  leaf-fine k Wrong e = λ x f. subst Inner (sym e) (λ x. tt) x
  leaf-fine k Bare e = λ x f. subst Inner (sym e) (λ x. tt) x
  leaf-fine k Valued e = subst LeafFine (sym (valued-is k e)) (λ x f. f.constants x itself)
  leaf-fine k Named e = subst LeafFine (sym (named-is k e)) (λ x f. f.variables x itself)
  leaf-fine k (One s) e = λ x f. subst Inner (sym e) (λ x. tt) x
  leaf-fine k (Two s t) e = λ x f. subst Inner (sym e) (λ x. tt) x
  leaf-fine k (Three s t u) e = λ x f. subst Inner (sym e) (λ x. tt) x

  -- and so is each part of it
  pub part-fine : {r s : Sort} {u : Tree r} {t : Tree s} → Fine v t → PartOf u t → Fine v u
  part-fine f p = record { constants = λ z c. f.constants z (part-part c p); variables = λ i c. f.variables i (part-part c p) }

  operand-fine : (k : Kind) (x : Args (row k).shape) → Fine v (make k x) → (t : SomeTree) → Memᴰ t (operands_in (row k).shape x) → Fine v t.1
  operand-fine k x f t m = part-fine f (operand k x m itself)

  made-fine : (h : Shape) (x : Args h) → FineLeaf v (leaf_by h (found_made leaf_step h x)) → ((t : SomeTree) → Memᴰ t (operands_in h x) → Fine v t.1) → FineMade h x
  made-fine Wrong x l f = tt
  made-fine Bare x l f = tt
  made-fine Valued x l f = l
  made-fine Named x l f = l
  made-fine (One s) x l f = f _ (Memᴰ.head refl)
  made-fine (Two s t) x l f = (f _ (Memᴰ.head refl), f _ (Memᴰ.tail (Memᴰ.head refl)))
  made-fine (Three s t u) x l f = (f _ (Memᴰ.head refl), f _ (Memᴰ.tail (Memᴰ.head refl)), f _ (Memᴰ.tail (Memᴰ.tail (Memᴰ.head refl))))

  pub fine-parts : (k : Kind) (x : Args (row k).shape) → Fine v (make k x) → FineMade (row k).shape x
  fine-parts k x f = made-fine (row k).shape x (leaf-fine k (row k).shape refl x f) (operand-fine k x f)

  -- ---- a tree is fine exactly where each leaf in it is
  abbrev pub FineHere : (s : Sort) → Tree s → Type 0
  FineHere s t = FineLeaf v (of_tree leaf_step t)

  pub throughout-fine : {s : Sort} (t : Tree s) → Throughout FineHere t → Fine v t
  unfolding of_tree
  throughout-fine t h =
      let every = (throughout-parts FineHere t).0 h in
      record { constants = λ z p. every Integer (const z) p; variables = λ i p. every Integer (var i) p }

  here-fine : {s : Sort} (t : Tree s) → Fine v t → FineHere s t
  here-fine t = by_rows (λ s u. Fine v u → FineHere s u) (λ k q x y f. rw (found-make k q x leaf_step) (leaf-fine k (row k).shape refl x f)) t

  pub fine-throughout : {s : Sort} (t : Tree s) → Fine v t → Throughout FineHere t
  fine-throughout t f = (throughout-parts FineHere t).1 (λ r u p. here-fine u (part-fine f p))
