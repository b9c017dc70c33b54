-- Induction over trees by the shapes of the kind table: with it a law about trees has a case for each shape and none for a kind. Assumes nothing.
use mathlib.Core.Path.{◌≡◌, refl}
use Rattle.meaning.specs.declared.Sort.{Sort}
use Rattle.meaning.specs.Tree.{Tree}
use Rattle.kinds.specs.declared.Kind.{Kind}
use Rattle.kinds.specs.declared.Shape.{Shape}
use Rattle.kinds.specs.declared.Shape.TheVariants.{Wrong, Bare, Valued, Named, One, Two, Three}
use Rattle.kinds.specs.Kinds.{Args, row}
use Rattle.kinds.specs.Rows.{make, Known}

-- a claim of each operand, and induction
module _ {ℓ} (P : (s : Sort) → Tree s → Type ℓ) where
  abbrev pub Each : (h : Shape) → Args h → Type ℓ
  Each Bare x = Unit {ℓ}
  Each Valued x = Unit {ℓ}
  Each Named x = Unit {ℓ}
  Each (One s) x = P s x
  Each (Two s t) x = P s x.0 × P t x.1
  Each (Three s t u) x = P s x.0 × P t x.1 × P u x.2
  Each Wrong x = Unit {ℓ}

  unfoldable pub by_rows : ((k : Kind) → Known (row k).shape → (x : Args (row k).shape) → Each (row k).shape x → P (row k).gives (make k x)) → {s : Sort} (t : Tree s) → P s t
  by_rows step Tree.tru = step Kind.True tt tt tt
  by_rows step Tree.fls = step Kind.False tt tt tt
  by_rows step (Tree.neg a) = step Kind.Not tt a (by_rows step a)
  by_rows step (Tree.conj a b) = step Kind.And tt (a, b) (by_rows step a, by_rows step b)
  by_rows step (Tree.disj a b) = step Kind.Or tt (a, b) (by_rows step a, by_rows step b)
  by_rows step (Tree.implies a b) = step Kind.Implies tt (a, b) (by_rows step a, by_rows step b)
  by_rows step (Tree.iff a b) = step Kind.Iff tt (a, b) (by_rows step a, by_rows step b)
  by_rows step (Tree.equal a b) = step Kind.Equal tt (a, b) (by_rows step a, by_rows step b)
  by_rows step (Tree.less a b) = step Kind.Less tt (a, b) (by_rows step a, by_rows step b)
  by_rows step (Tree.at_most a b) = step Kind.AtMost tt (a, b) (by_rows step a, by_rows step b)
  by_rows step (Tree.const x) = step Kind.Constant tt x tt
  by_rows step (Tree.var x) = step Kind.Variable tt x tt
  by_rows step (Tree.minus a) = step Kind.Minus tt a (by_rows step a)
  by_rows step (Tree.sum a b) = step Kind.Sum tt (a, b) (by_rows step a, by_rows step b)
  by_rows step (Tree.difference a b) = step Kind.Difference tt (a, b) (by_rows step a, by_rows step b)
  by_rows step (Tree.product a b) = step Kind.Product tt (a, b) (by_rows step a, by_rows step b)
  by_rows step (Tree.ite a b c) = step Kind.If tt (a, b, c) (by_rows step a, by_rows step b, by_rows step c)

-- what holds of every tree, of each operand
abbrev pub each_of {ℓ} : (P : (s : Sort) → Tree s → Type ℓ) → ((s : Sort) (t : Tree s) → P s t) → (h : Shape) (x : Args h) → Each P h x
each_of P g Wrong x = tt
each_of P g Bare x = tt
each_of P g Valued x = tt
each_of P g Named x = tt
each_of P g (One s) x = g s x
each_of P g (Two s t) x = (g s x.0, g t x.1)
each_of P g (Three s t u) x = (g s x.0, g t x.1, g u x.2)

-- what induction gives of a tree that is made of a kind
module _ {ℓ} (P : (s : Sort) → Tree s → Type ℓ) where
  module _ (step : (k : Kind) → Known (row k).shape → (x : Args (row k).shape) → Each P (row k).shape x → P (row k).gives (make k x)) where
    pub rows-make : (k : Kind) (q : Known (row k).shape) (x : Args (row k).shape) → by_rows P step (make k x) ≡ step k q x (each_of P (λ s t. by_rows P step t) (row k).shape x)
    unfolding by_rows
    rows-make Kind.Unknown q x = absurd q
    rows-make Kind.True q x = refl
    rows-make Kind.False q x = refl
    rows-make Kind.Not q x = refl
    rows-make Kind.And q x = refl
    rows-make Kind.Or q x = refl
    rows-make Kind.Implies q x = refl
    rows-make Kind.Iff q x = refl
    rows-make Kind.Equal q x = refl
    rows-make Kind.Less q x = refl
    rows-make Kind.AtMost q x = refl
    rows-make Kind.Constant q x = refl
    rows-make Kind.Variable q x = refl
    rows-make Kind.Minus q x = refl
    rows-make Kind.Sum q x = refl
    rows-make Kind.Difference q x = refl
    rows-make Kind.Product q x = refl
    rows-make Kind.If q x = refl
