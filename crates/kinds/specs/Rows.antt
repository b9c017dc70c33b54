-- Trees by the shapes of the kind table: what a tree of a kind is made of, and a tree's parts.
use mathlib.Core.List.{List, [], ◌∷◌, Memᴰ}
use Rattle.meaning.specs.declared.Sort.{Sort}
use Rattle.meaning.specs.Tree.{Tree}
use Rattle.kinds.specs.declared.Kind.{Kind}
use Rattle.kinds.specs.declared.Shape.{Shape}
use Rattle.kinds.specs.declared.Shape.TheVariants.{Wrong, Bare, Valued, Named, One, Two, Three}
use Rattle.kinds.specs.Kinds.{Args, row}

-- the tree of a kind from what it is made of
abbrev pub make : (k : Kind) → Args (row k).shape → Tree (row k).gives
make k x = (row k).tree x

-- the shape of a kind that is known
abbrev pub Known : Shape → Type 0
Known Bare = Unit {0}
Known Valued = Unit {0}
Known Named = Unit {0}
Known (One s) = Unit {0}
Known (Two s t) = Unit {0}
Known (Three s t u) = Unit {0}
Known Wrong = ⊥

-- a tree of either sort
abbrev pub SomeTree : Type 0
SomeTree = (s : Sort) × Tree s

-- the operands in what a node is made of, first to last
abbrev pub operands_in : (h : Shape) → Args h → List SomeTree
operands_in Wrong x = []
operands_in Bare x = []
operands_in Valued x = []
operands_in Named x = []
operands_in (One s) x = (s, x) ∷ []
operands_in (Two s t) x = (s, x.0) ∷ (t, x.1) ∷ []
operands_in (Three s t u) x = (s, x.0) ∷ (t, x.1) ∷ (u, x.2) ∷ []

-- u is a part of t: t itself, or an operand of a part of t
pub data Part : SomeTree → SomeTree → Type 0 where
  itself : {t : SomeTree} → Part t t
  operand : {u t : SomeTree} (k : Kind) (x : Args (row k).shape) → Memᴰ u (operands_in (row k).shape x) → Part ((row k).gives, make k x) t → Part u t

abbrev pub PartOf : {r s : Sort} → Tree r → Tree s → Type 0
PartOf {r} {s} u t = Part (r, u) (s, t)
