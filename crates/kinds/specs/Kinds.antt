-- The kind table of document 01, "Node kinds and their script text", a row for each kind, with the words of document 02's item 4. Everything else about kinds
-- consults this table.
use Rattle.std.specs.Prelude.{ℤ, ℕ, cond, List, [], ◌∷◌, eqb}
use Prim.Native.String.{String}
use Rattle.lists.specs.Ascii.{ascii}
use Rattle.meaning.specs.declared.Sort.{Sort}
use Rattle.meaning.specs.declared.Sort.TheVariants.{Truth, Integer}
use Rattle.meaning.specs.Tree.{Tree}
use Rattle.kinds.specs.declared.Kind.{Kind}
use Rattle.kinds.specs.declared.Shape.{Shape}
use Rattle.kinds.specs.declared.Shape.TheVariants.{Wrong, Bare, Valued, Named, One, Two, Three}

-- what a node of a shape is made of: a constant, a variable's number, or operands
abbrev pub Args : Shape → Type 0
Args Wrong = Unit {0}
Args Bare = Unit {0}
Args Valued = ℤ
Args Named = ℕ
Args (One s) = Tree s
Args (Two s t) = Tree s × Tree t
Args (Three s t u) = Tree s × Tree t × Tree u

-- a kind's number; the fields that its record uses, with the sorts of its operands; the sort that it gives; its tree from what it is made of;
-- the word of its script text: behind the opening parenthesis, or the whole text of a bare one; and its word in plain texts, none for numbers and names
pub record KindRow : Type 0 where
  pub byte : ℕ
  pub shape : Shape
  pub gives : Sort
  pub tree : Args shape → Tree gives
  pub word : List ℕ
  pub plain : List ℕ

abbrev entry : ℕ → (h : Shape) (s : Sort) → (Args h → Tree s) → String → String → KindRow
entry b h s t w p = record { byte = b; shape = h; gives = s; tree = t; word = ascii w; plain = ascii p }

-- a tree of two operands, or of three
abbrev two : {s t u : Sort} → (Tree s → Tree t → Tree u) → Tree s × Tree t → Tree u
two f x = f x.0 x.1

abbrev three : {s t u v : Sort} → (Tree s → Tree t → Tree u → Tree v) → Tree s × Tree t × Tree u → Tree v
three f x = f x.0 x.1 x.2

-- the table; of no kind, false stands for the tree
abbrev pub row : Kind → KindRow
row Kind.Unknown = entry 0 Wrong Truth (λ x. Tree.fls) "" ""
row Kind.True = entry 1 Bare Truth (λ x. Tree.tru) "true" "true"
row Kind.False = entry 2 Bare Truth (λ x. Tree.fls) "false" "false"
row Kind.Not = entry 3 (One Truth) Truth Tree.neg "not" "not"
row Kind.And = entry 4 (Two Truth Truth) Truth (two Tree.conj) "and" "and"
row Kind.Or = entry 5 (Two Truth Truth) Truth (two Tree.disj) "or" "or"
row Kind.Implies = entry 6 (Two Truth Truth) Truth (two Tree.implies) "=>" "implies"
row Kind.Iff = entry 7 (Two Truth Truth) Truth (two Tree.iff) "=" "iff"
row Kind.Equal = entry 8 (Two Integer Integer) Truth (two Tree.equal) "=" "eq"
row Kind.Less = entry 9 (Two Integer Integer) Truth (two Tree.less) "bvslt" "lt"
row Kind.AtMost = entry 10 (Two Integer Integer) Truth (two Tree.at_most) "bvsle" "le"
row Kind.Constant = entry 16 Valued Integer Tree.const "" ""
row Kind.Variable = entry 17 Named Integer Tree.var "" ""
row Kind.Minus = entry 18 (One Integer) Integer Tree.minus "bvneg" "neg"
row Kind.Sum = entry 19 (Two Integer Integer) Integer (two Tree.sum) "bvadd" "add"
row Kind.Difference = entry 20 (Two Integer Integer) Integer (two Tree.difference) "bvsub" "sub"
row Kind.Product = entry 21 (Two Integer Integer) Integer (two Tree.product) "bvmul" "mul"
row Kind.If = entry 22 (Three Truth Integer Integer) Integer (three Tree.ite) "ite" "if"

-- all kinds of the table
abbrev pub kinds : List Kind
kinds = Kind.True ∷ Kind.False ∷ Kind.Not ∷ Kind.And ∷ Kind.Or ∷ Kind.Implies ∷ Kind.Iff ∷ Kind.Equal ∷ Kind.Less ∷ Kind.AtMost ∷ Kind.Constant ∷ Kind.Variable ∷ Kind.Minus ∷ Kind.Sum ∷ Kind.Difference ∷ Kind.Product ∷ Kind.If ∷ []

-- the first of these kinds that the byte names, and Unknown where none does
unfoldable pub find : List Kind → ℕ → Kind
find [] k = Kind.Unknown
find (x ∷ xs) k = cond (eqb k (row x).byte) x (find xs k)

unfoldable pub kind_of : ℕ → Kind
kind_of k = find kinds k
