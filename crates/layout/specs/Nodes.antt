-- The records of a tree, operands first: written from document 01's order, and apart from the reading of a table.
use Rattle.std.specs.Prelude.{ℕ, ◌+◌, ◌-◌, List, [], ◌∷◌, ◌++◌, length}
use Rattle.numbers.specs.Two.{enc}
use Rattle.meaning.specs.declared.Sort.{Sort}
use Rattle.meaning.specs.Tree.{Tree}
use Rattle.kinds.specs.declared.Kind.{Kind}
use Rattle.kinds.specs.declared.Record.{Record}
use Rattle.kinds.specs.declared.Shape.{Shape}
use Rattle.kinds.specs.declared.Shape.TheVariants.{Wrong, Bare, Valued, Named, One, Two, Three}
use Rattle.kinds.specs.Kinds.{row}
use Rattle.layout.specs.Fold.{Found, of_tree}

-- a node's record; what is not used is zero
abbrev pub node : Kind → ℕ → ℕ → ℕ → ℕ → Record
node k a b c x = record { kind = k; a = a; b = b; c = c; value = x; spare = 0 }

-- the records of a tree, by the number of its first node
abbrev pub Listing : Type 0
Listing = ℕ → List Record

abbrev pub leaf : Record → Listing
leaf r i = r ∷ []

-- the records of the operands, and then the node's own: an operand's number is that of its last record
abbrev pub one_of : Kind → Listing → Listing
one_of k x i =
    let j : ℕ = i + length (x i) in
    x i ++ (node k (j - 1) 0 0 0 ∷ [])

abbrev pub two_of : Kind → Listing → Listing → Listing
two_of k x y i =
    let j : ℕ = i + length (x i) in
    let m : ℕ = j + length (y j) in
    x i ++ (y j ++ (node k (j - 1) (m - 1) 0 0 ∷ []))

abbrev pub three_of : Kind → Listing → Listing → Listing → Listing
three_of k x y z i =
    let j : ℕ = i + length (x i) in
    let m : ℕ = j + length (y j) in
    let n : ℕ = m + length (z m) in
    x i ++ (y j ++ (z m ++ (node k (j - 1) (m - 1) (n - 1) 0 ∷ [])))

-- the records of a node: by the shape, from its kind and what it is made of, the records of its operands
abbrev pub list_by : (h : Shape) → Kind → Found Listing h → Listing
list_by Wrong k x = leaf (node k 0 0 0 0)
list_by Bare k x = leaf (node k 0 0 0 0)
list_by Valued k x = leaf (node k 0 0 0 (enc 16 x))
list_by Named k x = leaf (node k x 0 0 0)
list_by (One s) k x = one_of k x
list_by (Two s t) k x = two_of k x.0 x.1
list_by (Three s t u) k x = three_of k x.0 x.1 x.2

abbrev pub list_step : (k : Kind) → Found Listing (row k).shape → Listing
list_step k x = list_by (row k).shape k x

abbrev pub listing : {s : Sort} → Tree s → Listing
listing t = of_tree list_step t

abbrev pub nodes_of : {s : Sort} → ℕ → Tree s → List Record
nodes_of i t = listing t i
