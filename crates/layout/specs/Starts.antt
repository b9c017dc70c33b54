-- The order of nodes (document 01, "Order"), and what their records' fields are for. A table gives each node's number its record.
use Rattle.std.specs.Prelude.{ℕ, ◌+◌, ◌<◌, ◌≡◌, List, [], ◌∷◌}
use Rattle.std.proofs.Math.Option.{Option, none, some}
use Rattle.lists.specs.Course.{course}
use Rattle.meaning.specs.declared.Sort.{Sort}
use Rattle.kinds.specs.declared.Record.{Record}
use Rattle.kinds.specs.declared.Shape.{Shape}
use Rattle.kinds.specs.declared.Shape.TheVariants.{Wrong, Bare, Valued, Named, One, Two, Three}
use Rattle.kinds.specs.Kinds.{row}

abbrev pub shape_at : Record → Shape
shape_at r = (row r.kind).shape

-- the sort that node n gives
abbrev pub sort_at : (ℕ → Record) → ℕ → Sort
sort_at f n = (row (f n).kind).gives

-- what a shape takes a record's fields for: operands, the last first, with the sorts asked of them; a variable's number; nothing
pub record Fields : Type 0 where
  pub operands : Record → List ℕ
  pub sorts : List Sort
  pub variable : Record → Option ℕ
  pub unused : Record → List ℕ

abbrev pub fields_of : Shape → Fields
fields_of Wrong = record { operands = λ r. []; sorts = []; variable = λ r. none; unused = λ r. [] }
fields_of Bare = record { operands = λ r. []; sorts = []; variable = λ r. none; unused = λ r. r.a ∷ r.b ∷ r.c ∷ r.value ∷ [] }
fields_of Valued = record { operands = λ r. []; sorts = []; variable = λ r. none; unused = λ r. r.a ∷ r.b ∷ r.c ∷ [] }
fields_of Named = record { operands = λ r. []; sorts = []; variable = λ r. some r.a; unused = λ r. r.b ∷ r.c ∷ r.value ∷ [] }
fields_of (One s) = record { operands = λ r. r.a ∷ []; sorts = s ∷ []; variable = λ r. none; unused = λ r. r.b ∷ r.c ∷ r.value ∷ [] }
fields_of (Two s t) = record { operands = λ r. r.b ∷ r.a ∷ []; sorts = t ∷ s ∷ []; variable = λ r. none; unused = λ r. r.c ∷ r.value ∷ [] }
fields_of (Three s t u) = record { operands = λ r. r.c ∷ r.b ∷ r.a ∷ []; sorts = u ∷ t ∷ s ∷ []; variable = λ r. none; unused = λ r. r.value ∷ [] }

abbrev pub operands_of : Shape → Record → List ℕ
operands_of h r = (fields_of h).operands r

abbrev pub sorts_of : Shape → List Sort
sorts_of h = (fields_of h).sorts

-- every number of the list is zero
abbrev pub AllZero : List ℕ → Type 0
AllZero [] = Unit {0}
AllZero (x ∷ xs) = (x ≡ 0) × AllZero xs

-- the fields that a shape doesn't use are zero
abbrev pub UnusedZero : Shape → Record → Type 0
UnusedZero h r = AllZero ((fields_of h).unused r)

-- a variable's number, where there is one, is below v
abbrev pub Below : ℕ → Option ℕ → Type 0
Below v none = Unit {0}
Below v (some i) = i < v

abbrev pub VariableBelow : Shape → Record → ℕ → Type 0
VariableBelow h r v = Below v ((fields_of h).variable r)

-- where node n's subtree starts: at its first operand's start, or without operands at n; g has the starts of the operands, the last first
abbrev pub start_from : ℕ → (ℕ → ℕ) → List ℕ → ℕ
start_from n g [] = n
start_from n g (x ∷ xs) = start_from (g x) g xs

abbrev pub start_by : Shape → Record → ℕ → (ℕ → ℕ) → ℕ
start_by h r n g = start_from n g (operands_of h r)

abbrev pub start_step : (ℕ → Record) → ℕ → (ℕ → ℕ) → ℕ
start_step f n g = start_by (shape_at (f n)) (f n) n g

unfoldable pub start_at : (ℕ → Record) → ℕ → ℕ
start_at f n = course 0 (start_step f) n

-- the operands before node n, the last first: the last is node n - 1, and the one before it ends just before the last one's subtree
abbrev pub Ordered : (ℕ → ℕ) → ℕ → List ℕ → Type 0
Ordered start n [] = Unit {0}
Ordered start n (x ∷ xs) = (x + 1 ≡ n) × Ordered start (start x) xs

-- each operand gives the sort asked of it
abbrev pub Sorted : (ℕ → Sort) → List ℕ → List Sort → Type 0
Sorted so [] ss = Unit {0}
Sorted so (x ∷ xs) [] = Unit {0}
Sorted so (x ∷ xs) (s ∷ ss) = (so x ≡ s) × Sorted so xs ss

-- node n's operands are of the right sorts
abbrev pub Typed : (ℕ → Record) → ℕ → Type 0
Typed f n = Sorted (sort_at f) (operands_of (shape_at (f n)) (f n)) (sorts_of (shape_at (f n)))
