-- Sorts and sorted values, and functions on values by the sorts of their arguments (SMT-LIB 2.6, section 3.7 and theory Core).
use Rattle.std.specs.Prelude.{ℕ, Bool, true, false, ◌&&◌, List, [], ◌∷◌, eqb}
use Rattle.std.proofs.Math.Option.{Option, none, some}

-- Bool, and (_ BitVec m)
pub data Sort : Type 0 where
  bool : Sort
  bit_vec : ℕ → Sort

-- a bit vector is given by its number below 2 ^ m
abbrev pub Val : Sort → Type 0
Val bool = Bool
Val (bit_vec m) = ℕ

-- a value with its sort: of Bool; of (_ BitVec m), by m and its number; or none, where SMT-LIB rejects the term
pub data Value : Type 0 where
  truth : Bool → Value
  bits : ℕ → ℕ → Value
  rejected : Value

abbrev pub sort_of : Value → Option Sort
sort_of (truth b) = some bool
sort_of (bits m n) = some (bit_vec m)
sort_of rejected = none

abbrev pub sorted : (s : Sort) → Val s → Value
sorted bool b = truth b
sorted (bit_vec m) n = bits m n

-- ---- arguments of the right sorts: Bool, bit vectors of one width, or two of one sort

-- what f makes of a truth value, or of a bit vector's width and number; any other value is rejected
abbrev pub as_truth : (Bool → Value) → Value → Value
as_truth f (truth a) = f a
as_truth f (bits m s) = rejected
as_truth f rejected = rejected

abbrev pub as_bits : (ℕ → ℕ → Value) → Value → Value
as_bits f (truth a) = rejected
as_bits f (bits m s) = f m s
as_bits f rejected = rejected

abbrev pub on_truth : (Bool → Bool) → Value → Value
on_truth f a = as_truth (λ x. truth (f x)) a

abbrev pub on_truths : (Bool → Bool → Bool) → Value → Value → Value
on_truths f a b = as_truth (λ x. as_truth (λ y. truth (f x y)) b) a

abbrev pub on_bits : (ℕ → ℕ → ℕ) → Value → Value
on_bits f a = as_bits (λ m s. bits m (f m s)) a

-- of one width: what f makes of both; else rejected
abbrev pub on_width : (ℕ → ℕ → ℕ → Value) → Value → Value → Value
on_width f a b = as_bits (λ m s. as_bits (λ n t. elim (eqb m n) [ true ↦ f m s t | false ↦ rejected ]) b) a

-- of one sort: what f makes of both
abbrev pub on_sort : ((s : Sort) → Val s → Val s → Value) → Value → Value → Value
on_sort f (truth a) b = as_truth (f bool a) b
on_sort f (bits m s) b = on_width (λ w. f (bit_vec w)) (bits m s) b
on_sort f rejected b = rejected

-- a condition, and two of one sort: one of that sort
abbrev pub on_choice : ((s : Sort) → Bool → Val s → Val s → Val s) → Value → Value → Value → Value
on_choice f c a b = as_truth (λ z. on_sort (λ s x y. sorted s (f s z x y)) a b) c

-- ---- two or more arguments, by the function's attribute

abbrev pub two_or_more : (Value → Value → List Value → Value) → List Value → Value
two_or_more f [] = rejected
two_or_more f (a ∷ []) = rejected
two_or_more f (a ∷ b ∷ vs) = f a b vs

-- :left-assoc, (f (f a b) c)
abbrev pub from_left : (Value → Value → Value) → Value → List Value → Value
from_left f a [] = a
from_left f a (b ∷ vs) = from_left f (f a b) vs

-- :right-assoc, (f a (f b c))
abbrev pub from_right : (Value → Value → Value) → Value → List Value → Value
from_right f a [] = a
from_right f a (b ∷ vs) = f a (from_right f b vs)

-- both hold
abbrev pub both : Value → Value → Value
both a b = on_truths ◌&&◌ a b

-- :chainable, (and (f a b) (f b c))
abbrev pub in_chain : (Value → Value → Value) → Value → Value → List Value → Value
in_chain f a b [] = f a b
in_chain f a b (c ∷ vs) = both (f a b) (in_chain f b c vs)

-- :pairwise, (and (f a b) (f a c) (f b c))
abbrev pub with_each : (Value → Value → Value) → Value → Value → List Value → Value
with_each f a b [] = f a b
with_each f a b (c ∷ vs) = both (f a b) (with_each f a c vs)

abbrev pub in_pairs : (Value → Value → Value) → Value → Value → List Value → Value
in_pairs f a b [] = f a b
in_pairs f a b (c ∷ vs) = both (with_each f a b (c ∷ vs)) (in_pairs f b c vs)
