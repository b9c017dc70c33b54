-- The functions of the theories: one table of names, signatures and meanings (SMT-LIB 2.6, theories Core and FixedSizeBitVectors, logic QF_BV).
use Rattle.std.specs.Prelude.{ℕ, Bool, true, false, cond, not, ◌&&◌, ◌||◌, List, [], ◌∷◌, ◌++◌, map, eqb}
use Prim.Native.String.{String}
use Rattle.std.specs.Bool.{beq}
use Rattle.std.proofs.Math.Option.{Option}
use Rattle.lists.specs.Ascii.{ascii}
use Rattle.lists.specs.Names.{listed, entry, words}
use Rattle.lists.specs.Few.{exactly0, exactly1, exactly2, exactly3}
use Rattle.smtlib.specs.BitVectors.{bvnot, bvand, bvor, bvneg, bvadd, bvmul, bvsub, bvult, bvule, bvugt, bvuge, bvslt, bvsle, bvsgt, bvsge}
use Rattle.smtlib.specs.Values.{Sort, bool, bit_vec, Val, Value, truth, bits, rejected, on_truth, on_truths, on_bits, on_width, on_sort, on_choice, two_or_more, from_left, from_right, in_chain, in_pairs}

-- how a function of two arguments takes more than two; `two`: not at all
pub data Attribute : Type 0 where
  two left-assoc right-assoc chained pairs : Attribute

-- the sorts of the arguments, and then of the result; A is any sort, m any width
pub data Signature : Type 0 where
  -- Bool
  constant : Signature
  -- Bool Bool
  truths1 : Signature
  -- Bool Bool Bool
  truths2 : Attribute → Signature
  -- A A Bool
  relation : Attribute → Signature
  -- Bool A A A
  choice : Signature
  -- (_ BitVec m) (_ BitVec m)
  vectors1 : Signature
  -- (_ BitVec m) (_ BitVec m) (_ BitVec m)
  vectors2 : Attribute → Signature
  -- (_ BitVec m) (_ BitVec m) Bool
  order : Attribute → Signature

-- what a function of a signature is, given the sort or the width
abbrev pub Meaning : Signature → Type 0
Meaning constant = Bool
Meaning truths1 = Bool → Bool
Meaning (truths2 a) = Bool → Bool → Bool
Meaning (relation a) = (s : Sort) → Val s → Val s → Bool
Meaning choice = (s : Sort) → Bool → Val s → Val s → Val s
Meaning vectors1 = ℕ → ℕ → ℕ
Meaning (vectors2 a) = ℕ → ℕ → ℕ → ℕ
Meaning (order a) = ℕ → ℕ → ℕ → Bool

abbrev pub by_attribute : Attribute → (Value → Value → Value) → List Value → Value
by_attribute two f vs = exactly2 rejected f vs
by_attribute left-assoc f vs = two_or_more (λ a b. from_left f (f a b)) vs
by_attribute right-assoc f vs = two_or_more (λ a b rest. f a (from_right f b rest)) vs
by_attribute chained f vs = two_or_more (in_chain f) vs
by_attribute pairs f vs = two_or_more (in_pairs f) vs

-- a function's value at some arguments; rejected where their number or their sorts are not the signature's
abbrev pub applied : (g : Signature) → Meaning g → List Value → Value
applied constant b vs = exactly0 rejected (truth b) vs
applied truths1 f vs = exactly1 rejected (on_truth f) vs
applied (truths2 a) f vs = by_attribute a (on_truths f) vs
applied (relation a) f vs = by_attribute a (on_sort (λ s x y. truth (f s x y))) vs
applied choice f vs = exactly3 rejected (on_choice f) vs
applied vectors1 f vs = exactly1 rejected (on_bits f) vs
applied (vectors2 a) f vs = by_attribute a (on_width (λ m s t. bits m (f m s t))) vs
applied (order a) f vs = by_attribute a (on_width (λ m s t. truth (f m s t))) vs

-- ---- Core

abbrev pub equal : (s : Sort) → Val s → Val s → Bool
equal bool a b = beq a b
equal (bit_vec m) s t = eqb s t

-- ---- the table

pub record FunctionRow : Type 0 where
  pub signature : Signature
  pub meaning : Meaning signature

abbrev pub row : String → (g : Signature) → Meaning g → List ℕ × FunctionRow
row n g f = (ascii n, record { signature = g; meaning = f })

unfoldable pub functions : List (List ℕ × FunctionRow)
functions =
    row "true" constant true
    ∷ row "false" constant false
    ∷ row "not" truths1 not
    ∷ row "and" (truths2 left-assoc) ◌&&◌
    ∷ row "or" (truths2 left-assoc) ◌||◌
    ∷ row "xor" (truths2 left-assoc) (λ a b. not (beq a b))
    ∷ row "=>" (truths2 right-assoc) (λ a b. not a || b)
    ∷ row "=" (relation chained) equal
    ∷ row "distinct" (relation pairs) (λ s a b. not (equal s a b))
    ∷ row "ite" choice (λ s c a b. cond c a b)
    ∷ row "bvnot" vectors1 bvnot
    ∷ row "bvneg" vectors1 bvneg
    ∷ row "bvand" (vectors2 left-assoc) bvand
    ∷ row "bvor" (vectors2 left-assoc) bvor
    ∷ row "bvadd" (vectors2 left-assoc) bvadd
    ∷ row "bvmul" (vectors2 left-assoc) bvmul
    ∷ row "bvsub" (vectors2 two) bvsub
    ∷ row "bvult" (order two) bvult
    ∷ row "bvule" (order two) bvule
    ∷ row "bvugt" (order two) bvugt
    ∷ row "bvuge" (order two) bvuge
    ∷ row "bvslt" (order two) bvslt
    ∷ row "bvsle" (order two) bvsle
    ∷ row "bvsgt" (order two) bvsgt
    ∷ row "bvsge" (order two) bvsge
    ∷ []

-- the theories' other names: no term here has them, and no script may declare them; those that only stand with indices (extract, ..) are free
unfoldable pub other_names : List (List ℕ)
other_names = words "concat bvudiv bvurem bvsdiv bvsrem bvsmod bvshl bvlshr bvashr bvnand bvnor bvxor bvxnor bvcomp"

-- the function of this name
unfoldable pub function : List ℕ → Option FunctionRow
function n = entry functions n

-- the theories have this name
unfoldable pub theory_name : List ℕ → Bool
theory_name n = listed (map (λ r. r.0) functions ++ other_names) n
