-- The range found of an integer tree holds the tree's value, and is no wider where the domains are no wider. Assumes nothing.
use Prim.Native.Nat.{ℕ}
use mathlib.Core.Path.{◌≡◌, refl, ap, ◌∙◌}
use mathlib.Core.Bool.{Bool, true, false}
use native.Mathlib.Omega.{arith}
use lib.IntN.{ℤ}
use lib.Signed.{◌≤ℤ◌}
use Rattle.numbers.specs.declared.Range.{Range}
use Rattle.numbers.specs.Ranges.{In, Narrower, union_of}
use Rattle.numbers.proofs.Sound.{one_in, minus-in, sum-in, difference-in, product-in, union-in-left, union-in-right}
use Rattle.numbers.proofs.Monotone.{narrower-refl, low-in, in-nonempty, minus-narrower, sum-narrower, difference-narrower, product-narrower, union-narrower}
use Rattle.meaning.specs.declared.Sort.{Sort}
use Rattle.meaning.specs.declared.Sort.TheVariants.{Integer as integer}
use Rattle.meaning.specs.Tree.{Tree, const, var, minus, sum, difference, product, ite}
use Rattle.meaning.specs.Value.{chosen, value}
use Rattle.kinds.proofs.RowLaws.{by_rows}
use Rattle.layout.specs.Fold.{of_tree}
use Rattle.layout.proofs.Made.{found-make}
use Rattle.findings.specs.declared.Finding.{Finding}
use Rattle.findings.specs.declared.Finding.TheVariants.{Truth, Integer}
use Rattle.findings.specs.Findings.{sort_of, range_of, finding_of}
use Rattle.findings.proofs.FindingLaws.{found-sort}

-- ---- what is found of a tree is of its sort
pub tree-sort : (δ : ℕ → Range) {s : Sort} (t : Tree s) → sort_of (of_tree (finding_of δ) t) ≡ s
tree-sort δ t = by_rows (λ s u. sort_of (of_tree (finding_of δ) u) ≡ s) (λ k q x y. ap sort_of (found-make k q x (finding_of δ)) ∙ found-sort δ k _) t

-- the range of an integer tree
abbrev pub tree_range : (ℕ → Range) → Tree integer → Range
tree_range δ t = range_of (of_tree (finding_of δ) t)

is-integer : (f : Finding) → sort_of f ≡ integer → f ≡ Integer (range_of f)
is-integer Truth e = absurd (let z : ◌≡◌ {A = ℕ} 0 1 = cc in omega arith)
is-integer (Integer r) e = refl

pub tree-range : (δ : ℕ → Range) (t : Tree integer) → of_tree (finding_of δ) t ≡ Integer (tree_range δ t)
tree-range δ t = is-integer (of_tree (finding_of δ) t) (tree-sort δ t)

-- ---- it holds the value
chosen-in : {a b : Range} {x y : ℤ} (c : Bool) → In a x → In b y → In (union_of a b) (chosen c x y)
chosen-in {a} {b} true h k = union-in-left b h
chosen-in {a} {b} false h k = union-in-right a k

-- where each variable has a value in its domain
module _ {δ : ℕ → Range} {ρ : ℕ → ℤ} (m : (i : ℕ) → In (δ i) (ρ i)) where
  pub value_in_lem : (t : Tree integer) → In (tree_range δ t) (value ρ t)
  unfolding of_tree finding_of value
  value_in_lem (const z) = one_in z
  value_in_lem (var i) = m i
  value_in_lem (minus a) = minus-in (value_in_lem a)
  value_in_lem (sum a b) = sum-in (value_in_lem a) (value_in_lem b)
  value_in_lem (difference a b) = difference-in (value_in_lem a) (value_in_lem b)
  value_in_lem (product a b) = product-in (value_in_lem a) (value_in_lem b)
  value_in_lem (ite c a b) = chosen-in (value ρ c) (value_in_lem a) (value_in_lem b)

  pub found_in : (t : Tree integer) {r : Range} → of_tree (finding_of δ) t ≡ Integer r → In r (value ρ t)
  found_in t e = rw e at (value_in_lem t)

-- ---- where no domain is empty, no range is, and narrower domains give narrower ranges
module _ {δ : ℕ → Range} (some : (i : ℕ) → (δ i).low ≤ℤ (δ i).high) where
  pub range_nonempty : (t : Tree integer) → (tree_range δ t).low ≤ℤ (tree_range δ t).high
  range_nonempty t = in-nonempty (value_in_lem (λ i. low-in (some i)) t)

  pub range-narrower : {ε : ℕ → Range} → ((i : ℕ) → Narrower (δ i) (ε i)) → (t : Tree integer) → Narrower (tree_range δ t) (tree_range ε t)
  unfolding of_tree finding_of
  range-narrower n (const z) = narrower-refl _
  range-narrower n (var i) = n i
  range-narrower n (minus a) = minus-narrower (range-narrower n a)
  range-narrower n (sum a b) = sum-narrower (range-narrower n a) (range-narrower n b)
  range-narrower n (difference a b) = difference-narrower (range-narrower n a) (range-narrower n b)
  range-narrower n (product a b) = product-narrower (range_nonempty a) (range_nonempty b) (range-narrower n a) (range-narrower n b)
  range-narrower n (ite c a b) = union-narrower (range-narrower n a) (range-narrower n b)
