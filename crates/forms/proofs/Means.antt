-- Where symbols hold their variables' values in two's complement, a tree's s-expression stands for the tree's value, at any width. Assumes nothing.
use mathlib.Core.Path.{◌≡◌, refl, sym, ap, ◌∙◌}
use mathlib.Core.Bool.{Bool, true, false, cond, not, ◌||◌, beq}
use mathlib.Core.List.{List}
use Prim.Native.Nat.{ℕ, ◌≤◌, ◌<◌}
use lib.Dec.{eqb}
use lib.IntN.{ℤ, neg_ℤ, ◌+ℤ◌, ◌-ℤ◌, ◌*ℤ◌, ℤ_discrete}
use lib.Signed.{lt_z, le_z}
use borrow.Author.Tests.{eq-eqb, ne_eqb}
use Rattle.lists.specs.Ascii.{ascii}
use Rattle.lists.specs.Names.{same_bytes}
use Rattle.numbers.specs.Two.{enc, Within}
use Rattle.numbers.proofs.Coding.{enc-lt, enc-inj}
use Rattle.numbers.proofs.Modular.{enc-neg, enc-add, enc-sub, enc-mul, less-is, most-is}
use Rattle.meaning.specs.declared.Sort.{Sort}
use Rattle.meaning.specs.declared.Sort.TheVariants.{Truth, Integer}
use Rattle.meaning.specs.Tree.{Tree}
use Rattle.meaning.specs.Value.{Of, implied, equivalent, equals, chosen, value as meant}
use Rattle.meaning.proofs.Equals.{equals-same, equals-false}
use Rattle.kinds.proofs.RowLaws.{by_rows}
use Rattle.kinds.proofs.ClaimLaws.{Throughout, own}
use Rattle.layout.specs.Fold.{of_tree}
use Rattle.smtlib.specs.Tokens.{Atom, symbol}
use Rattle.smtlib.specs.Sexps.{atom}
use Rattle.smtlib.specs.BitVectors.{bvneg, bvadd, bvsub, bvmul, bvslt, bvsle}
use Rattle.smtlib.specs.Values.{bool, bit_vec, Value, truth, bits}
use Rattle.smtlib.specs.Theory.{functions, function}
use Rattle.smtlib.specs.Terms.{Environment, value}
use Rattle.smtlib.proofs.TermLaws.{value-constant, value-truths1, value-vectors1, value-left, value-right, value-relation, value-vectors2, value-order, value-choice}
use Rattle.smtlib.proofs.OrderLaws.{bvslt-is, bvsle-is}
use Rattle.forms.proofs.MeansTrees.{NoWrap, Below}
use Rattle.forms.proofs.Sexps.{sexp}

-- ---- Core's functions are those of the meaning
implies-is : (a b : Bool) → not a || b ≡ implied a b
implies-is true b = refl
implies-is false b = refl

iff-is : (a b : Bool) → beq a b ≡ equivalent a b
iff-is true true = refl
iff-is true false = refl
iff-is false true = refl
iff-is false false = refl

ite-is : (w : ℕ) (c : Bool) (x y : ℤ) → cond c (enc w x) (enc w y) ≡ enc w (chosen c x y)
ite-is w true x y = refl
ite-is w false x y = refl

-- ---- the bit vectors' functions are those of the integers that they stand for
neg_is : (w : ℕ) (x : ℤ) → bvneg w (enc w x) ≡ enc w (neg_ℤ x)
unfolding bvneg
neg_is w x = enc-neg w x

module _ (w : ℕ) (x y : ℤ) where
  add_is : bvadd w (enc w x) (enc w y) ≡ enc w (x +ℤ y)
  unfolding bvadd
  add_is = enc-add w x y

  sub_is : bvsub w (enc w x) (enc w y) ≡ enc w (x -ℤ y)
  unfolding bvsub bvadd bvneg
  sub_is = enc-sub w x y

  mul_is : bvmul w (enc w x) (enc w y) ≡ enc w (x *ℤ y)
  unfolding bvmul
  mul_is = enc-mul w x y

-- within the width
module _ {w : ℕ} (one : 1 ≤ w) {x y : ℤ} (f : Within w x) (g : Within w y) where
  equal_is : eqb (enc w x) (enc w y) ≡ equals x y
  equal_is = by (ℤ_discrete x y)
    where
      by : Dec (x ≡ y) → eqb (enc w x) (enc w y) ≡ equals x y
      by (yes e) = rw e (eq-eqb (enc w y) (enc w y) refl ∙ sym (equals-same y))
      by (no e) = ne_eqb (enc w x) (enc w y) (λ p. e (enc-inj w one f g p)) ∙ sym (equals-false x y e)

  slt-is : bvslt w (enc w x) (enc w y) ≡ lt_z x y
  slt-is = bvslt-is w (enc w x) (enc w y) one (enc-lt w x) (enc-lt w y) ∙ less-is w one x y f g

  sle_is : bvsle w (enc w x) (enc w y) ≡ le_z x y
  sle_is = bvsle-is w (enc w x) (enc w y) one (enc-lt w x) (enc-lt w y) ∙ most-is w one x y f g

-- ---- the theorem

-- in two's complement at w bits, each constant stands for itself and each of the first v symbols holds its variable's value
pub record Holding (w v : ℕ) (constant : ℤ → Atom) (name : ℕ → List ℕ) (ρ : ℕ → ℤ) (env : Environment) : Type 0 where
  pub constants : (z : ℤ) → Within w z → value env (atom (constant z)) ≡ bits w (enc w z)
  pub symbols : (i : ℕ) → i < v → value env (atom (symbol (name i))) ≡ bits w (enc w (ρ i))

-- a tree's value, as SMT-LIB has it
abbrev pub coded : ℕ → (s : Sort) → Of s → Value
coded w Truth b = truth b
coded w Integer z = bits w (enc w z)

module _ {w v : ℕ} {constant : ℤ → Atom} {name : ℕ → List ℕ} {ρ : ℕ → ℤ} {env : Environment} (one : 1 ≤ w) (h : Holding w v constant name ρ env) where
  pub means : {s : Sort} (t : Tree s) → Throughout (NoWrap w ρ) t → Throughout (Below v) t → value env (sexp constant name t) ≡ coded w s (meant ρ t)
  unfolding of_tree by_rows Throughout meant same_bytes function functions
  means Tree.tru k l = value-constant env (ascii "true") refl
  means Tree.fls k l = value-constant env (ascii "false") refl
  means (Tree.neg a) k l = value-truths1 env (ascii "not") refl _ (means a k.1 l.1)
  means (Tree.conj a b) k l = value-left env (ascii "and") _ _ refl (means a k.1.0 l.1.0) (means b k.1.1 l.1.1)
  means (Tree.disj a b) k l = value-left env (ascii "or") _ _ refl (means a k.1.0 l.1.0) (means b k.1.1 l.1.1)
  means (Tree.implies a b) k l =
      value-right env (ascii "=>") _ _ refl (means a k.1.0 l.1.0) (means b k.1.1 l.1.1) ∙ ap truth (implies-is (meant ρ a) (meant ρ b))
  means (Tree.iff a b) k l =
      value-relation env (ascii "=") _ _ refl bool _ _ (means a k.1.0 l.1.0) (means b k.1.1 l.1.1) ∙ ap truth (iff-is (meant ρ a) (meant ρ b))
  means (Tree.equal a b) k l =
      value-relation env (ascii "=") _ _ refl (bit_vec w) _ _ (means a k.1.0 l.1.0) (means b k.1.1 l.1.1)
      ∙ ap truth (equal_is one (own (NoWrap w ρ) a k.1.0) (own (NoWrap w ρ) b k.1.1))
  means (Tree.less a b) k l =
      value-order env (ascii "bvslt") _ _ refl (means a k.1.0 l.1.0) (means b k.1.1 l.1.1)
      ∙ ap truth (slt-is one (own (NoWrap w ρ) a k.1.0) (own (NoWrap w ρ) b k.1.1))
  means (Tree.at_most a b) k l =
      value-order env (ascii "bvsle") _ _ refl (means a k.1.0 l.1.0) (means b k.1.1 l.1.1)
      ∙ ap truth (sle_is one (own (NoWrap w ρ) a k.1.0) (own (NoWrap w ρ) b k.1.1))
  means (Tree.const z) k l = h.constants z k.0
  means (Tree.var i) k l = h.symbols i (l.0 i refl)
  means (Tree.minus a) k l = value-vectors1 env (ascii "bvneg") refl _ (means a k.1 l.1) ∙ ap (bits w) (neg_is w (meant ρ a))
  means (Tree.sum a b) k l =
      value-vectors2 env (ascii "bvadd") _ _ _ refl (means a k.1.0 l.1.0) (means b k.1.1 l.1.1) ∙ ap (bits w) (add_is w (meant ρ a) (meant ρ b))
  means (Tree.difference a b) k l =
      value-vectors2 env (ascii "bvsub") _ _ _ refl (means a k.1.0 l.1.0) (means b k.1.1 l.1.1) ∙ ap (bits w) (sub_is w (meant ρ a) (meant ρ b))
  means (Tree.product a b) k l =
      value-vectors2 env (ascii "bvmul") _ _ _ refl (means a k.1.0 l.1.0) (means b k.1.1 l.1.1) ∙ ap (bits w) (mul_is w (meant ρ a) (meant ρ b))
  means (Tree.ite c a b) k l =
      value-choice env (ascii "ite") _ _ refl _ (bit_vec w) _ _ (means c k.1.0 l.1.0) (means a k.1.1 l.1.1) (means b k.1.2 l.1.2)
      ∙ ap (bits w) (ite-is w (meant ρ c) (meant ρ a) (meant ρ b))
