-- Kinds and their bytes name each other; what all rows of the table pass. Assumes nothing.
use Prim.Native.Nat.{ℕ, ◌<◌}
use mathlib.Core.Path.{◌≡◌, refl, sym, ap, ◌∙◌}
use mathlib.Core.Bool.{Bool, true, false, cond, ◌&&◌}
use mathlib.Core.List.{List, [], ◌∷◌}
use borrow.Author.Tests.{eqb-true, ltb-true}
use lib.Dec.{eqb, ltb}
use Rattle.lists.proofs.TestLaws.{both}
use Rattle.kinds.specs.declared.Kind.{Kind}
use Rattle.kinds.specs.declared.Shape.{Shape}
use Rattle.kinds.specs.declared.Shape.TheVariants.{Wrong, Bare, Valued, Named, One, Two, Three}
use Rattle.kinds.specs.Kinds.{row, kinds, find, kind_of}
use Rattle.kinds.specs.Rows.{Known}

-- a kind is the one that its byte names
pub byte-names : (k : Kind) → kind_of (row k).byte ≡ k
unfolding kind_of find
byte-names Kind.Unknown = refl
byte-names Kind.True = refl
byte-names Kind.False = refl
byte-names Kind.Not = refl
byte-names Kind.And = refl
byte-names Kind.Or = refl
byte-names Kind.Implies = refl
byte-names Kind.Iff = refl
byte-names Kind.Equal = refl
byte-names Kind.Less = refl
byte-names Kind.AtMost = refl
byte-names Kind.Constant = refl
byte-names Kind.Variable = refl
byte-names Kind.Minus = refl
byte-names Kind.Sum = refl
byte-names Kind.Difference = refl
byte-names Kind.Product = refl
byte-names Kind.If = refl

-- a test that all rows of the table pass, computed
module _ (test : Kind → Bool) where
  abbrev pub all_of : List Kind → Bool
  all_of [] = true
  all_of (k ∷ ks) = test k && all_of ks

  find-passes : test Kind.Unknown ≡ true → (ks : List Kind) → all_of ks ≡ true → (b : ℕ) → test (find ks b) ≡ true
  unfolding find
  find-passes u [] h b = u
  find-passes u (k ∷ ks) h b = go (eqb b (row k).byte) (find-passes u ks (both (test k) (all_of ks) h).1 b)
    where
      go : (e : Bool) → test (find ks b) ≡ true → test (cond e k (find ks b)) ≡ true
      go true rest = (both (test k) (all_of ks) h).0
      go false rest = rest

  -- holds of every kind
  pub passes : all_of (Kind.Unknown ∷ kinds) ≡ true → (k : Kind) → test k ≡ true
  unfolding kind_of
  passes h k =
      let w = both (test Kind.Unknown) (all_of kinds) h in
      rw (byte-names k) at (find-passes w.0 kinds w.1 (row k).byte)

find-byte : (ks : List Kind) (b : ℕ) → Known (row (find ks b)).shape → (row (find ks b)).byte ≡ b
unfolding find
find-byte [] b q = absurd q
find-byte (k ∷ ks) b q = go (find-byte ks b) (eqb b (row k).byte) refl q
  where
    go : (Known (row (find ks b)).shape → (row (find ks b)).byte ≡ b) → (e : Bool) → eqb b (row k).byte ≡ e → Known (row (cond e k (find ks b))).shape → (row (cond e k (find ks b))).byte ≡ b
    go rest true e w = sym (eqb-true b (row k).byte e)
    go rest false e w = rest w

-- a byte that names a kind is the kind's byte
pub kind-byte : (b : ℕ) → Known (row (kind_of b)).shape → (row (kind_of b)).byte ≡ b
unfolding kind_of
kind-byte b q = find-byte kinds b q

-- a kind's byte is one
pub byte_small : (k : Kind) → (row k).byte < 256
byte_small k = ltb-true _ _ (passes (λ j. ltb (row j).byte 256) refl k)

-- ---- only a constant has a value, and only a variable names one
abbrev leaf_bytes : Shape → ℕ → Bool
leaf_bytes Wrong b = true
leaf_bytes Bare b = true
leaf_bytes Valued b = eqb b (row Kind.Constant).byte
leaf_bytes Named b = eqb b (row Kind.Variable).byte
leaf_bytes (One s) b = true
leaf_bytes (Two s t) b = true
leaf_bytes (Three s t u) b = true

-- two kinds with one byte are the same
pub same_byte : {k j : Kind} → eqb (row k).byte (row j).byte ≡ true → k ≡ j
same_byte {k} {j} e = sym (byte-names k) ∙ ap kind_of (eqb-true _ _ e) ∙ byte-names j

leaf-bytes : (k : Kind) → leaf_bytes (row k).shape (row k).byte ≡ true
leaf-bytes = passes (λ j. leaf_bytes (row j).shape (row j).byte) refl

pub valued-is : (k : Kind) → (row k).shape ≡ Valued → k ≡ Kind.Constant
valued-is k e = same_byte (rw e at (leaf-bytes k))

pub named-is : (k : Kind) → (row k).shape ≡ Named → k ≡ Kind.Variable
named-is k e = same_byte (rw e at (leaf-bytes k))
