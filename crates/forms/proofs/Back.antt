-- In any form, a tree is read back from its term, so that its term tells it. Assumes nothing.
use Prim.Native.Nat.{ℕ, ◌<◌}
use mathlib.Core.Path.{◌≡◌, refl, sym, ap, ap₂, ◌∙◌}
use mathlib.Core.Bool.{Bool, true, false, ◌&&◌, true≢false}
use mathlib.Core.List.{List, [], ◌∷◌}
use mathlib.Core.Option.{Option, none, some}
use native.Mathlib.Omega.{arith}
use lib.Dec.{eqb}
use lib.IntN.{ℤ, pos}
use lib.ListN.{get_or}
use Rattle.lists.specs.First.{first}
use Rattle.lists.specs.Names.{same_bytes}
use Rattle.lists.proofs.TestLaws.{both}
use Rattle.lists.proofs.FirstLaws.{none_first, some_first}
use Rattle.lists.proofs.NameLaws.{same-decided}
use Rattle.lists.proofs.Decided.{denied}
use Rattle.numbers.specs.Two.{enc, dec}
use Rattle.numbers.proofs.Coding.{dec-enc}
use Rattle.meaning.specs.declared.Sort.{Sort}
use Rattle.meaning.specs.declared.Sort.TheVariants.{Truth, Integer}
use Rattle.meaning.specs.Tree.{Tree, fls}
use Rattle.kinds.specs.declared.Kind.{Kind}
use Rattle.kinds.specs.declared.Shape.{Shape}
use Rattle.kinds.specs.declared.Shape.TheVariants.{Wrong, Bare, Valued, Named, One, Two, Three}
use Rattle.kinds.specs.Kinds.{Args, row, kinds}
use Rattle.kinds.specs.Rows.{make, Known, SomeTree}
use Rattle.kinds.proofs.KindLaws.{passes, same_byte, valued-is, named-is}
use Rattle.kinds.proofs.RowLaws.{Each, by_rows}
use Rattle.kinds.proofs.ClaimLaws.{Parts, throughout-make}
use Rattle.layout.specs.Goal.{of_sort}
use Rattle.layout.proofs.Made.{leaf_step, found_made, found-make}
use Rattle.smtlib.specs.Tokens.{Atom, symbol}
use Rattle.smtlib.specs.Sexps.{Sexp, atom, nil, cons, symbol_in}
use Rattle.smtlib.specs.Values.{Value, truth, bits, rejected}
use Rattle.smtlib.specs.Theory.{functions, other_names, function, theory_name}
use Rattle.smtlib.specs.Terms.{atom_value, value}
use Rattle.smtlib.proofs.TermLaws.{value-symbol}
use Rattle.wording.specs.Words.{word_of}
use Rattle.wording.specs.Form.{Form}
use Rattle.forms.specs.Readable.{Readable}
use Rattle.forms.proofs.Sexps.{sexp_by, sexp_step, term}
use Rattle.forms.proofs.Read.{free, apart}
use Rattle.forms.proofs.Held.{HeldMade, HeldHere, Held}

-- ---- a node's kind, by its word and the sort of its first operand

-- the sort of the first operand, if there is one
abbrev first_of : Shape → Option Sort
first_of Wrong = none
first_of Bare = none
first_of Valued = none
first_of Named = none
first_of (One s) = some s
first_of (Two s t) = some s
first_of (Three s t u) = some s

abbrev same_sort : Option Sort → Option Sort → Bool
same_sort none none = true
same_sort none (some t) = false
same_sort (some s) none = false
same_sort (some Truth) (some Truth) = true
same_sort (some Truth) (some Integer) = false
same_sort (some Integer) (some Truth) = false
same_sort (some Integer) (some Integer) = true

-- the first of these kinds with this word and this first operand
unfoldable kind_in : List Kind → List ℕ → Option Sort → Kind
kind_in [] w o = Kind.Unknown
kind_in (k ∷ ks) w o = elim (same_bytes (word_of k) w && same_sort (first_of (row k).shape) o) [ true ↦ k | false ↦ kind_in ks w o ]

-- no two kinds have the same word and the same first operand
abbrev kind_right : Shape → Kind → Bool
kind_right Wrong k = true
kind_right Bare k = eqb (row (kind_in kinds (word_of k) none)).byte (row k).byte
kind_right Valued k = true
kind_right Named k = true
kind_right (One s) k = eqb (row (kind_in kinds (word_of k) (some s))).byte (row k).byte
kind_right (Two s t) k = eqb (row (kind_in kinds (word_of k) (some s))).byte (row k).byte
kind_right (Three s t u) k = eqb (row (kind_in kinds (word_of k) (some s))).byte (row k).byte

kind-right : (k : Kind) → kind_right (row k).shape k ≡ true
unfolding kind_in same_bytes
kind-right = passes (λ k. kind_right (row k).shape k) refl

-- the kind that is read, by the shape
abbrev kind_read : Shape → List ℕ → Kind
kind_read Wrong w = Kind.Unknown
kind_read Bare w = kind_in kinds w none
kind_read Valued w = Kind.Constant
kind_read Named w = Kind.Variable
kind_read (One s) w = kind_in kinds w (some s)
kind_read (Two s t) w = kind_in kinds w (some s)
kind_read (Three s t u) w = kind_in kinds w (some s)

kind-by : (k : Kind) (h : Shape) → Known h → (row k).shape ≡ h → kind_right h k ≡ true → kind_read h (word_of k) ≡ k
kind-by k Wrong q e r = absurd q
kind-by k Bare q e r = same_byte r
kind-by k Valued q e r = sym (valued-is k e)
kind-by k Named q e r = sym (named-is k e)
kind-by k (One s) q e r = same_byte r
kind-by k (Two s t) q e r = same_byte r
kind-by k (Three s t u) q e r = same_byte r

kind-read : (k : Kind) → Known (row k).shape → kind_read (row k).shape (word_of k) ≡ k
kind-read k q = kind-by k (row k).shape q refl (kind-right k)

-- ---- a node's tree, by its kind and what it holds

-- an integer, a variable's number, and operands
abbrev Holds : Type 0
Holds = ℤ × ℕ × List SomeTree

abbrev operand_in : (s : Sort) → ℕ → Holds → Tree s
operand_in s i p = of_sort s (get_or p.2 i (Truth, fls))

abbrev args_in : (h : Shape) → Holds → Args h
args_in Wrong p = tt
args_in Bare p = tt
args_in Valued p = p.0
args_in Named p = p.1
args_in (One s) p = operand_in s 0 p
args_in (Two s t) p = (operand_in s 0 p, operand_in t 1 p)
args_in (Three s t u) p = (operand_in s 0 p, operand_in t 1 p, operand_in u 2 p)

abbrev built : Kind → Holds → SomeTree
built k p = ((row k).gives, make k (args_in (row k).shape p))

abbrev first_sort : List SomeTree → Option Sort
first_sort [] = none
first_sort (t ∷ ts) = some t.0

abbrev node : Option (List ℕ) → List SomeTree → SomeTree
node none ts = (Truth, fls)
node (some w) ts = built (kind_in kinds w (first_sort ts)) (pos 0, 0, ts)

self : (s : Sort) (t : Tree s) → of_sort s (s, t) ≡ t
self Truth t = refl
self Integer t = refl

-- ---- an atom's value where nothing is declared
abbrev plain_value : Atom → Value
plain_value a = value (λ n. rejected) (atom a)

abbrev no_bits : Value → Bool
no_bits (truth b) = true
no_bits (bits k n) = false
no_bits rejected = true

-- a word that stands alone is a theory's, and no constant
abbrev alone_right : Shape → List ℕ → Bool
alone_right Wrong w = true
alone_right Bare w = theory_name w && no_bits (plain_value (symbol w))
alone_right Valued w = true
alone_right Named w = true
alone_right (One s) w = true
alone_right (Two s t) w = true
alone_right (Three s t u) w = true

alone-right : (k : Kind) → alone_right (row k).shape (word_of k) ≡ true
unfolding same_bytes theory_name functions other_names function value atom_value
alone-right = passes (λ k. alone_right (row k).shape (word_of k)) refl

module _ {f : Form} {m : ℕ} (form : Readable f m) where
  -- ---- the tree that a term spells

  -- a constant where the value is one of bits, else t
  abbrev constant_or : Value → SomeTree → SomeTree
  constant_or (truth b) t = t
  constant_or (bits k n) t = built Kind.Constant (dec f.width n, 0, [])
  constant_or rejected t = t

  -- the variable of this number if there is one, else t
  abbrev variable_or : Option ℕ → SomeTree → SomeTree
  variable_or none t = t
  variable_or (some i) t = built Kind.Variable (pos 0, i, [])

  abbrev number_if : Bool → ℕ → Option ℕ
  number_if true i = some i
  number_if false i = none

  -- the first of the m variables that has this name
  abbrev variable_in : List ℕ → Option ℕ
  variable_in w = first (λ i. number_if (same_bytes (f.symbol i) w) i) 0 m

  abbrev name_in : Option (List ℕ) → SomeTree
  name_in none = (Truth, fls)
  name_in (some w) = variable_or (variable_in w) (node (some w) [])

  abbrev mutual
    tree_in : Sexp → SomeTree
    tree_in (atom a) = constant_or (plain_value a) (name_in (symbol_in (atom a)))
    tree_in nil = (Truth, fls)
    tree_in (cons g s) = node (symbol_in g) (trees_in s)

    trees_in : Sexp → List SomeTree
    trees_in (atom a) = []
    trees_in nil = []
    trees_in (cons x s) = tree_in x ∷ trees_in s

  -- ---- of a leaf
  constant-back : (z : ℤ) → tree_in (atom (form.constant z)) ≡ built Kind.Constant (dec f.width (enc f.width z), 0, [])
  constant-back z = ap (λ (v : Value). constant_or v (name_in (symbol_in (atom (form.constant z))))) (form.texts.constants (λ n. rejected) z)

  variable-found : (i : ℕ) → i < m → variable_in (f.symbol i) ≡ some i
  variable-found i l =
      some_first (λ j. number_if (same_bytes (f.symbol j) (f.symbol i)) j) m 0 i (omega arith) (omega arith)
      (ap (λ (b : Bool). number_if b i) ((same-decided (f.symbol i) (f.symbol i)).1 refl))
      (λ j k h. ap (λ (b : Bool). number_if b j) (apart form h l))

  variable-back : (i : ℕ) → i < m → tree_in (atom (symbol (f.symbol i))) ≡ built Kind.Variable (pos 0, i, [])
  variable-back i l =
      ap (λ (v : Value). constant_or v (name_in (some (f.symbol i)))) (value-symbol (λ n. rejected) (f.symbol i) (free form i))
      ∙ ap (λ (o : Option ℕ). variable_or o (node (some (f.symbol i)) [])) (variable-found i l)

  module _ (w : List ℕ) (h : theory_name w ≡ true) (n : no_bits (plain_value (symbol w)) ≡ true) where
    no_name : (i : ℕ) → f.symbol i ≡ w → ⊥
    no_name i e = true≢false (sym h ∙ ap theory_name (sym e) ∙ form.texts.theory i)

    no-variable : variable_in w ≡ none
    no-variable = none_first (λ i. number_if (same_bytes (f.symbol i) w) i) m 0 (λ j k l. ap (λ (b : Bool). number_if b j) ((denied (same-decided (f.symbol j) w)).1 (no_name j)))

    no-constant : (v : Value) (t : SomeTree) → no_bits v ≡ true → constant_or v t ≡ t
    no-constant (truth b) t e = refl
    no-constant (bits k n) t e = absurd (true≢false (sym e))
    no-constant rejected t e = refl

    word_back : tree_in (atom (symbol w)) ≡ node (some w) []
    word_back = no-constant (plain_value (symbol w)) (name_in (some w)) n ∙ ap (λ (o : Option ℕ). variable_or o (node (some w) [])) no-variable

  -- ---- of a tree
  abbrev Back : (s : Sort) → Tree s → Type 0
  Back s t = Held f.width m t → tree_in (term form t) ≡ (s, t)

  shape-back : (h : Shape) (w : List ℕ) (x : Args h) → Known h → alone_right h w ≡ true → Each Back h x → HeldMade f.width m h x → Parts (HeldHere f.width m) h x
      → (p : Holds) × (tree_in (sexp_by form.constant f.symbol h w (found_made (sexp_step form.constant f.symbol) h x)) ≡ built (kind_read h w) p) × (args_in h p ≡ x)
  shape-back Wrong w x q a e l b = absurd q
  shape-back Bare w x q a e l b =
      let p = both (theory_name w) (no_bits (plain_value (symbol w))) a in
      ((pos 0, 0, []), word_back w p.0 p.1, refl)
  shape-back Valued w x q a e l b = ((dec f.width (enc f.width x), 0, []), constant-back x, dec-enc f.width form.texts.some_bits x l)
  shape-back Named w x q a e l b = ((pos 0, x, []), variable-back x l, refl)
  shape-back (One s) w x q a e l b = ((pos 0, 0, (s, x) ∷ []), rw (e b), self s x)
  shape-back (Two s t) w x q a e l b =
      ((pos 0, 0, (s, x.0) ∷ (t, x.1) ∷ []), rw (e.0 b.0, e.1 b.1), ap₂ (λ (y : Tree s) (z : Tree t). (y, z)) (self s x.0) (self t x.1))
  shape-back (Three s t u) w x q a e l b =
      let y = self s x.0 in
      let z = self t x.1 in
      let o = self u x.2 in
      ((pos 0, 0, (s, x.0) ∷ (t, x.1) ∷ (u, x.2) ∷ []), rw (e.0 b.0, e.1 b.1, e.2 b.2), λ i. (y i, z i, o i))

  term-back : {s : Sort} (t : Tree s) → Held f.width m t → tree_in (term form t) ≡ (s, t)
  term-back t g = by_rows Back step t g
    where
      step : (k : Kind) → Known (row k).shape → (x : Args (row k).shape) → Each Back (row k).shape x → Back (row k).gives (make k x)
      step k q x e g =
          let h = rw (throughout-make (HeldHere f.width m) k q x) at g in
          let l = rw (found-make k q x leaf_step) at h.0 in
          let r = shape-back (row k).shape (word_of k) x q (alone-right k) e l h.1 in
          ap tree_in (found-make k q x (sexp_step form.constant f.symbol))
          ∙ r.1
          ∙ ap (λ (l : Kind). built l r.0) (kind-read k q)
          ∙ ap (λ (y : Args (row k).shape). ((row k).gives, make k y)) r.2

  -- so two trees with the same term are the same
  pub term-injective : {s q : Sort} {t : Tree s} {u : Tree q} → Held f.width m t → Held f.width m u → term form t ≡ term form u → ◌≡◌ {A = SomeTree} (s, t) (q, u)
  term-injective {t = t} {u = u} g h e = sym (term-back t g) ∙ ap tree_in e ∙ term-back u h
