-- The expression that stands in a text, by its first word: a leaf, or a kind and the operands behind it. Assumes nothing.
use Prim.Native.Nat.{ℕ, ◌+◌, ◌-◌, ◌≤◌, ◌<◌}
use mathlib.Core.Path.{◌≡◌, refl, sym, ap, subst, ◌∙◌}
use mathlib.Core.List.{List, [], ◌∷◌, ◌++◌}
use mathlib.Core.Option.{Option, none, some}
use native.Mathlib.Omega.{arith}
use lib.ListN.{length, take, drop, length-append}
use Rattle.lists.specs.Ascii.{ascii}
use Rattle.numbers.specs.Decimal.{signed}
use Rattle.meaning.specs.declared.Sort.{Sort}
use Rattle.meaning.specs.Rule.{Variable}
use Rattle.kinds.specs.declared.Kind.{Kind}
use Rattle.kinds.specs.declared.Record.{Record}
use Rattle.kinds.specs.declared.Shape.{Shape}
use Rattle.kinds.specs.declared.Shape.TheVariants.{Wrong, Bare, Valued, Named, One, Two, Three}
use Rattle.kinds.specs.Kinds.{row}
use Rattle.layout.specs.Nodes.{node}
use Rattle.grammar.specs.Words.{Without, word_length}
use Rattle.texts.specs.Expressions.{Expression, bare, number, variable, one, two, three, records_of}
use Rattle.texts.specs.Plain.{plain_of, name_of, spelled}
use Rattle.texts.specs.Texts.{AllDeclarable, operands_behind, Writable}
use Rattle.texts.specs.WordKinds.{kind_named}
use Rattle.texts.specs.Places.{separates, names_in}
use Rattle.texts.proofs.NumberLaws.{number_is, number-of}
use Rattle.texts.proofs.SpellingLaws.{silent, kind-named, number-no-kind, name-no-kind, name-no-number, word-unbroken, number-unbroken, name-unbroken}
use Rattle.texts.proofs.DraftLaws.{declared-name, names_in_lem, index-first}
use Rattle.building.specs.declared.Built.{Built}
use Rattle.building.specs.Building.{WordsAt, Declares, Spelt, spelled_all, leaf_record, Put, Laid, BuildsOne, BuildsTwo, BuildsThree}
use Rattle.building.proofs.WordLaws.{inside, ends, word-is, words-first, words-next}
use Rattle.building.proofs.LaidLaws.{laid_leaf}

-- ---- an expression's first word, its kind, and how many operands stand behind it

abbrev head_of : List Variable → Expression → List ℕ
head_of vs (bare k) = plain_of k
head_of vs (number z) = signed z
head_of vs (variable i) = name_of vs i
head_of vs (one k a) = plain_of k
head_of vs (two k a b) = plain_of k
head_of vs (three k a b c) = plain_of k

abbrev top_of : Expression → Kind
top_of (bare k) = k
top_of (number z) = Kind.Unknown
top_of (variable i) = Kind.Unknown
top_of (one k a) = k
top_of (two k a b) = k
top_of (three k a b c) = k

abbrev arity_of : Expression → Option ℕ
arity_of (bare k) = some 0
arity_of (number z) = none
arity_of (variable i) = none
arity_of (one k a) = some 1
arity_of (two k a b) = some 2
arity_of (three k a b c) = some 3

module _ (vs : List Variable) (d : AllDeclarable vs) where
  head-unbroken : (e : Expression) → Writable vs e → Without separates (head_of vs e)
  head-unbroken (bare k) w = word-unbroken k
  head-unbroken (number z) w = number-unbroken z
  head-unbroken (variable i) w = name-unbroken (declared-name vs i d w.declared)
  head-unbroken (one k a) w = word-unbroken k
  head-unbroken (two k a b) w = word-unbroken k
  head-unbroken (three k a b c) w = word-unbroken k

  head-kind : (e : Expression) → Writable vs e → kind_named (head_of vs e) ≡ top_of e
  head-kind (bare k) w = kind-named k w
  head-kind (number z) w = number-no-kind w
  head-kind (variable i) w = name-no-kind (declared-name vs i d w.declared)
  head-kind (one k a) w = kind-named k w.0
  head-kind (two k a b) w = kind-named k w.0
  head-kind (three k a b c) w = kind-named k w.0

  top-behind : (e : Expression) → Writable vs e → operands_behind (row (top_of e)).shape ≡ arity_of e
  top-behind (bare k) w = w
  top-behind (number z) w = refl
  top-behind (variable i) w = refl
  top-behind (one k a) w = w.0
  top-behind (two k a b) w = w.0
  top-behind (three k a b c) w = w.0

  head_first : {text : List ℕ} {at : ℕ} (e : Expression) → WordsAt text at (spelled vs e) → WordsAt text at (head_of vs e)
  unfolding spelled
  head_first (bare k) h = h
  head_first (number z) h = h
  head_first (variable i) h = h
  head_first (one k a) h = words-first (plain_of k) _ h
  head_first (two k a b) h = words-first (plain_of k) _ h
  head_first (three k a b c) h = words-first (plain_of k) _ h

-- ---- expressions by their operands

differ : {m n : ℕ} {A : Type 0} → (m ≡ n → ⊥) → ◌≡◌ {A = Option ℕ} (some m) (some n) → A
differ f e = absurd (f cc)

record OneView (e : Expression) : Type 0 where
  k : Kind
  a : Expression
  is : e ≡ one k a

one-view : (e : Expression) → arity_of e ≡ some 1 → OneView e
one-view (bare k) h = differ (λ p. omega arith) h
one-view (number z) h = absurd (silent refl h)
one-view (variable i) h = absurd (silent refl h)
one-view (one k a) h = record { k = k; a = a; is = refl }
one-view (two k a b) h = differ (λ p. omega arith) h
one-view (three k a b c) h = differ (λ p. omega arith) h

record TwoView (e : Expression) : Type 0 where
  k : Kind
  a : Expression
  b : Expression
  is : e ≡ two k a b

two-view : (e : Expression) → arity_of e ≡ some 2 → TwoView e
two-view (bare k) h = differ (λ p. omega arith) h
two-view (number z) h = absurd (silent refl h)
two-view (variable i) h = absurd (silent refl h)
two-view (one k a) h = differ (λ p. omega arith) h
two-view (two k a b) h = record { k = k; a = a; b = b; is = refl }
two-view (three k a b c) h = differ (λ p. omega arith) h

record ThreeView (e : Expression) : Type 0 where
  k : Kind
  a : Expression
  b : Expression
  c : Expression
  is : e ≡ three k a b c

three-view : (e : Expression) → arity_of e ≡ some 3 → ThreeView e
three-view (bare k) h = differ (λ p. omega arith) h
three-view (number z) h = absurd (silent refl h)
three-view (variable i) h = absurd (silent refl h)
three-view (one k a) h = differ (λ p. omega arith) h
three-view (two k a b) h = differ (λ p. omega arith) h
three-view (three k a b c) h = record { k = k; a = a; b = b; c = c; is = refl }

-- ---- what stands behind the word

pub record OneHere (text : List ℕ) (count : ℕ) (vs : List Variable) (k : Kind) (next : ℕ) (e : Expression) : Type 0 where
  pub a : Expression
  pub is : e ≡ one k a
  pub spelt : Spelt text count next vs (a ∷ [])

pub record TwoHere (text : List ℕ) (count : ℕ) (vs : List Variable) (k : Kind) (next : ℕ) (e : Expression) : Type 0 where
  pub a : Expression
  pub b : Expression
  pub is : e ≡ two k a b
  pub spelt : Spelt text count next vs (a ∷ b ∷ [])

pub record ThreeHere (text : List ℕ) (count : ℕ) (vs : List Variable) (k : Kind) (next : ℕ) (e : Expression) : Type 0 where
  pub a : Expression
  pub b : Expression
  pub c : Expression
  pub is : e ≡ three k a b c
  pub spelt : Spelt text count next vs (a ∷ b ∷ c ∷ [])

-- the record of a word that is no kind's
leaf-is : {text : List ℕ} {count : ℕ} {vs : List Variable} → Declares text count vs → (e : Expression) → Writable vs e → arity_of e ≡ none → (n : ℕ) → leaf_record (names_in count text) (head_of vs e) ∷ [] ≡ records_of e n
unfolding leaf_record records_of
leaf-is d (bare k) w h n = absurd (silent h refl)
leaf-is d (number z) w h n = rw (number_is w, leaf_record, number-of w)
leaf-is {text} {count} {vs} d (variable i) w h n =
    let e : names_in count text ≡ _ = ap (λ (m : ℕ). names_in m text) (sym d.counted) ∙ ap (names_in (length vs)) d.lines ∙ names_in_lem vs d.rest d.declarable in
    rw (name-no-number (declared-name vs i d.declarable w.declared), leaf_record, e, index-first vs i w)
leaf-is d (one k a) w h n = absurd (silent h refl)
leaf-is d (two k a b) w h n = absurd (silent h refl)
leaf-is d (three k a b c) w h n = absurd (silent h refl)

-- where nothing stands behind the word, it is all
leaf-word : (vs : List Variable) (e : Expression) → arity_of e ≡ none → spelled vs e ≡ head_of vs e
unfolding spelled
leaf-word vs (bare k) h = refl
leaf-word vs (number z) h = refl
leaf-word vs (variable i) h = refl
leaf-word vs (one k a) h = absurd (silent h refl)
leaf-word vs (two k a b) h = absurd (silent h refl)
leaf-word vs (three k a b c) h = absurd (silent h refl)

bare-word : (vs : List Variable) (e : Expression) → arity_of e ≡ some 0 → spelled vs e ≡ head_of vs e
unfolding spelled
bare-word vs (bare k) h = refl
bare-word vs (number z) h = refl
bare-word vs (variable i) h = refl
bare-word vs (one k a) h = differ (λ p. omega arith) h
bare-word vs (two k a b) h = differ (λ p. omega arith) h
bare-word vs (three k a b c) h = differ (λ p. omega arith) h

bare-is : (e : Expression) → arity_of e ≡ some 0 → (n : ℕ) → node (top_of e) 0 0 0 0 ∷ [] ≡ records_of e n
unfolding records_of
bare-is (bare k) h n = refl
bare-is (number z) h n = absurd (silent refl h)
bare-is (variable i) h n = absurd (silent refl h)
bare-is (one k a) h n = differ (λ p. omega arith) h
bare-is (two k a b) h n = differ (λ p. omega arith) h
bare-is (three k a b c) h n = differ (λ p. omega arith) h

none-top : (e : Expression) → arity_of e ≡ none → top_of e ≡ Kind.Unknown
none-top (bare k) h = absurd (silent h refl)
none-top (number z) h = refl
none-top (variable i) h = refl
none-top (one k a) h = absurd (silent h refl)
none-top (two k a b) h = absurd (silent h refl)
none-top (three k a b c) h = absurd (silent h refl)

-- the shape of no kind
abbrev is_wrong : Shape → ℕ
is_wrong Wrong = 1
is_wrong Bare = 0
is_wrong Valued = 0
is_wrong Named = 0
is_wrong (One s) = 0
is_wrong (Two s t) = 0
is_wrong (Three s t u) = 0

-- ---- with what the code has found: where the word ends
module _ {text : List ℕ} {count at : ℕ} {vs : List Variable} {e : Expression} (s : Spelt text count at vs (e ∷ [])) {end : ℕ} (ee : end ≡ at + word_length separates (drop at text)) where
  written : Writable vs e
  written = s.writable.0

  declared : AllDeclarable vs
  declared = s.names.declarable

  at_head : WordsAt text at (head_of vs e)
  at_head = head_first vs declared e s.words

  head-ends : end ≡ at + length (head_of vs e)
  head-ends = ends at_head (head-unbroken vs declared e written) ee

  head-word : take (end - at) (drop at text) ≡ head_of vs e
  head-word = word-is at_head (head-unbroken vs declared e written) ee

  pub word-inside : (at ≤ end) × (end < length text)
  word-inside = (omega (arith, head-ends), omega (arith, head-ends, inside at_head))

-- ---- and its kind, and the kind's shape
module _ {text : List ℕ} {count at : ℕ} {vs : List Variable} {e : Expression} (s : Spelt text count at vs (e ∷ [])) {end : ℕ} (ee : end ≡ at + word_length separates (drop at text)) {k : Kind} (ek : k ≡ kind_named (take (end - at) (drop at text))) {h : Shape} (eh : h ≡ (row k).shape) where
  head-top : k ≡ top_of e
  head-top = ek ∙ ap kind_named (head-word s ee) ∙ head-kind vs (declared s ee) e (written s ee)

  head-behind : operands_behind h ≡ arity_of e
  head-behind = ap operands_behind (eh ∙ ap (λ (j : Kind). (row j).shape) head-top) ∙ top-behind vs (declared s ee) e (written s ee)

  arity : {g : Shape} → h ≡ g → arity_of e ≡ operands_behind g
  arity eg = sym head-behind ∙ ap operands_behind eg

  -- a leaf
  pub leaf-laid : h ≡ Wrong → {x : Record} {n : ℕ} {before after : List ℕ} {r : Built} → x ≡ leaf_record (names_in count text) (take (end - at) (drop at text)) → Put x n end before r after → Laid (spelled vs e) (records_of e n) at n before r after
  leaf-laid eg {x} {n} ex p =
      let a : arity_of e ≡ none = arity eg in
      rw (leaf-word vs e a, ← leaf-is s.names e (written s ee) a n, ← (head-word s ee), ← ex) (laid_leaf ((head-ends s ee) ∙ ap (λ (w : List ℕ). at + length w) (sym (head-word s ee))) p)

  pub bare-laid : h ≡ Bare → {x : Record} {n : ℕ} {before after : List ℕ} {r : Built} → x ≡ node k 0 0 0 0 → Put x n end before r after → Laid (spelled vs e) (records_of e n) at n before r after
  bare-laid eg {x} {n} ex p =
      let a : arity_of e ≡ some 0 = arity eg in
      rw (bare-word vs e a, ← bare-is e a n, ← head-top, ← ex) (laid_leaf (head-ends s ee) p)

  -- a kind without a word is none's
  pub never : {g : Shape} → h ≡ g → operands_behind g ≡ none → is_wrong g ≡ 0 → ⊥
  never eg n z =
      let t : top_of e ≡ Kind.Unknown = none-top e (arity eg ∙ n) in
      let w : is_wrong h ≡ 1 = ap is_wrong (eh ∙ ap (λ (j : Kind). (row j).shape) (head-top ∙ t)) in
      omega (arith, w, ap is_wrong eg, z)

  -- behind the word
  behind : (u : List ℕ) → spelled vs e ≡ plain_of k ++ (ascii " " ++ u) → head_of vs e ≡ plain_of k → WordsAt text (end + 1) u
  behind u es eq = words-next (plain_of k) u (subst (WordsAt text at) es s.words) ((head-ends s ee) ∙ ap (λ (w : List ℕ). at + length w) eq)

  pub one-here : {t : Sort} → h ≡ One t → OneHere text count vs k (end + 1) e
  unfolding spelled
  one-here eg =
      let v = one-view e (arity eg) in
      let i : e ≡ one k v.a = v.is ∙ ap (λ (j : Kind). one j v.a) (sym (head-top ∙ ap top_of v.is)) in
      let w : Writable vs (one k v.a) = subst (Writable vs) i (written s ee) in
      record { a = v.a; is = i; spelt = record { names = s.names; writable = (w.1, tt); words = behind (spelled vs v.a) (ap (spelled vs) i) (ap (head_of vs) i) } }

  pub two_here : {t u : Sort} → h ≡ Two t u → TwoHere text count vs k (end + 1) e
  unfolding spelled
  two_here eg =
      let v = two-view e (arity eg) in
      let i : e ≡ two k v.a v.b = v.is ∙ ap (λ (j : Kind). two j v.a v.b) (sym (head-top ∙ ap top_of v.is)) in
      let w : Writable vs (two k v.a v.b) = subst (Writable vs) i (written s ee) in
      record { a = v.a; b = v.b; is = i; spelt = record { names = s.names; writable = (w.1, (w.2, tt)); words = behind (spelled_all vs (v.a ∷ v.b ∷ [])) (ap (spelled vs) i) (ap (head_of vs) i) } }

  pub three-here : {t u l : Sort} → h ≡ Three t u l → ThreeHere text count vs k (end + 1) e
  unfolding spelled
  three-here eg =
      let v = three-view e (arity eg) in
      let i : e ≡ three k v.a v.b v.c = v.is ∙ ap (λ (j : Kind). three j v.a v.b v.c) (sym (head-top ∙ ap top_of v.is)) in
      let w : Writable vs (three k v.a v.b v.c) = subst (Writable vs) i (written s ee) in
      record { a = v.a; b = v.b; c = v.c; is = i; spelt = record { names = s.names; writable = (w.1, (w.2, (w.3, tt))); words = behind (spelled_all vs (v.a ∷ v.b ∷ v.c ∷ [])) (ap (spelled vs) i) (ap (head_of vs) i) } }

  -- the whole from what was laid behind the word
  whole : {u : List ℕ} {rs : List Record} {n : ℕ} {before after : List ℕ} {r : Built} → head_of vs e ≡ plain_of k → Laid u rs (end + 1) n before r after → Laid (plain_of k ++ (ascii " " ++ u)) rs at n before r after
  whole {u} eq l = record { end = omega (arith, l.end, (head-ends s ee), ap length eq, length-append (plain_of k) (ascii " " ++ u)); next = l.next; sheet = l.sheet }

  pub one-laid : {t : Sort} → h ≡ One t → {n : ℕ} {before after : List ℕ} {r : Built} → BuildsOne text count k (end + 1) n before r after → Laid (spelled vs e) (records_of e n) at n before r after
  unfolding spelled
  one-laid eg {n} {before} {after} {r} b =
      let o = one-here eg in
      subst (λ (f : Expression). Laid (spelled vs f) (records_of f n) at n before r after) (sym o.is) (whole (ap (head_of vs) o.is) (b.all vs o.a o.spelt))

  pub two-laid : {t u : Sort} → h ≡ Two t u → {n : ℕ} {before after : List ℕ} {r : Built} → BuildsTwo text count k (end + 1) n before r after → Laid (spelled vs e) (records_of e n) at n before r after
  unfolding spelled
  two-laid eg {n} {before} {after} {r} b =
      let o = two_here eg in
      subst (λ (f : Expression). Laid (spelled vs f) (records_of f n) at n before r after) (sym o.is) (whole (ap (head_of vs) o.is) (b.all vs o.a o.b o.spelt))

  pub three-laid : {t u l : Sort} → h ≡ Three t u l → {n : ℕ} {before after : List ℕ} {r : Built} → BuildsThree text count k (end + 1) n before r after → Laid (spelled vs e) (records_of e n) at n before r after
  unfolding spelled
  three-laid eg {n} {before} {after} {r} b =
      let o = three-here eg in
      subst (λ (f : Expression). Laid (spelled vs f) (records_of f n) at n before r after) (sym o.is) (whole (ap (head_of vs) o.is) (b.all vs o.a o.b o.c o.spelt))
