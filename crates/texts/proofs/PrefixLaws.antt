-- Words that begin others, words of a list, and the kinds' words. Assumes nothing.
use Prim.Native.Nat.{ℕ, suc, ◌≤◌, ◌<◌}
use mathlib.Core.Path.{◌≡◌, refl, sym, ap, ap₂, ◌∙◌}
use mathlib.Core.Bool.{Bool, true, false, not, ◌&&◌, ◌||◌, false≢true}
use mathlib.Core.Option.{Option, none, some}
use mathlib.Core.List.{List, [], ◌∷◌, ◌++◌}
use native.Mathlib.Omega.{arith}
use lib.Dec.{eqb}
use lib.ListN.{length}
use borrow.Author.Tests.{eq-eqb, eqb-true, lt-ltb, ltb-true}
use Rattle.lists.specs.Names.{same_bytes, listed}
use Rattle.lists.proofs.TestLaws.{both, and}
use Rattle.lists.proofs.NameLaws.{same-decided}
use Rattle.kinds.specs.declared.Kind.{Kind}
use Rattle.kinds.specs.declared.Shape.{Shape}
use Rattle.kinds.specs.declared.Shape.TheVariants.{Wrong, Bare, Valued, Named, One, Two, Three}
use Rattle.kinds.specs.Kinds.{row}
use Rattle.grammar.proofs.PatternLaws.{silent, left-true, right-true}
use Rattle.texts.specs.Plain.{plain_of}
use Rattle.texts.specs.Texts.{operands_behind}
use Rattle.texts.specs.WordKinds.{worded, kind_in, kind_named, behind_word, is_none}
use Rattle.texts.specs.Places.{index_in, is_declared, beginning, begins_any, plain_words}

-- ---- how a word begins

pub beginning-of : (u w : List ℕ) → beginning u (u ++ w) ≡ true
unfolding beginning
beginning-of [] w = refl
beginning-of (c ∷ u) w = and (eq-eqb c c refl) (beginning-of u w)

pub beginning-rest : (u w : List ℕ) → beginning u w ≡ true → (r : List ℕ) × (w ≡ u ++ r)
unfolding beginning
beginning-rest [] w e = (w, refl)
beginning-rest (c ∷ u) [] e = absurd (false≢true e)
beginning-rest (c ∷ u) (d ∷ w) e =
    let k = both (eqb c d) (beginning u w) e in
    let m = beginning-rest u w k.1 in
    (m.0, ap₂ ◌∷◌ (sym (eqb-true c d k.0)) m.1)

-- what is equal to a word is begun by what begins it
begins-same : (n u w : List ℕ) → same_bytes n (u ++ w) ≡ true → beginning u n ≡ true
begins-same n u w e = ap (beginning u) ((same-decided n (u ++ w)).0 e) ∙ beginning-of u w

-- ---- words of a list

listed_here : (n : List ℕ) (ns : List (List ℕ)) (w : List ℕ) → same_bytes n w ≡ true → listed (n ∷ ns) w ≡ true
listed_here n ns w e = go e
  where
    go : {b : Bool} → b ≡ true → elim b [ true ↦ true | false ↦ listed ns w ] ≡ true
    go e = rw e

listed-later : (n : List ℕ) (ns : List (List ℕ)) (w : List ℕ) → listed ns w ≡ true → listed (n ∷ ns) w ≡ true
listed-later n ns w e = go (same_bytes n w)
  where
    go : (b : Bool) → elim b [ true ↦ true | false ↦ listed ns w ] ≡ true
    go true = refl
    go false = e

-- by what is so of each
unfoldable pub every_of : (List ℕ → Bool) → List (List ℕ) → Bool
every_of t [] = true
every_of t (n ∷ ns) = t n && every_of t ns

pub listed-test : (t : List ℕ → Bool) (ns : List (List ℕ)) (w : List ℕ) → every_of t ns ≡ true → listed ns w ≡ true → t w ≡ true
unfolding every_of
listed-test t [] w a e = absurd (false≢true e)
listed-test t (n ∷ ns) w a e = let k = both (t n) (every_of t ns) a in go (same_bytes n w) refl e k.0 (listed-test t ns w k.1)
  where
    go : (b : Bool) → same_bytes n w ≡ b → elim b [ true ↦ true | false ↦ listed ns w ] ≡ true → t n ≡ true → (listed ns w ≡ true → t w ≡ true) → t w ≡ true
    go true h e k more = ap t (sym ((same-decided n w).0 h)) ∙ k
    go false h e k more = more e

pub every_more : (t : List ℕ → Bool) (ns : List (List ℕ)) (w : List ℕ) → every_of t ns ≡ true → t w ≡ true → every_of t (ns ++ (w ∷ [])) ≡ true
unfolding every_of
every_more t [] w a e = and e refl
every_more t (n ∷ ns) w a e = let k = both (t n) (every_of t ns) a in and k.0 (every_more t ns w k.1 e)

pub listed-begins : (ns : List (List ℕ)) (u w : List ℕ) → listed ns (u ++ w) ≡ true → begins_any ns u ≡ true
unfolding begins_any
listed-begins [] u w e = absurd (false≢true e)
listed-begins (n ∷ ns) u w e = go (same_bytes n (u ++ w)) refl e (listed-begins ns u w)
  where
    go : (b : Bool) → same_bytes n (u ++ w) ≡ b → elim b [ true ↦ true | false ↦ listed ns (u ++ w) ] ≡ true → (listed ns (u ++ w) ≡ true → begins_any ns u ≡ true) → beginning u n || begins_any ns u ≡ true
    go true h k more = left-true (beginning u n) (begins_any ns u) (begins-same n u w h)
    go false h k more = right-true (beginning u n) (begins_any ns u) (more k)

pub begins-listed : (ns : List (List ℕ)) (u : List ℕ) → begins_any ns u ≡ true → (w : List ℕ) × (listed ns (u ++ w) ≡ true)
unfolding begins_any
begins-listed [] u e = absurd (false≢true e)
begins-listed (n ∷ ns) u e = go (beginning u n) refl e (begins-listed ns u)
  where
    go : (b : Bool) → beginning u n ≡ b → b || begins_any ns u ≡ true → (begins_any ns u ≡ true → (w : List ℕ) × (listed ns (u ++ w) ≡ true)) → (w : List ℕ) × (listed (n ∷ ns) (u ++ w) ≡ true)
    go true h k more = let m = beginning-rest u n h in (m.0, listed_here n ns (u ++ m.0) ((same-decided n (u ++ m.0)).1 m.1))
    go false h k more = let m = more k in (m.0, listed-later n ns (u ++ m.0) m.1)

-- ---- declared names

index-here : (n : List ℕ) (ns : List (List ℕ)) (w : List ℕ) → same_bytes n w ≡ true → index_in (n ∷ ns) w ≡ 0
unfolding index_in
index-here n ns w e = rw (e, index_in)

index-later : (n : List ℕ) (ns : List (List ℕ)) (w : List ℕ) → same_bytes n w ≡ false → index_in (n ∷ ns) w ≡ suc (index_in ns w)
unfolding index_in
index-later n ns w e = rw (e, index_in)

index_listed : (ns : List (List ℕ)) (w : List ℕ) → index_in ns w < length ns → listed ns w ≡ true
index_listed [] w l = absurd (omega arith)
index_listed (n ∷ ns) w l = go (same_bytes n w) refl (index_listed ns w)
  where
    go : (b : Bool) → same_bytes n w ≡ b → (index_in ns w < length ns → listed ns w ≡ true) → elim b [ true ↦ true | false ↦ listed ns w ] ≡ true
    go true h more = refl
    go false h more = more (omega (arith, index-later n ns w h))

listed-index : (ns : List (List ℕ)) (w : List ℕ) → listed ns w ≡ true → index_in ns w < length ns
listed-index [] w e = absurd (false≢true e)
listed-index (n ∷ ns) w e = go (same_bytes n w) refl e (listed-index ns w)
  where
    go : (b : Bool) → same_bytes n w ≡ b → elim b [ true ↦ true | false ↦ listed ns w ] ≡ true → (listed ns w ≡ true → index_in ns w < length ns) → index_in (n ∷ ns) w < length (n ∷ ns)
    go true h k more = omega (arith, index-here n ns w h)
    go false h k more = let m = more k in omega (arith, index-later n ns w h)

pub declared-listed : (ns : List (List ℕ)) (w : List ℕ) → is_declared ns w ≡ true → listed ns w ≡ true
unfolding is_declared
declared-listed ns w e = index_listed ns w (ltb-true (index_in ns w) (length ns) e)

pub listed-declared : (ns : List (List ℕ)) (w : List ℕ) → listed ns w ≡ true → is_declared ns w ≡ true
unfolding is_declared
listed-declared ns w e = lt-ltb (index_in ns w) (length ns) (listed-index ns w e)

-- ---- the kinds' words

abbrev taken_by : Kind → Option ℕ
taken_by k = operands_behind (row k).shape

kind-here : (k : Kind) (ks : List Kind) (w : List ℕ) → same_bytes (plain_of k) w ≡ true → kind_in (k ∷ ks) w ≡ k
unfolding kind_in
kind-here k ks w e = rw e

kind-later : (k : Kind) (ks : List Kind) (w : List ℕ) → same_bytes (plain_of k) w ≡ false → kind_in (k ∷ ks) w ≡ kind_in ks w
unfolding kind_in
kind-later k ks w e = rw e

-- a word of one of these kinds is among their words
kind-listed : (ks : List Kind) (w : List ℕ) {n : ℕ} → taken_by (kind_in ks w) ≡ some n → listed (plain_words ks) w ≡ true
unfolding kind_in
kind-listed [] w e = absurd (silent refl e)
kind-listed (k ∷ ks) w {n} e = go (same_bytes (plain_of k) w) refl (kind-listed ks w)
  where
    go : (b : Bool) → same_bytes (plain_of k) w ≡ b → (taken_by (kind_in ks w) ≡ some n → listed (plain_words ks) w ≡ true) → elim b [ true ↦ true | false ↦ listed (plain_words ks) w ] ≡ true
    go true h more = refl
    go false h more = more (ap taken_by (sym (kind-later k ks w h)) ∙ e)

-- each of them says how many operands it takes
unfoldable all_take : List Kind → Bool
all_take [] = true
all_take (k ∷ ks) = not (is_none (taken_by k)) && all_take ks

taken : (o : Option ℕ) → not (is_none o) ≡ true → (n : ℕ) × (o ≡ some n)
taken none e = absurd (false≢true e)
taken (some n) e = (n, refl)

listed-kind : (ks : List Kind) (w : List ℕ) → all_take ks ≡ true → listed (plain_words ks) w ≡ true → (n : ℕ) × (taken_by (kind_in ks w) ≡ some n)
unfolding all_take
listed-kind [] w a e = absurd (false≢true e)
listed-kind (k ∷ ks) w a e = let b = both (not (is_none (taken_by k))) (all_take ks) a in go (same_bytes (plain_of k) w) refl e (taken (taken_by k) b.0) (listed-kind ks w b.1)
  where
    go : (b : Bool) → same_bytes (plain_of k) w ≡ b → elim b [ true ↦ true | false ↦ listed (plain_words ks) w ] ≡ true →
        ((n : ℕ) × (taken_by k ≡ some n)) → (listed (plain_words ks) w ≡ true → (n : ℕ) × (taken_by (kind_in ks w) ≡ some n)) → (n : ℕ) × (taken_by (kind_in (k ∷ ks) w) ≡ some n)
    go true h e t more = (t.0, ap taken_by (kind-here k ks w h) ∙ t.1)
    go false h e t more = let m = more e in (m.0, ap taken_by (kind-later k ks w h) ∙ m.1)

worded-take : all_take worded ≡ true
unfolding all_take
worded-take = refl

pub known-listed : (w : List ℕ) {n : ℕ} → behind_word w ≡ some n → listed (plain_words worded) w ≡ true
unfolding kind_named
known-listed w e = kind-listed worded w e

pub listed-known : (w : List ℕ) → listed (plain_words worded) w ≡ true → (n : ℕ) × (behind_word w ≡ some n)
unfolding kind_named
listed-known w e = listed-kind worded w worded-take e

-- no kind takes more than three
few-behind : (h : Shape) {n : ℕ} → operands_behind h ≡ some n → n ≤ 3
few-behind Wrong e = absurd (silent refl e)
few-behind Bare {n} e = let q : ◌≡◌ {A = ℕ} 0 n = cc in omega arith
few-behind Valued e = absurd (silent refl e)
few-behind Named e = absurd (silent refl e)
few-behind (One s) {n} e = let q : ◌≡◌ {A = ℕ} 1 n = cc in omega arith
few-behind (Two s t) {n} e = let q : ◌≡◌ {A = ℕ} 2 n = cc in omega arith
few-behind (Three s t u) {n} e = let q : ◌≡◌ {A = ℕ} 3 n = cc in omega arith

pub few-operands : (w : List ℕ) {n : ℕ} → behind_word w ≡ some n → n ≤ 3
few-operands w e = few-behind (row (kind_named w)).shape e
