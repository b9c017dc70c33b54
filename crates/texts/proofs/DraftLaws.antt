-- The names that the lines of a text declare, and which variable a name stands for. Assumes nothing.
use Prim.Native.Nat.{ℕ, zero, suc, ◌<◌}
use mathlib.Core.Path.{◌≡◌, refl, sym, ap, ap₂, ◌∙◌}
use mathlib.Core.Bool.{Bool, true, false, true≢false}
use mathlib.Core.List.{List, [], ◌∷◌, ◌++◌, append_assoc}
use native.Mathlib.Omega.{arith}
use lib.Dec.{eqb}
use lib.ListN.{length, drop}
use borrow.Author.Tests.{ltb-true, lt-ltb, ne_eqb}
use Rattle.lists.specs.Ascii.{ascii}
use Rattle.lists.specs.Names.{same_bytes}
use Rattle.lists.specs.Joined.{joined}
use Rattle.lists.proofs.Decided.{denied}
use Rattle.lists.proofs.NameLaws.{same-decided}
use Rattle.numbers.specs.Decimal.{signed}
use Rattle.meaning.specs.Rule.{Variable}
use Rattle.grammar.specs.Words.{Without, word_length}
use Rattle.texts.specs.Plain.{name_of, variable_line}
use Rattle.texts.specs.Texts.{PlainName, Declarable, AllDeclarable, FirstDeclared}
use Rattle.texts.specs.Places.{separates, first_word, index_in, is_declared, behind_line, names_in}
use Rattle.texts.proofs.SpellingLaws.{space-separates, feed-separates, number-unbroken, name-unbroken}

-- the names of variables
abbrev pub names_of : List Variable → List (List ℕ)
names_of [] = []
names_of (v ∷ vs) = v.name ∷ names_of vs

pub names-count : (vs : List Variable) → length (names_of vs) ≡ length vs
names-count [] = refl
names-count (v ∷ vs) = ap suc (names-count vs)

pub names-append : (us vs : List Variable) → names_of (us ++ vs) ≡ names_of us ++ names_of vs
names-append [] vs = refl
names-append (u ∷ us) vs = ap (λ (l : List (List ℕ)). u.name ∷ l) (names-append us vs)

-- ---- the words of a line

-- behind a word comes its separator
pub first-word : (w : List ℕ) (c : ℕ) (s : List ℕ) → Without separates w → separates c ≡ true → first_word (w ++ c ∷ s) ≡ w
unfolding first_word word_length
first-word [] c s u h = rw (h, word_length)
first-word (d ∷ w) c s u h = rw (u.0, word_length) (ap (λ (l : List ℕ). d ∷ l) (first-word w c s u.1 h))

no-feed : (c : ℕ) → separates c ≡ false → eqb c 10 ≡ false
no-feed c h = ne_eqb c 10 (λ e. true≢false (sym feed-separates ∙ ap separates (sym e) ∙ h))

behind-word : (w : List ℕ) (s : List ℕ) → Without separates w → behind_line (w ++ s) ≡ behind_line s
unfolding behind_line
behind-word [] s u = refl
behind-word (c ∷ w) s u = rw (no-feed c u.0, behind_line) (behind-word w s u.1)

-- a line, and what stands behind it, by its words
abbrev pub line_words : Variable → List ℕ → List ℕ
line_words v s = ascii "var" ++ 32 ∷ (v.name ++ 32 ∷ (signed v.domain.low ++ 32 ∷ (signed v.domain.high ++ 10 ∷ s)))

pub line-words : (v : Variable) (s : List ℕ) → variable_line v ++ s ≡ line_words v s
line-words v s = simp append_assoc

line-name : (v : Variable) (s : List ℕ) → Declarable v → first_word (drop 4 (line_words v s)) ≡ v.name
line-name v s d = first-word v.name 32 _ (name-unbroken d.name) space-separates

line-behind : (v : Variable) (s : List ℕ) → Declarable v → behind_line (line_words v s) ≡ s
unfolding behind_line
line-behind v s d =
    behind-word v.name _ (name-unbroken d.name)
    ∙ behind-word (signed v.domain.low) _ (number-unbroken v.domain.low)
    ∙ behind-word (signed v.domain.high) _ (number-unbroken v.domain.high)

pub names_in_lem : (vs : List Variable) (rest : List ℕ) → AllDeclarable vs → names_in (length vs) (joined variable_line vs ++ rest) ≡ names_of vs
unfolding names_in
names_in_lem [] rest d = refl
names_in_lem (v ∷ vs) rest d =
    let s : List ℕ = joined variable_line vs ++ rest in
    let e : (variable_line v ++ joined variable_line vs) ++ rest ≡ line_words v s = append_assoc (variable_line v) (joined variable_line vs) rest ∙ line-words v s in
    rw e (ap₂ ◌∷◌ (line-name v s d.0) (ap (names_in (length vs)) (line-behind v s d.0) ∙ names_in_lem vs rest d.1))

-- ---- which variable a name stands for

-- variable i's name is one
pub declared-name : (vs : List Variable) (i : ℕ) → AllDeclarable vs → i < length vs → PlainName (name_of vs i)
declared-name [] i d l = absurd (omega arith)
declared-name (v ∷ vs) zero d l = d.0.name
declared-name (v ∷ vs) (suc i) d l = declared-name vs i d.1 (omega arith)

other : {n w : List ℕ} → (n ≡ w → ⊥) → same_bytes n w ≡ false
other {n} {w} f = (denied (same-decided n w)).1 f

pub index-first : (vs : List Variable) (i : ℕ) → FirstDeclared vs i → index_in (names_of vs) (name_of vs i) ≡ i
unfolding index_in
index-first [] i f = absurd (omega (arith, f.declared))
index-first (v ∷ vs) zero f = rw ((same-decided v.name v.name).1 refl, index_in)
index-first (v ∷ vs) (suc i) f =
    rw (other (f.first 0 (omega arith)), index_in) (ap suc (index-first vs i (record { declared = omega (arith, f.declared); first = λ j l. f.first (suc j) (omega arith) })))

pub first-declared : (vs : List Variable) (i : ℕ) → FirstDeclared vs i → is_declared (names_of vs) (name_of vs i) ≡ true
unfolding is_declared
first-declared vs i f = rw (index-first vs i f, names-count vs) (lt-ltb i (length vs) f.declared)

module _ (w : List ℕ) where
  -- before it, no variable has this name
  earlier : (vs : List Variable) (j : ℕ) → j < index_in (names_of vs) w → name_of vs j ≡ w → ⊥
  unfolding index_in
  earlier [] j l e = omega arith
  earlier (v ∷ vs) j l e = by (same_bytes v.name w) refl (earlier vs) j l e
    where
      by : (b : Bool) → same_bytes v.name w ≡ b → ((j : ℕ) → j < index_in (names_of vs) w → name_of vs j ≡ w → ⊥) → (j : ℕ) → j < elim b [ true ↦ 0 | false ↦ suc (index_in (names_of vs) w) ] → name_of (v ∷ vs) j ≡ w → ⊥
      by true h more j l e = omega arith
      by false h more zero l e = true≢false (sym ((same-decided v.name w).1 e) ∙ h)
      by false h more (suc j) l e = more j (omega arith) e

  -- and it has
  here : (vs : List Variable) → index_in (names_of vs) w < length vs → name_of vs (index_in (names_of vs) w) ≡ w
  unfolding index_in
  here [] l = absurd (omega arith)
  here (v ∷ vs) l = by (same_bytes v.name w) refl (here vs) l
    where
      by : (b : Bool) → same_bytes v.name w ≡ b → (index_in (names_of vs) w < length vs → name_of vs (index_in (names_of vs) w) ≡ w) →
          elim b [ true ↦ 0 | false ↦ suc (index_in (names_of vs) w) ] < suc (length vs) → name_of (v ∷ vs) (elim b [ true ↦ 0 | false ↦ suc (index_in (names_of vs) w) ]) ≡ w
      by true h more l = (same-decided v.name w).0 h
      by false h more l = more (omega arith)

pub index-named : (vs : List Variable) (w : List ℕ) → is_declared (names_of vs) w ≡ true → FirstDeclared vs (index_in (names_of vs) w) × (name_of vs (index_in (names_of vs) w) ≡ w)
unfolding is_declared
index-named vs w e =
    let l : index_in (names_of vs) w < length vs = rw (names-count vs) at (ltb-true (index_in (names_of vs) w) (length (names_of vs)) e) in
    let h = here w vs l in
    (record { declared = l; first = λ j k q. earlier w vs j k (q ∙ h) }, h)
