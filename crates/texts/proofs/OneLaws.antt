-- No second draft is what a text says: its words, read from the last to the first, build the one that it has. Assumes nothing.
use Prim.Native.Nat.{ℕ, zero, suc}
use mathlib.Core.Path.{◌≡◌, refl, sym, ap, ap₂, subst, ◌∙◌}
use mathlib.Core.Bool.{Bool, true, false}
use mathlib.Core.List.{List, [], ◌∷◌, ◌++◌, append_assoc, append_cancel_left}
use mathlib.Core.Option.{Option, none, some}
use native.Mathlib.Omega.{arith}
use lib.IntN.{ℤ}
use lib.ListN.{length}
use Rattle.lists.specs.Ascii.{ascii}
use Rattle.lists.specs.Joined.{joined}
use Rattle.lists.specs.Names.{begun}
use Rattle.numbers.specs.Ranges.{Narrow}
use Rattle.numbers.specs.Decimal.{signed}
use Rattle.meaning.specs.Rule.{Variable}
use Rattle.kinds.specs.declared.Kind.{Kind}
use Rattle.kinds.specs.Kinds.{row}
use Rattle.grammar.specs.Words.{Without}
use Rattle.texts.specs.Expressions.{Expression, bare, number, variable, one, two, three, Draft}
use Rattle.texts.specs.Plain.{plain_of, name_of, spelled, variable_line, goal_line, printed}
use Rattle.texts.specs.Texts.{Declarable, AllDeclarable, operands_behind, Takes, Writable, Says}
use Rattle.texts.specs.Numbers.{is_number, number_of}
use Rattle.texts.specs.WordKinds.{kind_named, behind_word}
use Rattle.texts.specs.Places.{separates, index_in}
use Rattle.texts.proofs.NumberLaws.{number_is, number-of}
use Rattle.texts.proofs.SpellingLaws.{kind-named, name-no-kind, number-no-kind, name-no-number, space-separates, feed-separates, word-unbroken, number-unbroken, name-unbroken}
use Rattle.texts.proofs.DraftLaws.{names_of, line_words, line-words, declared-name, index-first}
use Rattle.texts.proofs.CountLaws.{line-feeds}
use Rattle.texts.proofs.TextLaws.{unknown-none, spelled_words}

-- ---- bytes parted at every separator

unfoldable pub parts : List ℕ → List (List ℕ)
parts [] = [] ∷ []
parts (c ∷ s) = elim (separates c) [ true ↦ [] ∷ parts s | false ↦ begun c (parts s) ]

pub parts-word : (w : List ℕ) (c : ℕ) (s : List ℕ) → Without separates w → separates c ≡ true → parts (w ++ c ∷ s) ≡ w ∷ parts s
unfolding parts
parts-word [] c s u h = rw (h, parts)
parts-word (d ∷ w) c s u h = rw (u.0, parts) (ap (begun d) (parts-word w c s u.1 h))

-- bytes that have these parts, where a separator comes behind
abbrev Parted : List ℕ → List (List ℕ) → Type 0
Parted t ws = (c : ℕ) (s : List ℕ) → separates c ≡ true → parts (t ++ c ∷ s) ≡ ws ++ parts s

one-part : (w : List ℕ) → Without separates w → Parted w (w ∷ [])
one-part w u c s h = parts-word w c s u h

both-parted : (t u : List ℕ) (ts us : List (List ℕ)) → Parted t ts → Parted u us → Parted (t ++ (ascii " " ++ u)) (ts ++ us)
both-parted t u ts us p q c s h =
    ap parts (append_assoc t (32 ∷ u) (c ∷ s))
    ∙ p 32 (u ++ c ∷ s) space-separates
    ∙ ap (λ (l : List (List ℕ)). ts ++ l) (q c s h)
    ∙ sym (append_assoc ts us (parts s))

module _ (vs : List Variable) (d : AllDeclarable vs) where
  kind-part : (k : Kind) → Parted (plain_of k) (plain_of k ∷ [])
  kind-part k = one-part (plain_of k) (word-unbroken k)

  pub spelled-parted : (e : Expression) → Writable vs e → Parted (spelled vs e) (spelled_words vs e)
  unfolding spelled spelled_words
  spelled-parted (bare k) w = kind-part k
  spelled-parted (number z) w = one-part (signed z) (number-unbroken z)
  spelled-parted (variable i) w = one-part (name_of vs i) (name-unbroken (declared-name vs i d w.declared))
  spelled-parted (one k a) w = both-parted (plain_of k) (spelled vs a) (plain_of k ∷ []) (spelled_words vs a) (kind-part k) (spelled-parted a w.1)
  spelled-parted (two k a b) w =
      both-parted (plain_of k) _ (plain_of k ∷ []) (spelled_words vs a ++ spelled_words vs b) (kind-part k)
      (both-parted (spelled vs a) (spelled vs b) (spelled_words vs a) (spelled_words vs b) (spelled-parted a w.1) (spelled-parted b w.2))
  spelled-parted (three k a b c) w =
      both-parted (plain_of k) _ (plain_of k ∷ []) (spelled_words vs a ++ (spelled_words vs b ++ spelled_words vs c)) (kind-part k)
      (both-parted (spelled vs a) _ (spelled_words vs a) (spelled_words vs b ++ spelled_words vs c) (spelled-parted a w.1)
      (both-parted (spelled vs b) (spelled vs c) (spelled_words vs b) (spelled_words vs c) (spelled-parted b w.2) (spelled-parted c w.3)))

-- ---- the expressions of words, the last word first

-- a kind takes its operands from the front
abbrev applied : ℕ → Kind → List Expression → List Expression
applied zero k es = bare k ∷ es
applied (suc zero) k [] = []
applied (suc zero) k (a ∷ es) = one k a ∷ es
applied (suc (suc zero)) k [] = []
applied (suc (suc zero)) k (a ∷ []) = []
applied (suc (suc zero)) k (a ∷ b ∷ es) = two k a b ∷ es
applied (suc (suc (suc n))) k [] = []
applied (suc (suc (suc n))) k (a ∷ []) = []
applied (suc (suc (suc n))) k (a ∷ b ∷ []) = []
applied (suc (suc (suc n))) k (a ∷ b ∷ c ∷ es) = three k a b c ∷ es

module _ (names : List (List ℕ)) where
  abbrev leaf_by : List ℕ → Bool → Expression
  leaf_by w true = number (number_of w)
  leaf_by w false = variable (index_in names w)

  abbrev leaf_of : List ℕ → Expression
  leaf_of w = leaf_by w (is_number w)

  abbrev pushed : List ℕ → List Expression → Option ℕ → List Expression
  pushed w es none = leaf_of w ∷ es
  pushed w es (some n) = applied n (kind_named w) es

  unfoldable pub built : List (List ℕ) → List Expression
  built [] = []
  built (w ∷ ws) = pushed w (built ws) (behind_word w)

  push-kind : (k : Kind) {n : ℕ} → Takes n k → (es : List Expression) → pushed (plain_of k) es (behind_word (plain_of k)) ≡ applied n k es
  push-kind k {n} h es =
      let e = kind-named k h in
      ap (pushed (plain_of k) es) (ap (λ (j : Kind). operands_behind (row j).shape) e ∙ h) ∙ ap (λ (j : Kind). applied n j es) e

  push-leaf : (w : List ℕ) {x : Expression} → kind_named w ≡ Kind.Unknown → leaf_of w ≡ x → (es : List Expression) → pushed w es (behind_word w) ≡ x ∷ es
  push-leaf w e h es = ap (pushed w es) (unknown-none w e) ∙ ap (λ (x : Expression). x ∷ es) h

  number-leaf : {z : ℤ} → Narrow z → leaf_of (signed z) ≡ number z
  number-leaf {z} h = ap (leaf_by (signed z)) (number_is h) ∙ ap number (number-of h)

module _ (vs : List Variable) (d : AllDeclarable vs) where
  name-leaf : (i : ℕ) → Writable vs (variable i) → leaf_of (names_of vs) (name_of vs i) ≡ variable i
  name-leaf i f = ap (leaf_by (names_of vs) (name_of vs i)) (name-no-number (declared-name vs i d f.declared)) ∙ ap variable (index-first vs i f)

  pub built-words : (e : Expression) → Writable vs e → (ws : List (List ℕ)) → built (names_of vs) (spelled_words vs e ++ ws) ≡ e ∷ built (names_of vs) ws
  unfolding built spelled_words
  built-words (bare k) w ws = push-kind (names_of vs) k w (built (names_of vs) ws)
  built-words (number z) w ws = push-leaf (names_of vs) (signed z) (number-no-kind w) (number-leaf (names_of vs) w) (built (names_of vs) ws)
  built-words (variable i) w ws = push-leaf (names_of vs) (name_of vs i) (name-no-kind (declared-name vs i d w.declared)) (name-leaf i w) (built (names_of vs) ws)
  built-words (one k a) w ws = push-kind (names_of vs) k w.0 _ ∙ ap (applied 1 k) (built-words a w.1 ws)
  built-words (two k a b) w ws =
      push-kind (names_of vs) k w.0 _
      ∙ ap (applied 2 k)
      (ap (built (names_of vs)) (append_assoc (spelled_words vs a) (spelled_words vs b) ws)
      ∙ built-words a w.1 (spelled_words vs b ++ ws)
      ∙ ap (λ (es : List Expression). a ∷ es) (built-words b w.2 ws))
  built-words (three k a b c) w ws =
      push-kind (names_of vs) k w.0 _
      ∙ ap (applied 3 k)
      (ap (built (names_of vs)) (append_assoc (spelled_words vs a) (spelled_words vs b ++ spelled_words vs c) ws)
      ∙ built-words a w.1 ((spelled_words vs b ++ spelled_words vs c) ++ ws)
      ∙ ap (λ (es : List Expression). a ∷ es)
      (ap (built (names_of vs)) (append_assoc (spelled_words vs b) (spelled_words vs c) ws)
      ∙ built-words b w.2 (spelled_words vs c ++ ws)
      ∙ ap (λ (es : List Expression). b ∷ es) (built-words c w.3 ws)))

-- ---- one expression

first_of : {e f : Expression} {es fs : List Expression} → e ∷ es ≡ f ∷ fs → e ≡ f
first_of h = cc

pub one-expression :
    (vs : List Variable) → AllDeclarable vs → (e f : Expression) → Writable vs e → Writable vs f → {c d : ℕ} {r t : List ℕ} → separates c ≡ true → separates d ≡ true →
    spelled vs e ++ c ∷ r ≡ spelled vs f ++ d ∷ t → (e ≡ f) × (c ∷ r ≡ d ∷ t)
one-expression vs a e f we wf {c} {d} {r} {t} hc hd q =
    let p : spelled_words vs e ++ parts r ≡ spelled_words vs f ++ parts t = sym (spelled-parted vs a e we c r hc) ∙ ap parts q ∙ spelled-parted vs a f wf d t hd in
    let s = first_of (sym (built-words vs a e we (parts r)) ∙ ap (built (names_of vs)) p ∙ built-words vs a f wf (parts t)) in
    (s, append_cancel_left (spelled vs e) (c ∷ r) (d ∷ t) (q ∙ ap (λ (x : Expression). spelled vs x ++ d ∷ t) (sym s)))

-- ---- one list of declarations

var-unbroken : Without separates (ascii "var")
unfolding separates
var-unbroken = (refl, (refl, (refl, tt)))

line-parts : (v : Variable) (s : List ℕ) → Declarable v → parts (line_words v s) ≡ ascii "var" ∷ (v.name ∷ (signed v.domain.low ∷ (signed v.domain.high ∷ parts s)))
line-parts v s d =
    parts-word (ascii "var") 32 _ var-unbroken space-separates
    ∙ ap (λ (l : List (List ℕ)). ascii "var" ∷ l)
    (parts-word v.name 32 _ (name-unbroken d.name) space-separates
    ∙ ap (λ (l : List (List ℕ)). v.name ∷ l)
    (parts-word (signed v.domain.low) 32 _ (number-unbroken v.domain.low) space-separates
    ∙ ap (λ (l : List (List ℕ)). signed v.domain.low ∷ l) (parts-word (signed v.domain.high) 10 s (number-unbroken v.domain.high) feed-separates)))

record SameWords (v u : Variable) : Type 0 where
  name : v.name ≡ u.name
  low : signed v.domain.low ≡ signed u.domain.low
  high : signed v.domain.high ≡ signed u.domain.high

same-words : (v u : Variable) {s t : List (List ℕ)} →
    ascii "var" ∷ (v.name ∷ (signed v.domain.low ∷ (signed v.domain.high ∷ s))) ≡ ascii "var" ∷ (u.name ∷ (signed u.domain.low ∷ (signed u.domain.high ∷ t))) → SameWords v u
same-words v u e = record { name = cc; low = cc; high = cc }

same_number : {y z : ℤ} → Narrow y → Narrow z → signed y ≡ signed z → y ≡ z
same_number h g e = sym (number-of h) ∙ ap number_of e ∙ number-of g

same-variable : (v u : Variable) → Declarable v → Declarable u → SameWords v u → v ≡ u
same-variable v u d c w =
    let l = same_number d.ends.low c.ends.low w.low in
    let h = same_number d.ends.high c.ends.high w.high in
    λ i. record { name = w.name i; domain = record { low = l i; high = h i } }

pub one-declaration : (v u : Variable) → Declarable v → Declarable u → {r t : List ℕ} → variable_line v ++ r ≡ variable_line u ++ t → (v ≡ u) × (r ≡ t)
one-declaration v u d c {r} {t} q =
    let p = sym (line-parts v r d) ∙ ap parts (sym (line-words v r) ∙ q ∙ line-words u t) ∙ line-parts u t c in
    let s = same-variable v u d c (same-words v u p) in
    (s, append_cancel_left (variable_line v) r t (q ∙ ap (λ (x : Variable). variable_line x ++ t) (sym s)))

pub one-declarations :
    (vs us : List Variable) → AllDeclarable vs → AllDeclarable us → length vs ≡ length us → {r t : List ℕ} →
    joined variable_line vs ++ r ≡ joined variable_line us ++ t → (vs ≡ us) × (r ≡ t)
one-declarations [] [] d c l q = (refl, q)
one-declarations [] (u ∷ us) d c l q = absurd (omega arith)
one-declarations (v ∷ vs) [] d c l q = absurd (omega arith)
one-declarations (v ∷ vs) (u ∷ us) d c l {r} {t} q =
    let p = one-declaration v u d.0 c.0 (sym (append_assoc (variable_line v) (joined variable_line vs) r) ∙ q ∙ append_assoc (variable_line u) (joined variable_line us) t) in
    let s = one-declarations vs us d.1 c.1 (omega arith) p.1 in
    (ap₂ ◌∷◌ p.0 s.0, s.1)

-- ---- one draft

pub one-goal : (vs : List Variable) → AllDeclarable vs → (e f : Expression) → Writable vs e → Writable vs f → goal_line vs e ≡ goal_line vs f → e ≡ f
one-goal vs a e f we wf q =
    (one-expression vs a e f we wf feed-separates feed-separates (append_cancel_left (ascii "goal ") (spelled vs e ++ (10 ∷ [])) (spelled vs f ++ (10 ∷ [])) q)).0

pub one-draft : {s : List ℕ} {d e : Draft} → Says s d → Says s e → d ≡ e
unfolding printed
one-draft {s} {d} {e} h g =
    let n : length d.variables ≡ length e.variables = omega (arith, line-feeds h, line-feeds g) in
    let p = one-declarations d.variables e.variables h.variables g.variables n (sym h.text ∙ g.text) in
    let v = p.0 in
    let w = subst (λ (vs : List Variable). Writable vs e.goal) (sym v) g.goal in
    let x = one-goal d.variables h.variables d.goal e.goal h.goal w (p.1 ∙ ap (λ (vs : List Variable). goal_line vs e.goal) (sym v)) in
    λ i. record { variables = v i; goal = x i }
