-- The words of plain texts told apart: words of kinds, numbers and names; and none of them holds a separator. Assumes nothing.
use Prim.Native.Nat.{ℕ, suc, ◌≤◌}
use mathlib.Core.Path.{◌≡◌, refl, sym, ap, ◌∙◌}
use mathlib.Core.Logic.{⊎_elim}
use mathlib.Core.Bool.{Bool, true, false, cond, not, ◌&&◌, true≢false, false≢true}
use mathlib.Core.List.{List, [], ◌∷◌}
use mathlib.Core.Option.{Option, none, some}
use native.Mathlib.Omega.{arith}
use lib.Dec.{eqb, leb}
use lib.IntN.{ℤ, pos, negsuc}
use lib.ListN.{length}
use borrow.Author.Tests.{eqb-true, ne_eqb, leb-true, le-leb, lt-leb}
use Rattle.lists.specs.Names.{same_bytes}
use Rattle.lists.proofs.TestLaws.{both, and}
use Rattle.lists.proofs.Decided.{Decides}
use Rattle.lists.proofs.NameLaws.{same-decided}
use Rattle.numbers.specs.Ranges.{Narrow}
use Rattle.numbers.specs.Decimal.{decimal, signed}
use Rattle.kinds.specs.declared.Kind.{Kind}
use Rattle.kinds.specs.Kinds.{row, kind_of}
use Rattle.kinds.proofs.KindLaws.{byte-names, passes}
use Rattle.layout.specs.Limits.{most_name_bytes}
use Rattle.records.specs.Names.{Letter, NameByte, Name}
use Rattle.records.specs.Variables.{is_letter, is_name_byte, all_name_bytes, name_right}
use Rattle.records.proofs.NameLaws.{letter-decided, name-byte-decided, name-decided}
use Rattle.grammar.specs.Words.{Without}
use Rattle.texts.specs.Plain.{plain_of}
use Rattle.texts.specs.Texts.{Word, PlainName, operands_behind, Takes}
use Rattle.texts.specs.Numbers.{is_digit, all_digits, zero_first, is_decimal, is_number}
use Rattle.texts.specs.WordKinds.{worded, kind_in, kind_named, behind_word, is_none}
use Rattle.texts.specs.Places.{separates, is_plain_name}
use Rattle.texts.proofs.NumberLaws.{digit-bounds, decimal-digits, number_is}

-- nothing is none and something
pub silent : {o : Option ℕ} {n : ℕ} → o ≡ none → o ≡ some n → ⊥
silent e d = let z : ◌≡◌ {A = ℕ} 0 1 = cc in omega arith

-- ---- words of kinds

same_kind : (j k : Kind) → (row j).byte ≡ (row k).byte → j ≡ k
same_kind j k e = sym (byte-names j) ∙ ap kind_of e ∙ byte-names k

-- a kind without operands to count has no word, and any other is the one that its word names
abbrev fits : Kind → Option ℕ → Bool
fits k none = same_bytes (plain_of k) []
fits k (some n) = eqb (row (kind_named (plain_of k))).byte (row k).byte

abbrev named : Kind → Bool
named k = fits k (operands_behind (row k).shape)

all_named : (k : Kind) → named k ≡ true
unfolding kind_named kind_in same_bytes
all_named k = passes named refl k

pub kind-named : (k : Kind) {n : ℕ} → Takes n k → kind_named (plain_of k) ≡ k
kind-named k {n} h = same_kind (kind_named (plain_of k)) k (eqb-true _ _ (rw h at (all_named k)))

pub word-empty : (k : Kind) → operands_behind (row k).shape ≡ none → plain_of k ≡ []
word-empty k h = (same-decided (plain_of k) []).0 (rw h at (all_named k))

module _ (w : List ℕ) where
  kind-in : (ks : List Kind) {n : ℕ} → operands_behind (row (kind_in ks w)).shape ≡ some n → plain_of (kind_in ks w) ≡ w
  unfolding kind_in
  kind-in [] h = absurd (silent refl h)
  kind-in (k ∷ ks) {n} h = by (same_bytes (plain_of k) w) refl (kind-in ks) h
    where
      by : (b : Bool) → same_bytes (plain_of k) w ≡ b → (operands_behind (row (kind_in ks w)).shape ≡ some n → plain_of (kind_in ks w) ≡ w) → operands_behind (row (cond b k (kind_in ks w))).shape ≡ some n → plain_of (cond b k (kind_in ks w)) ≡ w
      by true e more h = (same-decided (plain_of k) w).0 e
      by false e more h = more h

  pub named-kind : {n : ℕ} → behind_word w ≡ some n → Takes n (kind_named w) × (plain_of (kind_named w) ≡ w)
  unfolding kind_named
  named-kind h = (h, kind-in worded h)

  none_in : (ks : List Kind) → (Word w → ⊥) → kind_in ks w ≡ Kind.Unknown
  unfolding kind_in
  none_in [] f = refl
  none_in (k ∷ ks) f = by (same_bytes (plain_of k) w) refl (none_in ks f)
    where
      by : (b : Bool) → same_bytes (plain_of k) w ≡ b → kind_in ks w ≡ Kind.Unknown → cond b k (kind_in ks w) ≡ Kind.Unknown
      by true e more = absurd (f (record { kind = k; text = (same-decided (plain_of k) w).0 e }))
      by false e more = more

  pub no-word-none : (Word w → ⊥) → kind_named w ≡ Kind.Unknown
  unfolding kind_named
  no-word-none f = none_in worded f

-- ---- names

none_is : (o : Option ℕ) → is_none o ≡ true → o ≡ none
none_is none e = refl
none_is (some n) e = absurd (false≢true e)

some-name : (w : List ℕ) → Name w → w ≡ [] → ⊥
some-name [] n e = n
some-name (c ∷ w) n e = omega (arith, ap length e)

-- a kind's word has operands to count
word_counts : (w : List ℕ) → (w ≡ [] → ⊥) → behind_word w ≡ none → Word w → ⊥
word_counts w f e x = by (operands_behind (row x.kind).shape) refl
  where
    by : (o : Option ℕ) → operands_behind (row x.kind).shape ≡ o → ⊥
    by none h = f (sym x.text ∙ word-empty x.kind h)
    by (some n) h =
        let q : kind_named w ≡ x.kind = ap kind_named (sym x.text) ∙ kind-named x.kind h in
        silent e (ap (λ (k : Kind). operands_behind (row k).shape) q ∙ h)

-- the test of a name holds exactly of names
pub plain-name-decided : (w : List ℕ) → Decides (is_plain_name w) (PlainName w)
unfolding is_plain_name
plain-name-decided w = (is, of)
  where
    is : name_right w && leb (length w) most_name_bytes && is_none (behind_word w) ≡ true → PlainName w
    is e =
        let a = both (name_right w && leb (length w) most_name_bytes) (is_none (behind_word w)) e in
        let b = both (name_right w) (leb (length w) most_name_bytes) a.0 in
        let n = (name-decided w).0 b.0 in
        record { name = n; short = leb-true (length w) most_name_bytes b.1; no_word = word_counts w (some-name w n) (none_is (behind_word w) a.1) }

    of : PlainName w → name_right w && leb (length w) most_name_bytes && is_none (behind_word w) ≡ true
    of p = and (and ((name-decided w).1 p.name) (le-leb (length w) most_name_bytes p.short)) (ap (λ (k : Kind). is_none (operands_behind (row k).shape)) (no-word-none w p.no_word))

pub name-no-kind : {w : List ℕ} → PlainName w → kind_named w ≡ Kind.Unknown
name-no-kind {w} p = no-word-none w p.no_word

-- ---- numbers are neither

-- the first byte, if there is one, comes behind the digits
abbrev lettered : List ℕ → Bool
lettered [] = true
lettered (c ∷ s) = leb 58 c

word-lettered : (k : Kind) → lettered (plain_of k) ≡ true
word-lettered k = passes (λ j. lettered (plain_of j)) refl k

digits-unlettered : (c : ℕ) (s : List ℕ) → all_digits (c ∷ s) ≡ true → leb 58 c ≡ false
unfolding all_digits
digits-unlettered c s e = let b = digit-bounds c (both (is_digit c) (all_digits s) e).0 in lt-leb 58 c (omega arith)

number-unlettered : (w : List ℕ) → is_number w ≡ true → lettered w ≡ false
unfolding is_number is_decimal
number-unlettered [] e = absurd (false≢true e)
number-unlettered (c ∷ s) e = by (eqb c 45) refl e
  where
    by : (b : Bool) → eqb c 45 ≡ b → elim b [ true ↦ not (zero_first s) && is_decimal 32768 s | false ↦ is_decimal 32767 (c ∷ s) ] ≡ true → leb 58 c ≡ false
    by true h k = let q = eqb-true c 45 h in lt-leb 58 c (omega arith)
    by false h k = digits-unlettered c s (both (all_digits (c ∷ s)) _ k).0

name-lettered : (w : List ℕ) → Name w → lettered w ≡ true
name-lettered [] n = refl
name-lettered (c ∷ s) n = le-leb 58 c (⊎_elim (λ h. let l = h.0 in omega arith) (λ h. let l = h.0 in omega arith) n.0)

pub is-number-no-kind : (w : List ℕ) → is_number w ≡ true → kind_named w ≡ Kind.Unknown
is-number-no-kind w e = no-word-none w (λ x. true≢false (sym (word-lettered x.kind) ∙ ap lettered x.text ∙ number-unlettered w e))

pub number-no-kind : {z : ℤ} → Narrow z → kind_named (signed z) ≡ Kind.Unknown
number-no-kind {z} h = is-number-no-kind (signed z) (number_is h)

pub name-no-number : {w : List ℕ} → PlainName w → is_number w ≡ false
name-no-number {w} p = by (is_number w) refl
  where
    by : (b : Bool) → is_number w ≡ b → b ≡ false
    by true e = absurd (true≢false (sym (name-lettered w p.name) ∙ number-unlettered w e))
    by false e = refl

-- ---- without separators

pub space-separates : separates 32 ≡ true
unfolding separates
space-separates = refl

pub feed-separates : separates 10 ≡ true
unfolding separates
feed-separates = refl

above : {c : ℕ} → 33 ≤ c → separates c ≡ false
unfolding separates
above {c} h = rw (ne_eqb c 32 (λ e. omega arith), ne_eqb c 10 (λ e. omega arith))

-- all bytes of the list come behind the space
abbrev visible : List ℕ → Bool
visible [] = true
visible (c ∷ s) = leb 33 c && visible s

visible-unbroken : (s : List ℕ) → visible s ≡ true → Without separates s
visible-unbroken [] e = tt
visible-unbroken (c ∷ s) e = let w = both (leb 33 c) (visible s) e in (above (leb-true 33 c w.0), visible-unbroken s w.1)

pub word-unbroken : (k : Kind) → Without separates (plain_of k)
word-unbroken k = visible-unbroken (plain_of k) (passes (λ j. visible (plain_of j)) refl k)

pub digits-unbroken : (s : List ℕ) → all_digits s ≡ true → Without separates s
unfolding all_digits
digits-unbroken [] e = tt
digits-unbroken (c ∷ s) e =
    let w = both (is_digit c) (all_digits s) e in
    let b = digit-bounds c w.0 in
    (above (omega arith), digits-unbroken s w.1)

pub number-unbroken : (z : ℤ) → Without separates (signed z)
unfolding signed
number-unbroken (pos n) = digits-unbroken (decimal n) (decimal-digits n)
number-unbroken (negsuc n) = (above (omega arith), digits-unbroken (decimal (suc n)) (decimal-digits (suc n)))

letter-visible : (c : ℕ) → Letter c → 33 ≤ c
letter-visible c = ⊎_elim (λ h. let l = h.0 in omega arith) (λ h. let l = h.0 in omega arith)

name-byte-visible : (c : ℕ) → NameByte c → 33 ≤ c
name-byte-visible c = ⊎_elim (⊎_elim (letter-visible c) (λ h. let l = h.0 in omega arith)) (λ e. omega arith)

name-bytes-unbroken : (s : List ℕ) → all_name_bytes s ≡ true → Without separates s
unfolding all_name_bytes
name-bytes-unbroken [] e = tt
name-bytes-unbroken (c ∷ s) e =
    let w = both (is_name_byte c) (all_name_bytes s) e in
    (above (name-byte-visible c ((name-byte-decided c).0 w.0)), name-bytes-unbroken s w.1)

right-unbroken : (w : List ℕ) → name_right w ≡ true → Without separates w
unfolding name_right
right-unbroken [] e = tt
right-unbroken (c ∷ s) e =
    let w = both (is_letter c) (all_name_bytes s) e in
    (above (letter-visible c ((letter-decided c).0 w.0)), name-bytes-unbroken s w.1)

pub name-unbroken : {w : List ℕ} → PlainName w → Without separates w
name-unbroken {w} p = right-unbroken w ((name-decided w).1 p.name)
