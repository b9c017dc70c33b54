-- Each byte of a reply can be read in one way only. Assumes nothing.
use Prim.Native.Nat.{ℕ, zero, suc, ◌<◌}
use mathlib.Core.Path.{◌≡◌, refl, sym, ◌∙◌}
use mathlib.Core.Logic.{◌⊎◌, inl, inr}
use mathlib.Core.Bool.{Bool, true, false}
use mathlib.Core.Option.{none}
use mathlib.Core.List.{List, [], ◌∷◌}
use native.Mathlib.Omega.{arith}
use lib.Dec.{eqb}
use lib.ListN.{replicate}
use borrow.Author.Tests.{eq-eqb, ne_eqb, eqb-true}
use Rattle.lists.specs.Ascii.{ascii}
use Rattle.smtlib.specs.Characters.{white_space, digit_char}
use Rattle.smtlib.specs.Tokens.{digit_value}
use Rattle.wording.specs.Sixteen.{symbol_text}
use Rattle.grammar.specs.Patterns.{Pattern, end, one, either, exact, times}
use Rattle.grammar.specs.Stops.{derive}
use Rattle.grammar.proofs.PatternLaws.{derive-off}
use Rattle.grammar.proofs.Definite.{OneWay, Definite}
use Rattle.replies.specs.Replies.{hex_digits, binary_digits, blanks, mark, digit_to, any_value, pair, pairs, listed, claim, reply_of, reply_for}
use Rattle.replies.proofs.ByteLaws.{blank-low, space}

-- no byte above 32 is a blank
off-blank : (d c : ℕ) (p : Pattern) → 32 < d → white_space c ≡ true → derive (one (eqb d) p) c ≡ none
off-blank d c p h e = derive-off (eqb d) p c (ne_eqb d c (λ k. let l = blank-low c e in omega arith))

after-blanks : {p : Pattern} → ((c : ℕ) → white_space c ≡ true → derive p c ≡ none) → Definite p → Definite (blanks p)
unfolding OneWay
after-blanks h d = record { one_way = (h, d.one_way) }

one-definite : (t : ℕ → Bool) {p : Pattern} (c : ℕ) → t c ≡ true → Definite p → Definite (one t p)
unfolding OneWay
one-definite t c e d = record { one_way = ((c, e), d.one_way) }

byte-definite : (d : ℕ) {p : Pattern} → Definite p → Definite (one (eqb d) p)
byte-definite d h = one-definite (eqb d) d (eq-eqb d d refl) h

exact-definite : (w : List ℕ) {p : Pattern} → Definite p → Definite (exact w p)
exact-definite [] h = h
exact-definite (c ∷ w) h = byte-definite c (exact-definite w h)

times-definite : (t : ℕ → Bool) {p : Pattern} (c : ℕ) → t c ≡ true → (n : ℕ) → Definite p → Definite (times n t p)
times-definite t c e zero h = h
times-definite t c e (suc n) h = one-definite t c e (times-definite t c e n h)

mark-definite : (d : ℕ) {p : Pattern} → 32 < d → Definite p → Definite (mark d p)
mark-definite d {p} h g = after-blanks (λ c e. off-blank d c p h e) (byte-definite d g)

fork-definite : (a b : ℕ) {p q : Pattern} → (a ≡ b → ⊥) → Definite p → Definite q → Definite (either (one (eqb a) p) (one (eqb b) q))
unfolding OneWay
fork-definite a b {p} {q} n h g = record { one_way = (λ c. go c (eqb a c) refl, (byte-definite a h).one_way, (byte-definite b g).one_way) }
  where
    go : (c : ℕ) (t : Bool) → eqb a c ≡ t → (derive (one (eqb a) p) c ≡ none) ⊎ (derive (one (eqb b) q) c ≡ none)
    go c true e = inr (derive-off (eqb b) q c (ne_eqb b c (λ k. n (eqb-true a c e ∙ sym k))))
    go c false e = inl (derive-off (eqb a) p c e)

end-definite : Definite end
unfolding OneWay
end-definite = record { one_way = tt }

claim-definite : Definite claim
unfolding OneWay derive
claim-definite = record { one_way = (λ c. inl refl, tt, ((32, space), tt)) }

-- a digit to each base
zero-digit : digit_to 16 48 ≡ true
unfolding digit_value digit_char
zero-digit = refl

zero_bit : digit_to 2 48 ≡ true
unfolding digit_value digit_char
zero_bit = refl

-- a spelling of values: definite, and begins with no blank
record Spelling (value : Pattern → Pattern) : Type 0 where
  definite : {p : Pattern} → Definite p → Definite (value p)
  unblank : (p : Pattern) (c : ℕ) → white_space c ≡ true → derive (value p) c ≡ none

any-spelling : Spelling any_value
any-spelling = record {
  definite = λ h. byte-definite 35 (fork-definite 120 98 (λ e. omega arith) (times-definite (digit_to 16) 48 zero-digit hex_digits h) (times-definite (digit_to 2) 48 zero_bit binary_digits h));
  unblank = λ p c e. off-blank 35 c _ (omega arith) e;
}

abbrev Spellings : List (Pattern → Pattern) → Type 0
Spellings [] = Unit {0}
Spellings (value ∷ values) = Spelling value × Spellings values

symbol-unblank : (i : ℕ) (p : Pattern) (c : ℕ) → white_space c ≡ true → derive (exact (symbol_text i) p) c ≡ none
unfolding symbol_text
symbol-unblank i p c e = off-blank 118 c _ (omega arith) e

pair-definite : (i : ℕ) {value : Pattern → Pattern} {p : Pattern} → Spelling value → Definite p → Definite (pair i value p)
pair-definite i {value} {p} s h =
    mark-definite 40 (omega arith)
    (after-blanks (symbol-unblank i _)
    (exact-definite (symbol_text i) (one-definite white_space 32 space (after-blanks (s.unblank _) (s.definite (mark-definite 41 (omega arith) h))))))

pairs-definite : (i : ℕ) (values : List (Pattern → Pattern)) {p : Pattern} → Spellings values → Definite p → Definite (pairs i values p)
pairs-definite i [] s h = h
pairs-definite i (value ∷ values) s h = pair-definite i s.0 (pairs-definite (suc i) values s.1 h)

back-definite : Definite (blanks end)
unfolding derive
back-definite = after-blanks (λ c e. refl) end-definite

listed-definite : (values : List (Pattern → Pattern)) → Spellings values → Definite (listed values)
listed-definite [] s = back-definite
listed-definite (value ∷ values) s = mark-definite 40 (omega arith) (pairs-definite 0 (value ∷ values) s (mark-definite 41 (omega arith) back-definite))

word-unblank : (a b : ℕ) (p q : Pattern) → 32 < a → 32 < b → (c : ℕ) → white_space c ≡ true → derive (either (one (eqb a) p) (one (eqb b) q)) c ≡ none
unfolding derive
word-unblank a b p q h g c e = rw (off-blank a c p h e) (off-blank b c q g e)

reply-definite : (values : List (Pattern → Pattern)) → Spellings values → Definite (reply_of values)
reply-definite values s =
    after-blanks
    (word-unblank 117 115 _ _ (omega arith) (omega arith))
    (fork-definite 117 115 (λ e. omega arith) (exact-definite (ascii "nsat") claim-definite) (exact-definite (ascii "at") (listed-definite values s)))

all-spelled : (v : ℕ) → Spellings (replicate v any_value)
all-spelled zero = tt
all-spelled (suc v) = (any-spelling, all-spelled v)

pub definite-for : (v : ℕ) → Definite (reply_for v)
definite-for v = reply-definite (replicate v any_value) (all-spelled v)
