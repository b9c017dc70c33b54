-- Hashes of a reply that spells a setting: one for each number, in order. Assumes nothing.
use Prim.Native.Nat.{ℕ, suc, ◌+◌, ◌/◌, ◌%◌, ◌<◌, ◌≤◌}
use mathlib.Core.Path.{◌≡◌, refl, sym, ap, subst, ◌∙◌}
use mathlib.Core.Bool.{Bool, true, false, cond}
use mathlib.Core.List.{List, [], ◌∷◌, ◌++◌, map}
use native.Mathlib.Omega.{arith}
use lib.Dec.{eqb, ltb}
use borrow.Author.Tests.{eqb-true, ltb-true}
use Rattle.lists.specs.Ascii.{ascii}
use Rattle.smtlib.specs.Characters.{white_space, digit_char}
use Rattle.smtlib.specs.Tokens.{digit_value}
use Rattle.wording.specs.Sixteen.{symbol_text}
use Rattle.grammar.specs.Patterns.{Pattern, end, anything, one, many, exact, All, Fits}
use Rattle.grammar.proofs.FitLaws.{Covered, cover_one, cover-exact, cover-any}
use Rattle.replies.specs.Replies.{blanks, mark, pairs, listed}
use Rattle.replies.specs.Says.{Numeral, hexadecimal, binary, Sixteen, AllSixteen, valued, digits, written, Spells}
use Rattle.replies.proofs.ByteLaws.{blank-low}

-- behind the hash: the base, and the digits
abbrev pub behind_hash : Numeral → Pattern
behind_hash (hexadecimal ds) = exact (ascii "x") (digits ds anything)
behind_hash (binary ds) = exact (ascii "b") (digits ds anything)

-- a hash for each numeral, and none besides
pub data Hashes : List Numeral → List ℕ → Type 0 where
  no_more : Hashes [] []
  other : {ns : List Numeral} {s : List ℕ} (c : ℕ) → (c ≡ 35 → ⊥) → Hashes ns s → Hashes ns (c ∷ s)
  hash : {ns : List Numeral} {s : List ℕ} (n : Numeral) → Fits (behind_hash n) s → Hashes ns s → Hashes (n ∷ ns) (35 ∷ s)

record Has (ns : List Numeral) (p : Pattern) : Type 0 where
  has : (s : List ℕ) → Fits p s → Hashes ns s

others : {ns : List Numeral} (t : ℕ → Bool) → ((c : ℕ) → t c ≡ true → c ≡ 35 → ⊥) → (b : List ℕ) {r : List ℕ} → All t b → Hashes ns r → Hashes ns (b ++ r)
others t n [] a h = h
others t n (c ∷ b) a h = other c (n c a.0) (others t n b a.1 h)

module _ {ns : List Numeral} {p : Pattern} where
  has_one : (t : ℕ → Bool) → ((c : ℕ) → t c ≡ true → c ≡ 35 → ⊥) → Has ns p → Has ns (one t p)
  unfolding Fits
  has_one t n h = record { has = λ s f. subst (Hashes ns) (sym f.split) (other f.byte (n f.byte f.fits) (h.has f.rest f.then)) }

  has-many : (t : ℕ → Bool) → ((c : ℕ) → t c ≡ true → c ≡ 35 → ⊥) → Has ns p → Has ns (many t p)
  unfolding Fits
  has-many t n h = record { has = λ s f. subst (Hashes ns) (sym f.split) (others t n f.bytes f.fits (h.has f.rest f.then)) }

blank-off : (c : ℕ) → white_space c ≡ true → c ≡ 35 → ⊥
blank-off c e q = let l = blank-low c e in omega arith

byte-off : (d : ℕ) → (d ≡ 35 → ⊥) → (c : ℕ) → eqb d c ≡ true → c ≡ 35 → ⊥
byte-off d n c e q = n (eqb-true d c e ∙ q)

-- a hash is no digit
hash-value : digit_value 35 ≡ 16
unfolding digit_value digit_char
hash-value = refl

digit-off : (d : ℕ) → d < 16 → (c : ℕ) → valued d c ≡ true → c ≡ 35 → ⊥
digit-off d l c e q =
    let a = eqb-true (digit_value c) d e in
    let b = ap digit_value q ∙ hash-value in
    omega arith

has-mark : (d : ℕ) {ns : List Numeral} {p : Pattern} → (d ≡ 35 → ⊥) → Has ns p → Has ns (mark d p)
has-mark d n h = has-many white_space blank-off (has_one (eqb d) (byte-off d n) h)

has-digits : (base : ℕ) {ns : List Numeral} {p : Pattern} → base ≤ 16 → (ds : List ℕ) → All (λ d. ltb d base) ds → Has ns p → Has ns (digits ds p)
has-digits base l [] a h = h
has-digits base l (d ∷ ds) a h = has_one (valued d) (digit-off d (let k = ltb-true d base a.0 in omega arith)) (has-digits base l ds a.1 h)

abbrev NoHash : List ℕ → Type 0
NoHash [] = Unit {0}
NoHash (c ∷ w) = (c ≡ 35 → ⊥) × NoHash w

has-exact : (w : List ℕ) {ns : List Numeral} {p : Pattern} → NoHash w → Has ns p → Has ns (exact w p)
has-exact [] n h = h
has-exact (c ∷ w) n h = has_one (eqb c) (byte-off c n.0) (has-exact w n.1 h)

-- v and digits
symbol-free : (i : ℕ) → NoHash (symbol_text i)
unfolding symbol_text
symbol-free i = (λ e. omega arith, go (ltb i 10))
  where
    go : (b : Bool) → NoHash (cond b ((48 + i) ∷ []) ((48 + i / 10 % 10) ∷ (48 + i % 10) ∷ []))
    go true = (λ e. omega arith, tt)
    go false = (λ e. omega arith, (λ e. omega arith, tt))

-- ---- at a hash

cover-digits : {p q : Pattern} (ds : List ℕ) → Covered p q → Covered (digits ds p) (digits ds q)
cover-digits [] h = h
cover-digits (d ∷ ds) h = cover_one (valued d) (valued d) (λ c e. e) (cover-digits ds h)

has-hash : {ns : List Numeral} {p : Pattern} (n : Numeral) → Covered p (behind_hash n) → Has ns p → Has (n ∷ ns) (one (eqb 35) p)
unfolding Fits
has-hash {ns} {p} n w h = record {
  has = λ s f. subst (Hashes (n ∷ ns)) (sym (f.split ∙ ap (λ (c : ℕ). c ∷ f.rest) (sym (eqb-true 35 f.byte f.fits)))) (hash n (w.covered f.rest f.then) (h.has f.rest f.then));
}

has-written : {ns : List Numeral} {p : Pattern} (n : Numeral) → Sixteen n → Has ns p → Has (n ∷ ns) (written n p)
has-written (hexadecimal ds) r h =
    has-hash (hexadecimal ds) (cover-exact (ascii "x") (cover-digits ds cover-any)) (has_one (eqb 120) (byte-off 120 (λ e. omega arith)) (has-digits 16 (omega arith) ds r.1 h))
has-written (binary ds) r h =
    has-hash (binary ds) (cover-exact (ascii "b") (cover-digits ds cover-any)) (has_one (eqb 98) (byte-off 98 (λ e. omega arith)) (has-digits 2 (omega arith) ds r.1 h))

has-pairs : (ns : List Numeral) {p : Pattern} (i : ℕ) → AllSixteen ns → Has [] p → Has ns (pairs i (map written ns) p)
has-pairs [] i a h = h
has-pairs (n ∷ ns) i a h =
    has-mark 40 (λ e. omega arith)
    (has-many white_space blank-off
    (has-exact (symbol_text i) (symbol-free i)
    (has_one white_space blank-off
    (has-many white_space blank-off
    (has-written n a.0 (has-mark 41 (λ e. omega arith) (has-pairs ns (suc i) a.1 h)))))))

none-there : Has [] end
unfolding Fits
none-there = record { has = λ s f. subst (Hashes []) (sym f) no_more }

has_end : Has [] (blanks end)
has_end = has-many white_space blank-off none-there

has_listed : (ns : List Numeral) → AllSixteen ns → Has ns (listed (map written ns))
has_listed [] a = has_end
has_listed (n ∷ ns) a = has-mark 40 (λ e. omega arith) (has-pairs (n ∷ ns) 0 a (has-mark 41 (λ e. omega arith) has_end))

-- a reply that spells numerals has a hash for each
pub spells-hashes : (ns : List Numeral) (s : List ℕ) → AllSixteen ns → Spells ns s → Hashes ns s
spells-hashes ns s a f =
    (has-many white_space blank-off (has-exact (ascii "sat") ((λ e. omega arith), ((λ e. omega arith), ((λ e. omega arith), tt))) (has_listed ns a))).has s f
