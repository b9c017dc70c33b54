-- Which atoms are spelled by one word that is read as them. Assumes nothing.
use mathlib.Core.Path.{◌≡◌, refl, sym, ap, ◌∙◌}
use mathlib.Core.Bool.{Bool, true, false, not, true≢false}
use mathlib.Core.List.{List, [], ◌∷◌, map}
use mathlib.Core.Option.{some}
use Prim.Native.Nat.{ℕ, ◌+◌, ◌≤◌, ◌<◌}
use native.Mathlib.Omega.{arith}
use native.Mathlib.Nat.{lt_of_lt_of_le}
use lib.Dec.{eqb, lit≤}
use borrow.Author.Tests.{eqb-true, ne_eqb, lt-ltb, not-true}
use Rattle.lists.specs.Places.{all_below}
use Rattle.lists.proofs.TestLaws.{both, and, all_true}
use Rattle.lists.specs.Names.{listed}
use Rattle.smtlib.specs.Characters.{every, letter_char, digit_char, symbol_char, word_char}
use Rattle.smtlib.specs.Tokens.{symbol, reserved, numeral, hexadecimal, binary, keyword, reserved_words, digit_value, digits, simple, number, leading_zero, plain_word, token_of}
use Rattle.smtlib.specs.Spelling.{digit_byte, Spelled}

-- ---- names

-- a byte that passes a test is none that fails it
other : (p : ℕ → Bool) (k : ℕ) → p k ≡ false → (c : ℕ) → p c ≡ true → eqb c k ≡ false
other p k f c t = by (eqb c k) refl
  where
    by : (b : Bool) → eqb c k ≡ b → b ≡ false
    by false e = refl
    by true e = absurd (true≢false (sym t ∙ ap p (eqb-true c k e) ∙ f))

no-hash : (c : ℕ) → symbol_char c ≡ true → eqb c 35 ≡ false
unfolding symbol_char letter_char digit_char
no-hash c h = other symbol_char 35 refl c h

no-colon : (c : ℕ) → symbol_char c ≡ true → eqb c 58 ≡ false
unfolding symbol_char letter_char digit_char
no-colon c h = other symbol_char 58 refl c h

word-char : (c : ℕ) → symbol_char c ≡ true → word_char c ≡ true
unfolding word_char
word-char c h = rw h

word_of : (s : List ℕ) → every symbol_char s ≡ true → every word_char s ≡ true
unfolding every
word_of [] h = refl
word_of (c ∷ s) h =
    let w = both (symbol_char c) (every symbol_char s) h in
    and (word-char c w.0) (word_of s w.1)

-- a simple symbol's spelling is a word, whose token goes by the reserved words
word-token : (w : List ℕ) → simple w ≡ true → (every word_char w ≡ true) × (token_of w ≡ plain_word w)
unfolding token_of every
word-token [] h = absurd (true≢false (sym h))
word-token (c ∷ s) h =
    let p = both (not (digit_char c)) (every symbol_char (c ∷ s)) h in
    let q = both (symbol_char c) (every symbol_char s) p.1 in
    (word_of (c ∷ s) p.1, rw (not-true (digit_char c) p.0, token_of, no-hash c q.0, no-colon c q.0))

pub spelled-symbol : (n : List ℕ) → simple n ≡ true → listed reserved_words n ≡ false → Spelled (symbol n)
spelled-symbol n h r =
    let p = word-token n h in
    record { word = p.0; reads = p.1 ∙ rw (h, plain_word, r) }

pub spelled-reserved : (w : List ℕ) → simple w ≡ true → listed reserved_words w ≡ true → Spelled (reserved w)
spelled-reserved w h r =
    let p = word-token w h in
    record { word = p.0; reads = p.1 ∙ rw (h, plain_word, r) }

pub spelled-keyword : (w : List ℕ) → simple w ≡ true → Spelled (keyword w)
unfolding token_of every word_char symbol_char letter_char digit_char
spelled-keyword w h = record { word = (word-token w h).0; reads = rw (h, token_of) }

-- ---- numbers

-- each is a digit to the base
abbrev pub Digits : ℕ → List ℕ → Type 0
Digits base [] = Unit {0}
Digits base (d ∷ ds) = (d < base) × Digits base ds

digit-read : (d : ℕ) → d < 16 → digit_value (digit_byte d) ≡ d
unfolding digit_value digit_byte digit_char all_below
digit-read d h = eqb-true (digit_value (digit_byte d)) d (all_true (λ j. eqb (digit_value (digit_byte j)) j) 16 refl d h)

digit-word : (d : ℕ) → d < 16 → word_char (digit_byte d) ≡ true
unfolding word_char symbol_char letter_char digit_char digit_byte all_below
digit-word d h = all_true (λ j. word_char (digit_byte j)) 16 refl d h

digit-first : (d : ℕ) → d < 10 → digit_char (digit_byte d) ≡ true
unfolding digit_char digit_byte all_below
digit-first d h = all_true (λ j. digit_char (digit_byte j)) 10 refl d h

module _ (base : ℕ) (small : base ≤ 16) where
  digits-read : (ds : List ℕ) → Digits base ds → digits base (map digit_byte ds) ≡ some ds
  unfolding digits
  digits-read [] h = refl
  digits-read (d ∷ ds) h =
      let e = digit-read d (lt_of_lt_of_le h.0 small) in
      rw (digits-read ds h.1, digits, e, lt-ltb d base h.0, e)

  digits-word : (ds : List ℕ) → Digits base ds → every word_char (map digit_byte ds) ≡ true
  unfolding every
  digits-word [] h = refl
  digits-word (d ∷ ds) h = and (digit-word d (lt_of_lt_of_le h.0 small)) (digits-word ds h.1)

sixteen : 16 ≤ 16
sixteen = lit≤ tt

two : 2 ≤ 16
two = lit≤ tt

ten : 10 ≤ 16
ten = lit≤ tt

pub spelled-hexadecimal : (d : ℕ) (ds : List ℕ) → Digits 16 (d ∷ ds) → Spelled (hexadecimal (d ∷ ds))
unfolding token_of every word_char symbol_char letter_char digit_char
spelled-hexadecimal d ds h = record { word = digits-word 16 sixteen (d ∷ ds) h; reads = ap (number hexadecimal) (digits-read 16 sixteen (d ∷ ds) h) }

pub spelled-binary : (d : ℕ) (ds : List ℕ) → Digits 2 (d ∷ ds) → Spelled (binary (d ∷ ds))
unfolding token_of every word_char symbol_char letter_char digit_char
spelled-binary d ds h = record { word = digits-word 2 two (d ∷ ds) h; reads = ap (number binary) (digits-read 2 two (d ∷ ds) h) }

-- 0, or what begins with no 0
no_zero : (d : ℕ) → 1 ≤ d → d < 10 → eqb (digit_byte d) 48 ≡ false
unfolding digit_byte
no_zero d l h = rw (lt-ltb d 10 h) (ne_eqb (48 + d) 48 (λ e. omega arith))

leading : (d : ℕ) (ds : List ℕ) → 1 ≤ d → d < 10 → leading_zero (map digit_byte (d ∷ ds)) ≡ false
leading d [] l h = refl
leading d (e ∷ ds) l h = no_zero d l h

pub spelled-numeral : (d : ℕ) (ds : List ℕ) → 1 ≤ d → Digits 10 (d ∷ ds) → Spelled (numeral (d ∷ ds))
unfolding token_of
spelled-numeral d ds l h =
    record {
      word = digits-word 10 ten (d ∷ ds) h;
      reads = rw (digit-first d h.0, token_of, leading d ds l h.0) (ap (number numeral) (digits-read 10 ten (d ∷ ds) h));
    }
