-- What is read has digits of the right base. Assumes nothing.
use mathlib.Core.Path.{◌≡◌, refl, subst}
use mathlib.Core.Bool.{Bool, true, false, cond}
use mathlib.Core.List.{List, [], ◌∷◌, ◌++◌}
use mathlib.Core.Option.{Option, none, some}
use Prim.Native.Nat.{ℕ}
use lib.Dec.{eqb, ltb}
use borrow.Author.Tests.{ltb-true}
use Rattle.lists.specs.Names.{listed}
use Rattle.smtlib.specs.Characters.{digit_char, line_break, character, quotable, Class, in_word, blank, left_paren, right_paren, semicolon, bar, no_token, class_of}
use Rattle.smtlib.specs.Tokens.{Atom, symbol, reserved, numeral, hexadecimal, binary, keyword, Token, opening, closing, single, wrong, reserved_words, digit_value, digits, simple, number, leading_zero, hashed, token_of, Mode, outside, in_quotes, in_comment, ended, outside_at, step, last, tokens}
use Rattle.smtlib.specs.Sexps.{Sexp, atom, nil, cons, snoc, parse, sexps_of}
use Rattle.smtlib.proofs.Spelling.{Digits}

abbrev pub GoodAtom : Atom → Type 0
GoodAtom (symbol n) = Unit {0}
GoodAtom (reserved w) = Unit {0}
GoodAtom (numeral ds) = Unit {0}
GoodAtom (hexadecimal ds) = Digits 16 ds
GoodAtom (binary ds) = Digits 2 ds
GoodAtom (keyword w) = Unit {0}

abbrev pub Good : Sexp → Type 0
Good (atom a) = GoodAtom a
Good nil = Unit {0}
Good (cons x s) = Good x × Good s

-- ---- words

-- a record, so that the token is found from it
abbrev InToken : Token → Type 0
InToken opening = Unit {0}
InToken closing = Unit {0}
InToken (single a) = GoodAtom a
InToken wrong = Unit {0}

record GoodToken (t : Token) : Type 0 where
  inside : InToken t

good : (t : Token) → InToken t → GoodToken t
good t h = record { inside = h }

by-test : (q : Bool) {a b : Token} → GoodToken a → GoodToken b → GoodToken (cond q a b)
by-test true h k = h
by-test false h k = k

abbrev DigitsIn : ℕ → Option (List ℕ) → Type 0
DigitsIn base none = Unit {0}
DigitsIn base (some ds) = Digits base ds

digits-good : (base : ℕ) (s : List ℕ) → DigitsIn base (digits base s)
unfolding digits
digits-good base [] = tt
digits-good base (c ∷ s) = by (digits base s) (digits-good base s)
  where
    test : (ds : List ℕ) → Digits base ds → (q : Bool) → ltb (digit_value c) base ≡ q → DigitsIn base (elim q [ true ↦ some (digit_value c ∷ ds) | false ↦ none ])
    test ds h true e = (ltb-true (digit_value c) base e, h)
    test ds h false e = tt

    by : (o : Option (List ℕ)) → DigitsIn base o → DigitsIn base (elim o [ none ↦ none | some ds ↦ elim (ltb (digit_value c) base) [ true ↦ some (digit_value c ∷ ds) | false ↦ none ] ])
    by none h = tt
    by (some ds) h = test ds h (ltb (digit_value c) base) refl

number-good : (base : ℕ) (kind : List ℕ → Atom) → ((ds : List ℕ) → Digits base ds → GoodAtom (kind ds)) → (o : Option (List ℕ)) → DigitsIn base o → GoodToken (number kind o)
number-good base kind h none k = good wrong tt
number-good base kind h (some []) k = good wrong tt
number-good base kind h (some (d ∷ ds)) k = good (single (kind (d ∷ ds))) (h (d ∷ ds) k)

hashed-good : (s : List ℕ) → GoodToken (hashed s)
hashed-good [] = good wrong tt
hashed-good (c ∷ s) =
    by-test (eqb c 120) (number-good 16 hexadecimal (λ ds h. h) (digits 16 s) (digits-good 16 s))
    (by-test (eqb c 98) (number-good 2 binary (λ ds h. h) (digits 2 s) (digits-good 2 s)) (good wrong tt))

word_good : (q : Bool) (w : List ℕ) → GoodToken (single (cond q (reserved w) (symbol w)))
word_good true w = good (single (reserved w)) tt
word_good false w = good (single (symbol w)) tt

token-good : (w : List ℕ) → GoodToken (token_of w)
unfolding token_of
token-good [] = good wrong tt
token-good (c ∷ s) =
    by-test (digit_char c) (by-test (leading_zero (c ∷ s)) (good wrong tt) (number-good 10 numeral (λ ds h. tt) (digits 10 (c ∷ s)) (digits-good 10 (c ∷ s))))
    (by-test (eqb c 35) (hashed-good s)
    (by-test (eqb c 58) (by-test (simple s) (good (single (keyword s)) tt) (good wrong tt))
    (by-test (simple (c ∷ s)) (word_good (listed reserved_words (c ∷ s)) (c ∷ s)) (good wrong tt))))

-- ---- texts

abbrev GoodTokens : List Token → Type 0
GoodTokens [] = Unit {0}
GoodTokens (t ∷ ts) = InToken t × GoodTokens ts

append-good : (ts us : List Token) → GoodTokens ts → GoodTokens us → GoodTokens (ts ++ us)
append-good [] us h k = k
append-good (t ∷ ts) us h k = (h.0, append-good ts us h.1 k)

ended-good : (w : List ℕ) (ts : List Token) → GoodTokens ts → GoodTokens (ended w ts)
ended-good [] ts h = h
ended-good (c ∷ w) ts h = ((token-good (c ∷ w)).inside, h)

outside-good : (w : List ℕ) (c : ℕ) (x : Class) → GoodTokens (outside_at w c x).0
outside-good w c in_word = tt
outside-good w c blank = ended-good w [] tt
outside-good w c left_paren = ended-good w (opening ∷ []) (tt, tt)
outside-good w c right_paren = ended-good w (closing ∷ []) (tt, tt)
outside-good w c semicolon = ended-good w [] tt
outside-good w c bar = ended-good w [] tt
outside-good w c no_token = (tt, tt)

record GoodMove (a : List Token × Mode) : Type 0 where
  told : GoodTokens a.0

by_move : (q : Bool) {a b : List Token × Mode} → GoodMove a → GoodMove b → GoodMove (cond q a b)
by_move true h k = h
by_move false h k = k

move : (ts : List Token) (m : Mode) → GoodTokens ts → GoodMove (ts, m)
move ts m h = record { told = h }

step-good : (m : Mode) (c : ℕ) → GoodMove (step m c)
unfolding step
step-good (outside w) c = record { told = outside-good w c (class_of c) }
step-good (in_quotes w) c =
    by_move (eqb c 124) (move (single (symbol w) ∷ []) (outside []) (tt, tt)) (by_move (quotable c) (move [] (in_quotes (w ++ (c ∷ []))) tt) (move (wrong ∷ []) (in_quotes w) (tt, tt)))
step-good in_comment c =
    by_move (line_break c) (move [] (outside []) tt) (by_move (character c) (move [] in_comment tt) (move (wrong ∷ []) in_comment (tt, tt)))

last-good : (m : Mode) → GoodTokens (last m)
last-good (outside w) = ended-good w [] tt
last-good (in_quotes w) = (tt, tt)
last-good in_comment = tt

tokens-good : (m : Mode) (s : List ℕ) → GoodTokens (tokens m s)
unfolding tokens
tokens-good m [] = last-good m
tokens-good m (c ∷ s) = append-good (step m c).0 (tokens (step m c).1 s) (step-good m c).told (tokens-good (step m c).1 s)

-- ---- s-expressions

snoc-good : (r x : Sexp) → Good r → Good x → Good (snoc r x)
snoc-good (atom a) x h k = (k, tt)
snoc-good nil x h k = (k, tt)
snoc-good (cons y r) x h k = (h.0, snoc-good r x h.1 k)

abbrev GoodIn : Option Sexp → Type 0
GoodIn none = Unit {0}
GoodIn (some s) = Good s

abbrev GoodSexps : List Sexp → Type 0
GoodSexps [] = Unit {0}
GoodSexps (s ∷ l) = Good s × GoodSexps l

parse-good : (around : List Sexp) (r : Sexp) (ts : List Token) → GoodSexps around → Good r → GoodTokens ts → GoodIn (parse around r ts)
unfolding parse
parse-good [] r [] i h k = h
parse-good (up ∷ around) r [] i h k = tt
parse-good around r (single a ∷ ts) i h k = parse-good around (snoc r (atom a)) ts i (snoc-good r (atom a) h k.0) k.1
parse-good around r (opening ∷ ts) i h k = parse-good (r ∷ around) nil ts (h, i) tt k.1
parse-good [] r (closing ∷ ts) i h k = tt
parse-good (up ∷ around) r (closing ∷ ts) i h k = parse-good around (snoc up r) ts i.1 (snoc-good up r i.0 h) k.1
parse-good around r (wrong ∷ ts) i h k = tt

pub read-good : (bytes : List ℕ) {s : Sexp} → sexps_of bytes ≡ some s → Good s
unfolding sexps_of
read-good bytes e = subst GoodIn e (parse-good [] nil (tokens (outside []) bytes) tt tt (tokens-good (outside []) bytes))
