-- S-expressions printed with single spaces are read back as they were, and so are lists of them with a line feed behind each. Assumes nothing.
use mathlib.Core.Path.{◌≡◌, refl, sym, ap, ◌∙◌}
use mathlib.Core.Bool.{true}
use mathlib.Core.List.{List, [], ◌∷◌, ◌++◌, append_assoc, append-nil}
use mathlib.Core.Option.{some}
use Prim.Native.Nat.{ℕ}
use native.Mathlib.Omega.{arith}
use Rattle.lists.specs.Ascii.{ascii}
use Rattle.smtlib.specs.Characters.{every, symbol_char, word_char, letter_char, digit_char, white_space, class_of}
use Rattle.smtlib.specs.Tokens.{Atom, Token, opening, closing, single, outside, token_of, step, tokens}
use Rattle.smtlib.specs.Sexps.{Sexp, atom, nil, cons, snoc, parse, sexps_of}
use Rattle.smtlib.specs.Spelling.{spelling, Spelled}
use Rattle.smtlib.proofs.Reading.{Ends, word_read}

-- ---- printing

abbrev mutual
  pub print : Sexp → List ℕ
  print (atom a) = spelling a
  print nil = ascii "()"
  print (cons x s) = 40 ∷ (print x ++ rest s)

  -- the rest of a list, behind one of its s-expressions
  pub rest : Sexp → List ℕ
  rest (atom a) = ascii ")"
  rest nil = ascii ")"
  rest (cons x s) = 32 ∷ (print x ++ rest s)

-- a line for each s-expression of a list
abbrev pub lines : Sexp → List ℕ
lines (atom a) = []
lines nil = []
lines (cons x s) = print x ++ 10 ∷ lines s

-- ---- what can be printed

-- every atom is so spelled, and every list ends in nil
abbrev mutual
  pub Printable : Sexp → Type 0
  Printable (atom a) = Spelled a
  Printable nil = Unit {0}
  Printable (cons x s) = Printable x × Listing s

  pub Listing : Sexp → Type 0
  Listing (atom a) = ⊥
  Listing nil = Unit {0}
  Listing (cons x s) = Printable x × Listing s

-- ---- its tokens

abbrev mutual
  told : Sexp → List Token → List Token
  told (atom a) ts = single a ∷ ts
  told nil ts = opening ∷ closing ∷ ts
  told (cons x s) ts = opening ∷ told x (told-rest s ts)

  told-rest : Sexp → List Token → List Token
  told-rest (atom a) ts = closing ∷ ts
  told-rest nil ts = closing ∷ ts
  told-rest (cons x s) ts = told x (told-rest s ts)

abbrev told-lines : Sexp → List Token
told-lines (atom a) = []
told-lines nil = []
told-lines (cons x s) = told x (told-lines s)

atom-read : (a : Atom) (w k : List ℕ) → every word_char w ≡ true → token_of w ≡ single a → Ends k → tokens (outside []) (w ++ k) ≡ single a ∷ tokens (outside []) k
unfolding token_of
atom-read a [] k h e n = absurd (let z : ◌≡◌ {A = ℕ} 0 1 = cc in omega arith)
atom-read a (c ∷ w) k h e n = word_read c w k h n ∙ ap (λ (t : Token). t ∷ tokens (outside []) k) e

rest-ends : (s : Sexp) (k : List ℕ) → Ends (rest s ++ k)
unfolding class_of letter_char digit_char symbol_char word_char white_space
rest-ends (atom a) k = tt
rest-ends nil k = tt
rest-ends (cons x s) k = tt

mutual
  unfolding tokens step class_of letter_char digit_char symbol_char word_char white_space

  print-read : (e : Sexp) → Printable e → (k : List ℕ) → Ends k → tokens (outside []) (print e ++ k) ≡ told e (tokens (outside []) k)
  print-read (atom a) h k n = atom-read a (spelling a) k h.word h.reads n
  print-read nil h k n = refl
  print-read (cons x s) h k n =
      ap (λ (ts : List Token). opening ∷ ts)
      (ap (tokens (outside [])) (append_assoc (print x) (rest s) k) ∙ print-read x h.0 (rest s ++ k) (rest-ends s k) ∙ ap (told x) (rest_read s h.1 k))

  rest_read : (s : Sexp) → Listing s → (k : List ℕ) → tokens (outside []) (rest s ++ k) ≡ told-rest s (tokens (outside []) k)
  rest_read (atom a) h k = absurd h
  rest_read nil h k = refl
  rest_read (cons x s) h k =
      ap (tokens (outside [])) (append_assoc (print x) (rest s) k) ∙ print-read x h.0 (rest s ++ k) (rest-ends s k) ∙ ap (told x) (rest_read s h.1 k)

lines-read : (s : Sexp) → Listing s → tokens (outside []) (lines s) ≡ told-lines s
unfolding tokens step class_of letter_char digit_char symbol_char word_char white_space
lines-read (atom a) h = absurd h
lines-read nil h = refl
lines-read (cons x s) h = print-read x h.0 (10 ∷ lines s) tt ∙ ap (told x) (lines-read s h.1)

-- ---- its parsing

-- a list behind another
abbrev linked : Sexp → Sexp → Sexp
linked (atom a) s = s
linked nil s = s
linked (cons x r) s = cons x (linked r s)

linked-snoc : (r x s : Sexp) → linked (snoc r x) s ≡ linked r (cons x s)
linked-snoc (atom a) x s = refl
linked-snoc nil x s = refl
linked-snoc (cons y r) x s = ap (cons y) (linked-snoc r x s)

snoc-linked : (r x : Sexp) → snoc r x ≡ linked r (cons x nil)
snoc-linked (atom a) x = refl
snoc-linked nil x = refl
snoc-linked (cons y r) x = ap (cons y) (snoc-linked r x)

mutual
  unfolding parse

  parse-told : (e : Sexp) → Printable e → (around : List Sexp) (r : Sexp) (ts : List Token) → parse around r (told e ts) ≡ parse around (snoc r e) ts
  parse-told (atom a) h around r ts = refl
  parse-told nil h around r ts = refl
  parse-told (cons x s) h around r ts = parse-told x h.0 (r ∷ around) nil (told-rest s ts) ∙ parse-rest s h.1 r around nil x ts

  parse-rest : (s : Sexp) → Listing s → (up : Sexp) (around : List Sexp) (r x : Sexp) (ts : List Token)
      → parse (up ∷ around) (snoc r x) (told-rest s ts) ≡ parse around (snoc up (linked r (cons x s))) ts
  parse-rest (atom a) h up around r x ts = absurd h
  parse-rest nil h up around r x ts = ap (λ (y : Sexp). parse around (snoc up y) ts) (snoc-linked r x)
  parse-rest (cons y s) h up around r x ts =
      parse-told y h.0 (up ∷ around) (snoc r x) (told-rest s ts) ∙ parse-rest s h.1 up around (snoc r x) y ts
      ∙ ap (λ (z : Sexp). parse around (snoc up z) ts) (linked-snoc r x (cons y s))

parse-lines : (s : Sexp) → Listing s → (r : Sexp) → linked r nil ≡ r → parse [] r (told-lines s) ≡ some (linked r s)
unfolding parse
parse-lines (atom a) h r e = absurd h
parse-lines nil h r e = ap some (sym e)
parse-lines (cons x s) h r e =
    parse-told x h.0 [] r (told-lines s)
    ∙ parse-lines s h.1 (snoc r x) (linked-snoc r x nil ∙ sym (snoc-linked r x))
    ∙ ap some (linked-snoc r x s)

-- ---- the round trip

pub print-sexp : (e : Sexp) → Printable e → sexps_of (print e) ≡ some (cons e nil)
unfolding sexps_of parse tokens
print-sexp e h =
    ap (λ (b : List ℕ). parse [] nil (tokens (outside []) b)) (sym (append-nil (print e)))
    ∙ ap (parse [] nil) (print-read e h [] tt)
    ∙ parse-told e h [] nil []

pub lines-sexps : (s : Sexp) → Listing s → sexps_of (lines s) ≡ some s
unfolding sexps_of
lines-sexps s h = ap (parse [] nil) (lines-read s h) ∙ parse-lines s h nil refl
