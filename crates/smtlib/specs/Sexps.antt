-- S-expressions (SMT-LIB 2.6, section 3.2), and a text as a list of them.
use Rattle.std.specs.Prelude.{List, [], ◌∷◌, ℕ}
use Rattle.std.proofs.Math.Option.{Option, none, some}
use Rattle.smtlib.specs.Tokens.{Atom, symbol, reserved, numeral, hexadecimal, binary, keyword, Token, opening, closing, single, wrong, outside, tokens}

-- an atom, or a list, given as a chain that ends in nil
pub data Sexp : Type 0 where
  atom : Atom → Sexp
  nil : Sexp
  cons : Sexp → Sexp → Sexp

-- a list with one more at its end
abbrev pub snoc : Sexp → Sexp → Sexp
snoc (atom a) x = cons x nil
snoc nil x = cons x nil
snoc (cons y s) x = cons y (snoc s x)

-- the list of the s-expressions of these tokens, behind what has been read of it and of the lists around it, the inmost first
unfoldable pub parse : List Sexp → Sexp → List Token → Option Sexp
parse [] read [] = some read
parse (up ∷ around) read [] = none
parse around read (single a ∷ ts) = parse around (snoc read (atom a)) ts
parse around read (opening ∷ ts) = parse (read ∷ around) nil ts
parse [] read (closing ∷ ts) = none
parse (up ∷ around) read (closing ∷ ts) = parse around (snoc up read) ts
parse around read (wrong ∷ ts) = none

-- a text's s-expressions, as a list; none where a byte fits no token or the parentheses don't match
unfoldable pub sexps_of : List ℕ → Option Sexp
sexps_of bytes = parse [] nil (tokens (outside []) bytes)

-- ---- what an s-expression is

-- what s, r, n or k makes of a symbol, a reserved word, a numeral or a keyword; d of anything else
abbrev pub by_kind : {A : Type 0} → A → (List ℕ → A) → (List ℕ → A) → (List ℕ → A) → (List ℕ → A) → Sexp → A
by_kind d s r n k (atom (symbol w)) = s w
by_kind d s r n k (atom (reserved w)) = r w
by_kind d s r n k (atom (numeral ds)) = n ds
by_kind d s r n k (atom (hexadecimal ds)) = d
by_kind d s r n k (atom (binary ds)) = d
by_kind d s r n k (atom (keyword w)) = k w
by_kind d s r n k nil = d
by_kind d s r n k (cons x e) = d

abbrev pub symbol_in : Sexp → Option (List ℕ)
symbol_in e = by_kind none some (λ w. none) (λ ds. none) (λ w. none) e

abbrev pub reserved_in : Sexp → Option (List ℕ)
reserved_in e = by_kind none (λ w. none) some (λ ds. none) (λ w. none) e

abbrev pub numeral_in : Sexp → Option (List ℕ)
numeral_in e = by_kind none (λ w. none) (λ w. none) some (λ w. none) e

abbrev pub keyword_in : Sexp → Option (List ℕ)
keyword_in e = by_kind none (λ w. none) (λ w. none) (λ ds. none) some e

-- what a list has; an atom is taken for a list of itself, so that it is never the empty one
abbrev pub items : Sexp → List Sexp
items (atom a) = atom a ∷ []
items nil = []
items (cons x s) = x ∷ items s
