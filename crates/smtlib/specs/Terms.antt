-- Terms (SMT-LIB 2.6, section 3.6): the sorted value of an s-expression, where the declared symbols have values.
use Rattle.std.specs.Prelude.{ℕ, ◌+◌, ◌*◌, List, [], ◌∷◌, length}
use Rattle.std.proofs.Math.Option.{Option, none, some}
use Rattle.lists.specs.First.{and_then}
use Rattle.smtlib.specs.Tokens.{Atom, symbol, reserved, numeral, hexadecimal, binary, keyword}
use Rattle.smtlib.specs.Sexps.{Sexp, atom, nil, cons, symbol_in}
use Rattle.smtlib.specs.Values.{Value, bits, rejected}
use Rattle.smtlib.specs.Theory.{FunctionRow, applied, function}

-- the number of these digits to a base, behind those read so far
abbrev pub number_from : ℕ → ℕ → List ℕ → ℕ
number_from base n [] = n
number_from base n (d ∷ ds) = number_from base (n * base + d) ds

abbrev pub number_of : ℕ → List ℕ → ℕ
number_of base ds = number_from base 0 ds

-- a symbol's value: rejected where it is not declared
abbrev pub Environment : Type 0
Environment = List ℕ → Value

abbrev pub apply : FunctionRow → List Value → Value
apply r vs = applied r.signature r.meaning vs

-- a theory's function with no argument, or a declared symbol
abbrev pub symbol_value : Option FunctionRow → Value → Value
symbol_value none v = v
symbol_value (some r) v = apply r []

-- a hexadecimal digit is four bits
unfoldable pub atom_value : Environment → Atom → Value
atom_value env (symbol n) = symbol_value (function n) (env n)
atom_value env (reserved w) = rejected
atom_value env (numeral ds) = rejected
atom_value env (hexadecimal ds) = bits (4 * length ds) (number_of 16 ds)
atom_value env (binary ds) = bits (length ds) (number_of 2 ds)
atom_value env (keyword w) = rejected

-- an application has at least one argument
abbrev pub application : Option FunctionRow → List Value → Value
application none vs = rejected
application (some r) [] = rejected
application (some r) (v ∷ vs) = apply r (v ∷ vs)

unfoldable mutual
  pub value : Environment → Sexp → Value
  value env (atom a) = atom_value env a
  value env nil = rejected
  value env (cons f s) = application (and_then (symbol_in f) function) (values env s)

  pub values : Environment → Sexp → List Value
  values env (atom a) = rejected ∷ []
  values env nil = []
  values env (cons x s) = value env x ∷ values env s
