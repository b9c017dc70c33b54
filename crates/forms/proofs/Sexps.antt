-- The s-expressions that the script's text spells: of a tree, of a line, and of the whole; and the script that SMT-LIB is to read.
use Prim.Native.Nat.{ℕ, suc}
use mathlib.Core.Bool.{true, false}
use mathlib.Core.List.{List, [], ◌∷◌, map}
use lib.IntN.{ℤ}
use Rattle.lists.specs.Ascii.{ascii}
use Rattle.meaning.specs.declared.Sort.{Sort}
use Rattle.meaning.specs.declared.Sort.TheVariants.{Truth}
use Rattle.meaning.specs.Tree.{Tree}
use Rattle.meaning.specs.Rule.{Variable, Rule}
use Rattle.kinds.specs.declared.Kind.{Kind}
use Rattle.kinds.specs.declared.Shape.{Shape}
use Rattle.kinds.specs.declared.Shape.TheVariants.{Wrong, Bare, Valued, Named, One, Two, Three}
use Rattle.kinds.specs.Kinds.{row}
use Rattle.layout.specs.Fold.{Found, of_tree}
use Rattle.smtlib.specs.Tokens.{Atom, symbol, numeral}
use Rattle.smtlib.specs.Sexps.{Sexp, atom, nil, cons}
use Rattle.smtlib.specs.Values.{bit_vec}
use Rattle.smtlib.specs.Commands.{Declaration}
use Rattle.smtlib.specs.Scripts.{Script}
use Rattle.smtlib.proofs.TermLaws.{call1, call2, call3}
use Rattle.smtlib.proofs.CommandLaws.{word, models_option}
use Rattle.wording.specs.Words.{word_of}
use Rattle.wording.specs.Form.{Form}
use Rattle.wording.specs.Script.{claims}
use Rattle.forms.specs.Readable.{Readable}
use Rattle.forms.proofs.Decimals.{decimal_digits}

-- ---- a tree, given the atoms of constants and the names of variables
module _ (constant : ℤ → Atom) (name : ℕ → List ℕ) where
  abbrev pub sexp_by : (h : Shape) → List ℕ → Found Sexp h → Sexp
  sexp_by Wrong w x = nil
  sexp_by Bare w x = atom (symbol w)
  sexp_by Valued w x = atom (constant x)
  sexp_by Named w x = atom (symbol (name x))
  sexp_by (One s) w x = call1 w x
  sexp_by (Two s t) w x = call2 w x.0 x.1
  sexp_by (Three s t u) w x = call3 w x.0 x.1 x.2

  abbrev pub sexp_step : (k : Kind) → Found Sexp (row k).shape → Sexp
  sexp_step k x = sexp_by (row k).shape (word_of k) x

  abbrev pub sexp : {s : Sort} → Tree s → Sexp
  sexp t = of_tree sexp_step t

-- ---- the commands, in a form that can be read
module _ {f : Form} {m : ℕ} (form : Readable f m) where
  -- a tree, and a variable by its number
  abbrev pub term : {s : Sort} → Tree s → Sexp
  term t = sexp form.constant f.symbol t

  abbrev pub variable_sexp : ℕ → Sexp
  variable_sexp i = atom (symbol (f.symbol i))

  -- (declare-fun NAME () (_ BitVec WIDTH))
  abbrev pub declare_sexp : ℕ → Sexp
  declare_sexp i = cons (word (ascii "declare-fun")) (cons (variable_sexp i) (cons nil (cons (cons (word (ascii "_")) (cons (atom (symbol (ascii "BitVec"))) (cons (atom (numeral (decimal_digits f.width))) nil))) nil)))

  abbrev pub declare_chain : ℕ → List Variable → Sexp → Sexp
  declare_chain i [] s = s
  declare_chain i (v ∷ vs) s = cons (declare_sexp i) (declare_chain (suc i) vs s)

  abbrev pub assert_chain : List (Tree Truth) → Sexp → Sexp
  assert_chain [] s = s
  assert_chain (t ∷ ts) s = cons (cons (word (ascii "assert")) (cons (term t) nil)) (assert_chain ts s)

  -- (NAME NAME ..), from number i on
  abbrev pub names_chain : ℕ → List Variable → Sexp
  names_chain i [] = nil
  names_chain i (v ∷ vs) = cons (variable_sexp i) (names_chain (suc i) vs)

  -- (get-value (NAME NAME ..)), where there are variables
  abbrev pub values_chain : List Variable → Sexp → Sexp
  values_chain [] s = s
  values_chain (v ∷ vs) s = cons (cons (word (ascii "get-value")) (cons (names_chain 0 (v ∷ vs)) nil)) s

  -- what stands before s only where there are models
  abbrev pub models_chain : (Sexp → Sexp) → Sexp → Sexp
  models_chain before s = elim f.models [ true ↦ before s | false ↦ s ]

  -- behind the assertions
  abbrev pub end_chain : List Variable → Sexp
  end_chain vs = cons (cons (word (ascii "check-sat")) nil) (models_chain (values_chain vs) (cons (cons (word (ascii "exit")) nil) nil))

  -- from set-logic on
  abbrev pub logic_chain : Rule → Sexp
  logic_chain r =
      cons (cons (word (ascii "set-logic")) (cons (atom (symbol (ascii "QF_UFBV"))) nil))
      (declare_chain 0 r.variables (assert_chain (claims 0 r.variables r.goal) (end_chain r.variables)))

  abbrev pub chain_of : Rule → Sexp
  chain_of r = models_chain (cons models_option) (logic_chain r)

  -- ---- what SMT-LIB is to read: a symbol for each variable, and the claims
  abbrev pub declared_at : ℕ → Declaration
  declared_at i = record { name = f.symbol i; sort = bit_vec f.width }

  abbrev pub declares : ℕ → List Variable → List Declaration
  declares i [] = []
  declares i (v ∷ vs) = declared_at i ∷ declares (suc i) vs

  abbrev pub asked : Rule → Script
  asked r = record { declares = declares 0 r.variables; asserts = map (λ (t : Tree Truth). term t) (claims 0 r.variables r.goal) }
