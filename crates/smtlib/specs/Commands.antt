-- Commands (SMT-LIB 2.6, section 3.9) but for set-logic, each read from its s-expression by one table of names.
use Rattle.std.specs.Prelude.{ℕ, Bool, true, false, ◌&&◌, List, [], ◌∷◌, eqb}
use Prim.Native.String.{String}
use Rattle.std.proofs.Math.Option.{Option, none, some}
use Rattle.lists.specs.Ascii.{ascii}
use Rattle.lists.specs.First.{and_then}
use Rattle.lists.specs.Names.{same_bytes, entry}
use Rattle.lists.specs.Few.{exactly0, exactly1, exactly2, exactly3}
use Rattle.smtlib.specs.Sexps.{Sexp, atom, nil, cons, symbol_in, reserved_in, numeral_in, keyword_in, items}
use Rattle.smtlib.specs.Values.{Sort, bool, bit_vec}
use Rattle.smtlib.specs.Terms.{number_of}

-- (declare-fun name () sort)
pub record Declaration : Type 0 where
  pub name : List ℕ
  pub sort : Sort

pub data Command : Type 0 where
  -- (set-option :produce-models b)
  produce_models : Bool → Command
  declare_fun : Declaration → Command
  assertion : Sexp → Command
  check_sat exit : Command
  -- of these terms, at least one
  get_value : List Sexp → Command
  -- no command, or one that is not read here
  unknown : Command

-- this very name
abbrev pub named : String → Option (List ℕ) → Bool
named t none = false
named t (some n) = same_bytes (ascii t) n

-- ---- sorts (section 3.5)

-- a width is at least 1
abbrev pub of_width : List ℕ → Option Sort
of_width ds = elim (eqb (number_of 10 ds) 0) [ true ↦ none | false ↦ some (bit_vec (number_of 10 ds)) ]

abbrev pub indexed_sort : Sexp → Sexp → Sexp → Option Sort
indexed_sort u b n = elim (named "_" (reserved_in u) && named "BitVec" (symbol_in b)) [ true ↦ and_then (numeral_in n) of_width | false ↦ none ]

-- Bool, or (_ BitVec m)
unfoldable pub sort_in : Sexp → Option Sort
sort_in e = elim (named "Bool" (symbol_in e)) [ true ↦ some bool | false ↦ exactly3 none indexed_sort (items e) ]

-- ---- the table

-- the command of what was read
abbrev pub known : {A : Type 0} → (A → Command) → Option A → Command
known make none = unknown
known make (some x) = make x

-- an option's truth value
abbrev pub flag_in : Sexp → Option Bool
flag_in v = and_then (symbol_in v) (entry ((ascii "true", true) ∷ (ascii "false", false) ∷ []))

-- of the options, :produce-models alone is read here
abbrev pub option : Sexp → Sexp → Command
option k v = elim (named "produce-models" (keyword_in k)) [ true ↦ known produce_models (flag_in v) | false ↦ unknown ]

abbrev pub declaring : Sexp → Sexp → Sexp → Command
declaring n p s = exactly0 unknown (known declare_fun (and_then (symbol_in n) (λ m. and_then (sort_in s) (λ t. some (record { name = m; sort = t }))))) (items p)

-- a list of at least one term
abbrev pub valued : Sexp → Command
valued (atom a) = unknown
valued nil = unknown
valued (cons t ts) = get_value (t ∷ items ts)

unfoldable pub commands : List (List ℕ × (List Sexp → Command))
commands =
    (ascii "set-option", exactly2 unknown option)
    ∷ (ascii "declare-fun", exactly3 unknown declaring)
    ∷ (ascii "assert", exactly1 unknown assertion)
    ∷ (ascii "check-sat", exactly0 unknown check_sat)
    ∷ (ascii "get-value", exactly1 unknown valued)
    ∷ (ascii "exit", exactly0 unknown exit)
    ∷ []

unfoldable pub command_of : Sexp → Command
command_of (atom a) = unknown
command_of nil = unknown
command_of (cons x s) = elim (and_then (reserved_in x) (entry commands)) [ none ↦ unknown | some f ↦ f (items s) ]
