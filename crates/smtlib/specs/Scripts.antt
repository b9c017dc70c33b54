-- Scripts (SMT-LIB 2.6, chapter 4): what a list of commands declares and asserts, or none where it is rejected.
use Rattle.std.specs.Prelude.{ℕ, Bool, true, false, not, ◌&&◌, ◌||◌, List, [], ◌∷◌, ◌++◌}
use Rattle.std.proofs.Math.Option.{Option, none, some}
use Rattle.lists.specs.Ascii.{ascii}
use Rattle.lists.specs.Names.{same_bytes}
use Rattle.lists.specs.Few.{exactly0, exactly2}
use Rattle.smtlib.specs.Characters.{one_of}
use Rattle.smtlib.specs.Sexps.{Sexp, atom, nil, cons, symbol_in, reserved_in, items}
use Rattle.smtlib.specs.Values.{Sort, bool, bit_vec, sort_of}
use Rattle.smtlib.specs.Theory.{theory_name}
use Rattle.smtlib.specs.Terms.{value}
use Rattle.smtlib.specs.Commands.{Declaration, produce_models, declare_fun, assertion, check_sat, exit, get_value, unknown, named, command_of}
use Rattle.smtlib.specs.Settings.{environment, zeros}

pub record Script : Type 0 where
  pub declares : List Declaration
  pub asserts : List Sexp

-- ---- a declaration: the name is none of a theory's, none that is left to solvers, and not declared yet

-- solvers keep the names that begin with @ or a dot
abbrev pub solver_name : List ℕ → Bool
solver_name [] = false
solver_name (c ∷ n) = one_of (ascii "@.") c

abbrev pub is_declared : List Declaration → List ℕ → Bool
is_declared [] n = false
is_declared (d ∷ ds) n = same_bytes d.name n || is_declared ds n

unfoldable pub declarable : List Declaration → List ℕ → Bool
declarable ds n = not (theory_name n || (solver_name n || is_declared ds n))

-- ---- a term: each of its symbols is declared, and it has a sort

-- a term's sort is the same in every setting (proofs/SortLaws), so it is looked for in one
abbrev pub term_sort : List Declaration → Sexp → Option Sort
term_sort ds e = sort_of (value (environment ds (zeros ds)) e)

-- an assertion's sort is Bool
abbrev pub is_bool : Option Sort → Bool
is_bool none = false
is_bool (some bool) = true
is_bool (some (bit_vec m)) = false

unfoldable pub formula : List Declaration → Sexp → Bool
formula ds e = is_bool (term_sort ds e)

-- get-value's terms have any sorts
abbrev pub has_sort : Option Sort → Bool
has_sort none = false
has_sort (some s) = true

unfoldable pub well_sorted : List Declaration → List Sexp → Bool
well_sorted ds [] = true
well_sorted ds (e ∷ es) = has_sort (term_sort ds e) && well_sorted ds es

-- ---- the order of commands

-- SMT-LIB asks for less; here a script is one question: a check-sat stands behind every assertion, and exit is the last command

-- the commands behind set-logic, with what is declared and asserted so far; models: :produce-models is true; asked: check-sat stands behind all that is asserted
-- sat_mode: nothing but get-value stands behind check-sat, whatever its answer, which is no part of the text
-- a declaration leads back to assert mode (figure 4.1), though z3 and cvc5 give values there too
unfoldable pub gather : Bool → List Declaration → List Sexp → Bool → Bool → Sexp → Option Script
gather models ds es asked sat_mode (atom a) = none
gather models ds es asked sat_mode nil = none
gather models ds es asked sat_mode (cons c s) = elim (command_of c) [
  | produce_models b ↦ none
  | declare_fun d ↦ elim (declarable ds d.name) [ true ↦ gather models (ds ++ (d ∷ [])) es asked false s | false ↦ none ]
  | assertion e ↦ elim (formula ds e) [ true ↦ gather models ds (es ++ (e ∷ [])) false false s | false ↦ none ]
  | check_sat ↦ gather models ds es true true s
  | get_value ts ↦ elim (models && (sat_mode && well_sorted ds ts)) [ true ↦ gather models ds es asked sat_mode s | false ↦ none ]
  | exit ↦ elim asked [ true ↦ exactly0 none (some (record { declares = ds; asserts = es })) (items s) | false ↦ none ]
  | unknown ↦ none
]

-- (set-logic L), for the logics that are read here
unfoldable pub sets_logic : Sexp → Bool
sets_logic c = exactly2 false (λ w l. named "set-logic" (reserved_in w) && (named "QF_BV" (symbol_in l) || named "QF_UFBV" (symbol_in l))) (items c)

-- start mode, in which alone :produce-models can be set (section 4.1.7): options, of which the last one counts, up to set-logic
unfoldable pub start : Bool → Sexp → Option Script
start models (atom a) = none
start models nil = none
start models (cons c s) = elim (sets_logic c) [
  | true ↦ gather models [] [] false false s
  | false ↦ elim (command_of c) [
    | produce_models b ↦ start b s
    | declare_fun d ↦ none
    | assertion e ↦ none
    | check_sat ↦ none
    | get_value ts ↦ none
    | exit ↦ none
    | unknown ↦ none
  ]
]

-- :produce-models is false where it isn't set
unfoldable pub script_in : Sexp → Option Script
script_in s = start false s
