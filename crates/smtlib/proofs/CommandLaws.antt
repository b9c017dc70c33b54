-- A script, command by command. Assumes nothing.
use mathlib.Core.Path.{◌≡◌, refl}
use mathlib.Core.Bool.{Bool, true, false, ◌||◌}
use mathlib.Core.List.{List, [], ◌∷◌, ◌++◌}
use mathlib.Core.Option.{some}
use Prim.Native.Nat.{ℕ, ◌≤◌}
use native.Mathlib.Omega.{arith}
use borrow.Author.Tests.{ne_eqb}
use Rattle.lists.specs.Ascii.{ascii}
use Rattle.lists.specs.Names.{same_bytes}
use Rattle.smtlib.specs.Tokens.{symbol, reserved, numeral, keyword}
use Rattle.smtlib.specs.Sexps.{Sexp, atom, nil, cons, items}
use Rattle.smtlib.specs.Values.{Sort, bool, bit_vec}
use Rattle.smtlib.specs.Theory.{theory_name}
use Rattle.smtlib.specs.Terms.{number_of}
use Rattle.smtlib.specs.Commands.{Declaration, produce_models, declare_fun, assertion, check_sat, exit, get_value, of_width, sort_in, commands, command_of}
use Rattle.smtlib.specs.Scripts.{solver_name, is_declared, declarable, term_sort, formula, well_sorted, gather, sets_logic, start, script_in}

-- ---- each command, from its s-expression

abbrev pub word : List ℕ → Sexp
word w = atom (reserved w)

-- (set-option :produce-models true)
abbrev pub models_option : Sexp
models_option = cons (word (ascii "set-option")) (cons (atom (keyword (ascii "produce-models"))) (cons (atom (symbol (ascii "true"))) nil))

pub option-read : command_of models_option ≡ produce_models true
unfolding same_bytes command_of commands
option-read = refl

pub declare-read : (n : List ℕ) (t : Sexp) {s : Sort} → sort_in t ≡ some s
    → command_of (cons (word (ascii "declare-fun")) (cons (atom (symbol n)) (cons nil (cons t nil)))) ≡ declare_fun (record { name = n; sort = s })
unfolding same_bytes command_of commands
declare-read n t e = rw e

pub assert-read : (t : Sexp) → command_of (cons (word (ascii "assert")) (cons t nil)) ≡ assertion t
unfolding same_bytes command_of commands
assert-read t = refl

pub check-read : command_of (cons (word (ascii "check-sat")) nil) ≡ check_sat
unfolding same_bytes command_of commands
check-read = refl

-- (get-value (t ..)), ts being the terms behind the first
pub values-read : (t ts : Sexp) → command_of (cons (word (ascii "get-value")) (cons (cons t ts) nil)) ≡ get_value (t ∷ items ts)
unfolding same_bytes command_of commands
values-read t ts = refl

pub exit_read : command_of (cons (word (ascii "exit")) nil) ≡ exit
unfolding same_bytes command_of commands
exit_read = refl

-- Bool, and (_ BitVec m)
pub bool-read : sort_in (atom (symbol (ascii "Bool"))) ≡ some bool
unfolding same_bytes sort_in
bool-read = refl

pub vector-read : (ds : List ℕ) → 1 ≤ number_of 10 ds → sort_in (cons (word (ascii "_")) (cons (atom (symbol (ascii "BitVec"))) (cons (atom (numeral ds)) nil))) ≡ some (bit_vec (number_of 10 ds))
unfolding same_bytes sort_in
vector-read ds h = rw (ne_eqb (number_of 10 ds) 0 (λ e. omega arith), of_width)

-- ---- their order

-- options come first, and turn models on or off
pub option-next : (models : Bool) (c s : Sexp) {b : Bool} → sets_logic c ≡ false → command_of c ≡ produce_models b → start models (cons c s) ≡ start b s
unfolding start
option-next models c s e f = rw (e, f, start)

-- then set-logic
pub logic-next : (models : Bool) (c s : Sexp) → sets_logic c ≡ true → start models (cons c s) ≡ gather models [] [] false false s
unfolding start
logic-next models c s e = rw (e, start)

-- a script that starts with set-logic
pub begins : (c s : Sexp) → sets_logic c ≡ true → script_in (cons c s) ≡ gather false [] [] false false s
unfolding script_in
begins c s e = logic-next false c s e

-- and one that turns models on before
pub models-on : (s : Sexp) → script_in (cons models_option s) ≡ start true s
unfolding same_bytes sets_logic script_in
models-on s = option-next false models_option s refl option-read

module _ (models : Bool) (ds : List Declaration) (es : List Sexp) (asked sat_mode : Bool) (c s : Sexp) where
  pub declares-next : {d : Declaration} → command_of c ≡ declare_fun d → declarable ds d.name ≡ true → gather models ds es asked sat_mode (cons c s) ≡ gather models (ds ++ (d ∷ [])) es asked false s
  unfolding gather
  declares-next e f = rw (e, gather, f)

  pub asserts-next : {t : Sexp} → command_of c ≡ assertion t → formula ds t ≡ true → gather models ds es asked sat_mode (cons c s) ≡ gather models ds (es ++ (t ∷ [])) false false s
  unfolding gather
  asserts-next e f = rw (e, gather, f)

  pub asks-next : command_of c ≡ check_sat → gather models ds es asked sat_mode (cons c s) ≡ gather models ds es true true s
  unfolding gather
  asks-next e = rw (e, gather)

-- get-value stands behind check-sat where models are on
pub values-next : (ds : List Declaration) (es : List Sexp) (asked : Bool) (c s : Sexp) {ts : List Sexp} → command_of c ≡ get_value ts → well_sorted ds ts ≡ true → gather true ds es asked true (cons c s) ≡ gather true ds es asked true s
unfolding gather
values-next ds es asked c s e f = rw (e, gather, f)

-- exit comes last, behind check-sat
pub exits : (models : Bool) (ds : List Declaration) (es : List Sexp) (sat_mode : Bool) (c : Sexp) → command_of c ≡ exit → gather models ds es true sat_mode (cons c nil) ≡ some (record { declares = ds; asserts = es })
unfolding gather
exits models ds es sat_mode c e = rw (e, gather)

-- ---- lists of terms, one by one
pub sorted-next : (ds : List Declaration) (e : Sexp) (es : List Sexp) {k : Sort} → term_sort ds e ≡ some k → well_sorted ds es ≡ true → well_sorted ds (e ∷ es) ≡ true
unfolding well_sorted
sorted-next ds e es h f = rw (h, f)

-- ---- declarable names

pub declared-append : (ds es : List Declaration) (n : List ℕ) → is_declared (ds ++ es) n ≡ (is_declared ds n || is_declared es n)
declared-append [] es n = refl
declared-append (d ∷ ds) es n = by (same_bytes d.name n) (declared-append ds es n)
  where
    by : (q : Bool) → is_declared (ds ++ es) n ≡ (is_declared ds n || is_declared es n) → (q || is_declared (ds ++ es) n) ≡ (q || is_declared ds n || is_declared es n)
    by true e = refl
    by false e = e

pub fresh-name : (ds : List Declaration) (n : List ℕ) → theory_name n ≡ false → solver_name n ≡ false → is_declared ds n ≡ false → declarable ds n ≡ true
unfolding declarable
fresh-name ds n t u d = rw (t, u, d)
