-- SMT-LIB accepts the script of a well-formed rule, as its declarations, its ranges and its negated goal. Assumes nothing.
use Prim.Native.Nat.{ℕ, zero, suc, ◌+◌, ◌≤◌, ◌<◌}
use mathlib.Core.Path.{◌≡◌, refl, ap, ◌∙◌}
use mathlib.Core.Bool.{Bool, true, false}
use mathlib.Core.List.{List, [], ◌∷◌, ◌++◌, map, append_assoc, append-nil}
use mathlib.Core.Option.{none, some}
use native.Mathlib.Omega.{arith}
use lib.IntN.{ℤ}
use lib.ListN.{length, get_or}
use Rattle.lists.specs.Ascii.{ascii}
use Rattle.lists.specs.Names.{same_bytes}
use Rattle.lists.proofs.Decided.{denied}
use Rattle.lists.proofs.NameLaws.{same-decided}
use Rattle.numbers.specs.declared.Range.{Range}
use Rattle.meaning.specs.declared.Sort.{Sort}
use Rattle.meaning.specs.declared.Sort.TheVariants.{Truth, Integer}
use Rattle.meaning.specs.Tree.{Tree, neg}
use Rattle.meaning.specs.Rule.{Variable, Rule, no_variable, domain_of}
use Rattle.kinds.specs.declared.Kind.{Kind}
use Rattle.kinds.specs.declared.Shape.{Shape}
use Rattle.kinds.specs.declared.Shape.TheVariants.{Wrong, Bare, Valued, Named, One, Two, Three}
use Rattle.kinds.specs.Kinds.{Args, row}
use Rattle.kinds.specs.Rows.{make, Known}
use Rattle.kinds.proofs.RowLaws.{Each, by_rows}
use Rattle.kinds.proofs.ClaimLaws.{Throughout}
use Rattle.layout.specs.Fold.{Found, of_tree}
use Rattle.layout.specs.WellFormed.{Fine, WellFormed}
use Rattle.layout.proofs.Made.{FineMade, found_made, fine-parts, throughout-fine, fine-throughout, found-make}
use Rattle.smtlib.specs.Tokens.{Atom, symbol}
use Rattle.smtlib.specs.Sexps.{Sexp, atom, cons, items}
use Rattle.smtlib.specs.Values.{Sort as SmtSort, bool, bit_vec, Val, bits, sorted, sort_of}
use Rattle.smtlib.specs.Theory.{functions, function}
use Rattle.smtlib.specs.Terms.{Environment, value}
use Rattle.smtlib.specs.Commands.{Declaration, declare_fun, command_of}
use Rattle.smtlib.specs.Settings.{environment, zeros}
use Rattle.smtlib.specs.Scripts.{is_declared, formula, well_sorted, gather, sets_logic, start, script_in}
use Rattle.smtlib.proofs.NameLaws.{no-function, stands_here, stands-later}
use Rattle.smtlib.proofs.TermLaws.{call1, call2, value-symbol, value-constant, value-truths1, value-vectors1, value-left, value-right, value-relation, value-vectors2, value-order, value-choice}
use Rattle.smtlib.proofs.CommandLaws.{models_option, declare-read, assert-read, check-read, values-read, exit_read, vector-read, logic-next, models-on, declares-next, asserts-next, asks-next, values-next, exits, sorted-next, declared-append, fresh-name}
use Rattle.wording.specs.Form.{Form}
use Rattle.wording.specs.Script.{in_domain, claims}
use Rattle.forms.specs.Readable.{Readable}
use Rattle.forms.proofs.Decimals.{decimal_digits, decimal-number}
use Rattle.forms.proofs.Sexps.{sexp_by, sexp_step, sexp, term, variable_sexp, declare_sexp, declare_chain, assert_chain, names_chain, values_chain, models_chain, logic_chain, chain_of, declared_at, declares, asked}

-- ---- what holds of each claim
abbrev pub Every : (Tree Truth → Type 0) → List (Tree Truth) → Type 0
Every P [] = Unit {0}
Every P (t ∷ ts) = P t × Every P ts

pub claims-every : (P : Tree Truth → Type 0) (r : Rule) → ((i : ℕ) → i < length r.variables → P (in_domain i (domain_of r i))) → P (neg r.goal) → Every P (claims 0 r.variables r.goal)
claims-every P r ranges goal = from 0 r.variables (λ j n l e. let d : n ≡ j = omega arith in rw d (ranges j l))
  where
    from : (i : ℕ) (vs : List Variable) → ((j n : ℕ) → j < length vs → n ≡ i + j → P (in_domain n (get_or vs j no_variable).domain)) → Every P (claims i vs r.goal)
    from i [] e = (goal, tt)
    from i (v ∷ vs) e = (e 0 i (omega arith) (omega arith), from (suc i) vs (λ j n l q. e (suc j) n (omega arith) (omega arith)))

-- each is as fine as the rule
claims-fine : (r : Rule) → WellFormed r → Every (Fine (length r.variables)) (claims 0 r.variables r.goal)
unfolding Throughout by_rows of_tree
claims-fine r f = claims-every (Fine (length r.variables)) r range (throughout-fine _ _ (tt, fine-throughout _ r.goal f.goal))
  where
    range : (i : ℕ) → i < length r.variables → Fine (length r.variables) (in_domain i (domain_of r i))
    range i b =
        let n = (f.variables i b).ends in
        throughout-fine _ _ (tt, ((tt, ((n.low, tt), (b, tt))), (tt, ((b, tt), (n.high, tt)))))

-- ---- a term's sort

-- Bool for a truth value, and bit vectors of one width for integers
abbrev pub sort_for : ℕ → Sort → SmtSort
sort_for w Truth = bool
sort_for w Integer = bit_vec w

-- the term is accepted, and has this sort
pub record Has (env : Environment) (s : SmtSort) (e : Sexp) : Type 0 where
  pub known : Val s
  pub is : value env e ≡ sorted s known

module _ (constant : ℤ → Atom) (name : ℕ → List ℕ) (w v : ℕ) (env : Environment)
    (constants : (z : ℤ) → Has env (bit_vec w) (atom (constant z))) (symbols : (i : ℕ) → i < v → Has env (bit_vec w) (atom (symbol (name i)))) where
  abbrev Operands : (h : Shape) → Found Sexp h → Type 0
  Operands Wrong x = ⊥
  Operands Bare x = Unit {0}
  Operands Valued x = Unit {0}
  Operands Named x = x < v
  Operands (One s) x = Has env (sort_for w s) x
  Operands (Two s t) x = Has env (sort_for w s) x.0 × Has env (sort_for w t) x.1
  Operands (Three s t u) x = Has env (sort_for w s) x.0 × Has env (sort_for w t) x.1 × Has env (sort_for w u) x.2

  -- each word's function takes and gives what the kind's row says
  kind-sorted : (k : Kind) (x : Found Sexp (row k).shape) → Operands (row k).shape x → Has env (sort_for w (row k).gives) (sexp_step constant name k x)
  unfolding same_bytes function functions
  kind-sorted Kind.Unknown x h = absurd h
  kind-sorted Kind.True x h = record { known = _; is = value-constant env _ refl }
  kind-sorted Kind.False x h = record { known = _; is = value-constant env _ refl }
  kind-sorted Kind.Not x h = record { known = _; is = value-truths1 env _ refl x h.is }
  kind-sorted Kind.And x h = record { known = _; is = value-left env _ _ _ refl h.0.is h.1.is }
  kind-sorted Kind.Or x h = record { known = _; is = value-left env _ _ _ refl h.0.is h.1.is }
  kind-sorted Kind.Implies x h = record { known = _; is = value-right env _ _ _ refl h.0.is h.1.is }
  kind-sorted Kind.Iff x h = record { known = _; is = value-relation env _ _ _ refl bool _ _ h.0.is h.1.is }
  kind-sorted Kind.Equal x h = record { known = _; is = value-relation env _ _ _ refl (bit_vec w) _ _ h.0.is h.1.is }
  kind-sorted Kind.Less x h = record { known = _; is = value-order env _ _ _ refl h.0.is h.1.is }
  kind-sorted Kind.AtMost x h = record { known = _; is = value-order env _ _ _ refl h.0.is h.1.is }
  kind-sorted Kind.Constant x h = constants x
  kind-sorted Kind.Variable x h = symbols x h
  kind-sorted Kind.Minus x h = record { known = _; is = value-vectors1 env _ refl x h.is }
  kind-sorted Kind.Sum x h = record { known = _; is = value-vectors2 env _ _ _ _ refl h.0.is h.1.is }
  kind-sorted Kind.Difference x h = record { known = _; is = value-vectors2 env _ _ _ _ refl h.0.is h.1.is }
  kind-sorted Kind.Product x h = record { known = _; is = value-vectors2 env _ _ _ _ refl h.0.is h.1.is }
  kind-sorted Kind.If x h = record { known = _; is = value-choice env _ _ _ refl _ (bit_vec w) _ _ h.0.is h.1.is h.2.is }

  abbrev SortedTree : (s : Sort) → Tree s → Type 0
  SortedTree s t = Fine v t → Has env (sort_for w s) (sexp constant name t)

  operands : (h : Shape) (x : Args h) → Known h → Each SortedTree h x → FineMade v h x → Operands h (found_made (sexp_step constant name) h x)
  operands Wrong x q e f = q
  operands Bare x q e f = tt
  operands Valued x q e f = tt
  operands Named x q e f = f
  operands (One s) x q e f = e f
  operands (Two s t) x q e f = (e.0 f.0, e.1 f.1)
  operands (Three s t u) x q e f = (e.0 f.0, e.1 f.1, e.2 f.2)

  pub tree-sorted : {s : Sort} (t : Tree s) → Fine v t → Has env (sort_for w s) (sexp constant name t)
  tree-sorted t f = by_rows SortedTree step t f
    where
      step : (k : Kind) → Known (row k).shape → (x : Args (row k).shape) → Each SortedTree (row k).shape x → SortedTree (row k).gives (make k x)
      step k q x e f = rw (found-make k q x (sexp_step constant name)) (kind-sorted k _ (operands (row k).shape x q e (fine-parts v k x f)))

-- ---- the script's commands, for up to m variables
module _ {f : Form} {m : ℕ} (form : Readable f m) where
  -- a name names no function
  pub free : (i : ℕ) → function (f.symbol i) ≡ none
  free i = no-function (f.symbol i) (form.texts.theory i)

  -- no earlier variable has a variable's name
  pub apart : {i j : ℕ} → i < j → j < m → same_bytes (f.symbol i) (f.symbol j) ≡ false
  apart {i} {j} l h = (denied (same-decided (f.symbol i) (f.symbol j))).1 (λ e. let d : i ≡ j = form.texts.distinct i j (omega arith) h e in omega arith)

  stands_from : (i : ℕ) (vs : List Variable) (s : List ℕ) (j k : ℕ) → k ≡ i + j → i + length vs ≤ m → length s ≡ length vs → j < length vs
      → environment (declares form i vs) s (f.symbol k) ≡ bits f.width (get_or s j 0)
  stands_from i [] s j k e b l h = absurd (omega arith)
  stands_from i (v ∷ vs) [] j k e b l h = absurd (omega arith)
  stands_from i (v ∷ vs) (n ∷ s) zero k e b l h =
      let d : k ≡ i = omega arith in
      stands_here (declared_at form i) (declares form (suc i) vs) n s (f.symbol k) (rw d ((same-decided (f.symbol i) (f.symbol i)).1 refl))
  stands_from i (v ∷ vs) (n ∷ s) (suc j) k e b l h =
      stands-later (declared_at form i) (declares form (suc i) vs) n s (f.symbol k) (apart (omega arith) (omega arith))
      ∙ stands_from (suc i) vs s j k (omega arith) (omega arith) (omega arith) (omega arith)

  -- the symbol of variable i stands for number i of the setting
  module _ (vs : List Variable) (few : length vs ≤ m) (s : List ℕ) (l : length s ≡ length vs) where
    pub symbol-stands : (i : ℕ) → i < length vs → value (environment (declares form 0 vs) s) (variable_sexp form i) ≡ bits f.width (get_or s i 0)
    symbol-stands i h = value-symbol _ (f.symbol i) (free i) ∙ stands_from 0 vs s i i (omega arith) (omega arith) l h

    -- so a tree's term has the sort of the tree
    pub setting-sorted : {k : Sort} (t : Tree k) → Fine (length vs) t → Has (environment (declares form 0 vs) s) (sort_for f.width k) (term form t)
    setting-sorted t g =
        tree-sorted form.constant f.symbol f.width (length vs) _ (λ z. record { known = _; is = form.texts.constants _ z })
        (λ i h. record { known = _; is = symbol-stands i h }) t g

  -- ---- declarations
  declare-is : (i : ℕ) → command_of (declare_sexp form i) ≡ declare_fun (declared_at form i)
  declare-is i =
      let e = decimal-number f.width in
      declare-read (f.symbol i) _ (vector-read (decimal_digits f.width) (rw e form.texts.some_bits) ∙ ap (λ (w : ℕ). some (bit_vec w)) e)

  -- no name from number i on is declared
  abbrev Free : List Declaration → ℕ → Type 0
  Free ds i = (j : ℕ) → i ≤ j → j < m → is_declared ds (f.symbol j) ≡ false

  free-next : (ds : List Declaration) (i : ℕ) → Free ds i → Free (ds ++ (declared_at form i ∷ [])) (suc i)
  free-next ds i g j l h = declared-append ds (declared_at form i ∷ []) (f.symbol j) ∙ rw (g j (omega arith) h, apart l h)

  all-declared : (ds : List Declaration) (i : ℕ) (vs : List Variable) (s : Sexp) → Free ds i → i + length vs ≤ m
      → gather f.models ds [] false false (declare_chain form i vs s) ≡ gather f.models (ds ++ declares form i vs) [] false false s
  all-declared ds i [] s g h = rw append-nil
  all-declared ds i (v ∷ vs) s g h =
      declares-next f.models ds [] false false _ _ (declare-is i) (fresh-name ds (f.symbol i) (form.texts.theory i) (form.texts.solver i) (g i (omega arith) (omega arith)))
      ∙ all-declared (ds ++ (declared_at form i ∷ [])) (suc i) vs s (free-next ds i g) (omega arith)
      ∙ ap (λ (l : List Declaration). gather f.models l [] false false s) (append_assoc ds (declared_at form i ∷ []) (declares form (suc i) vs))

  -- ---- assertions
  zeros-length : (i : ℕ) (vs : List Variable) → length (zeros (declares form i vs)) ≡ length vs
  zeros-length i [] = refl
  zeros-length i (v ∷ vs) = ap suc (zeros-length (suc i) vs)

  module _ (vs : List Variable) (few : length vs ≤ m) where
    abbrev ds : List Declaration
    ds = declares form 0 vs

    is-formula : (t : Tree Truth) → Fine (length vs) t → formula ds (term form t) ≡ true
    unfolding formula
    is-formula t g = rw (setting-sorted vs few (zeros ds) (zeros-length 0 vs) t g).is

    all-asserted : (es : List Sexp) (ts : List (Tree Truth)) (s : Sexp) → Every (Fine (length vs)) ts
        → gather f.models ds es false false (assert_chain form ts s) ≡ gather f.models ds (es ++ map (λ (t : Tree Truth). term form t) ts) false false s
    all-asserted es [] s g = rw append-nil
    all-asserted es (t ∷ ts) s g =
        asserts-next f.models ds es false false _ _ (assert-read (term form t)) (is-formula t g.0)
        ∙ all-asserted (es ++ (term form t ∷ [])) ts s g.1
        ∙ ap (λ (l : List Sexp). gather f.models ds l false false s) (append_assoc es (term form t ∷ []) (map (λ (t : Tree Truth). term form t) ts))

    -- ---- get-value, where there are models
    names-sorted : (i : ℕ) (us : List Variable) → i + length us ≤ length vs → well_sorted ds (items (names_chain form i us)) ≡ true
    unfolding well_sorted
    names-sorted i [] h = refl
    names-sorted i (u ∷ us) h =
        let e = ap sort_of (symbol-stands vs few (zeros ds) (zeros-length 0 vs) i (omega arith)) in
        sorted-next ds (variable_sexp form i) (items (names_chain form (suc i) us)) e (names-sorted (suc i) us (omega arith))

    values-asked : (us : List Variable) → length us ≤ length vs → (es : List Sexp) (s : Sexp) → gather true ds es true true (values_chain form us s) ≡ gather true ds es true true s
    values-asked [] h es s = refl
    values-asked (u ∷ us) h es s = values-next ds es true _ s (values-read (variable_sexp form 0) (names_chain form 1 us)) (names-sorted 0 (u ∷ us) (omega arith))

    values-taken : (es : List Sexp) (s : Sexp) → gather f.models ds es true true (models_chain form (values_chain form vs) s) ≡ gather f.models ds es true true s
    values-taken es s = by f.models
      where
        by : (b : Bool) → gather b ds es true true (elim b [ true ↦ values_chain form vs s | false ↦ s ]) ≡ gather b ds es true true s
        by true = values-asked vs (omega arith) es s
        by false = refl

  -- ---- set-option, where there are models
  option-taken : (s : Sexp) → script_in (models_chain form (cons models_option) s) ≡ start f.models s
  unfolding script_in
  option-taken s = by f.models
    where
      by : (b : Bool) → script_in (elim b [ true ↦ cons models_option s | false ↦ s ]) ≡ start b s
      by true = models-on s
      by false = refl

  -- ---- the whole
  pub chain-read : (r : Rule) → length r.variables ≤ m → WellFormed r → script_in (chain_of form r) ≡ some (asked form r)
  unfolding same_bytes sets_logic
  chain-read r few g =
      option-taken (logic_chain form r)
      ∙ logic-next f.models _ _ refl
      ∙ all-declared [] 0 r.variables _ (λ j l h. refl) (omega arith)
      ∙ all-asserted r.variables few [] (claims 0 r.variables r.goal) _ (claims-fine r g)
      ∙ asks-next f.models _ _ false false _ _ check-read
      ∙ values-taken r.variables few _ _
      ∙ exits f.models _ _ true _ exit_read

  -- ---- what is asserted, in SMT-LIB's words

  -- a tree's term is made of its kind's word and the operands' terms
  pub operators : (k : Kind) → Known (row k).shape → (x : Args (row k).shape) → term form (make k x) ≡ sexp_by form.constant f.symbol (row k).shape (row k).word (found_made (sexp_step form.constant f.symbol) (row k).shape x)
  operators k q x = found-make k q x (sexp_step form.constant f.symbol)

  -- (and (bvsle MIN NAME) (bvsle NAME MAX))
  abbrev pub range_sexp : ℕ → Range → Sexp
  range_sexp i d = call2 (ascii "and") (call2 (ascii "bvsle") (atom (form.constant d.low)) (variable_sexp form i)) (call2 (ascii "bvsle") (variable_sexp form i) (atom (form.constant d.high)))

  -- for each variable from number i on
  abbrev pub ranges : ℕ → List Variable → List Sexp
  ranges i [] = []
  ranges i (v ∷ vs) = range_sexp i v.domain ∷ ranges (suc i) vs

  -- a range for each variable, and then the negated goal
  pub asserts-are : (r : Rule) → (asked form r).asserts ≡ ranges 0 r.variables ++ (call1 (ascii "not") (term form r.goal) ∷ [])
  unfolding of_tree
  asserts-are r = from 0 r.variables
    where
      from : (i : ℕ) (vs : List Variable) → map (λ (t : Tree Truth). term form t) (claims i vs r.goal) ≡ ranges i vs ++ (call1 (ascii "not") (term form r.goal) ∷ [])
      from i [] = refl
      from i (v ∷ vs) = ap (λ (l : List Sexp). range_sexp i v.domain ∷ l) (from (suc i) vs)
