-- Every assertion of an accepted script has sort Bool in every setting that fits its declarations. Assumes nothing.
use mathlib.Core.Path.{◌≡◌, refl, sym, ap, ap₂, subst, ◌∙◌}
use mathlib.Core.Bool.{Bool, true, false, ◌&&◌, false≢true}
use mathlib.Core.Logic.{◌⊎◌, inl, inr, ⊎_elim}
use mathlib.Core.List.{List, [], ◌∷◌, ◌++◌}
use mathlib.Core.Option.{Option, none, some}
use Prim.Native.Nat.{ℕ}
use native.Mathlib.Omega.{arith}
use Rattle.lists.specs.Names.{same_bytes}
use Rattle.lists.specs.Few.{exactly0, exactly1, exactly2, exactly3}
use Rattle.lists.specs.First.{and_then}
use Rattle.smtlib.specs.Tokens.{Atom, symbol, reserved, numeral, hexadecimal, binary, keyword}
use Rattle.smtlib.specs.Sexps.{Sexp, atom, nil, cons, symbol_in, items, sexps_of}
use Rattle.smtlib.specs.Values.{Sort, bool, Val, Value, truth, bits, rejected, sort_of, on_truth, on_truths, on_bits, on_width, on_sort, on_choice, from_left, from_right, both, in_chain, with_each, in_pairs}
use Rattle.smtlib.specs.Theory.{Attribute, two, left-assoc, right-assoc, chained, pairs, Signature, constant, truths1, truths2, relation, choice, vectors1, vectors2, order, Meaning, by_attribute, applied, FunctionRow, function}
use Rattle.smtlib.specs.Terms.{Environment, symbol_value, atom_value, application, value, values}
use Rattle.smtlib.specs.Commands.{Declaration, Command, produce_models, declare_fun, assertion, check_sat, exit, get_value, unknown, command_of}
use Rattle.smtlib.specs.Settings.{value_at, Assigns, environment, zeros}
use Rattle.smtlib.specs.Scripts.{Script, is_bool, declarable, formula, well_sorted, gather, sets_logic, start, script_in}
use Rattle.smtlib.specs.Satisfaction.{script_of}
use Rattle.smtlib.proofs.SortLaws.{formula-sort}

-- ---- what has a rejected argument is rejected

-- one of the values is rejected
data Broken : List Value → Type 0 where
  here : {vs : List Value} → Broken (rejected ∷ vs)
  there : {v : Value} {vs : List Value} → Broken vs → Broken (v ∷ vs)

record Strict2 (f : Value → Value → Value) : Type 0 where
  left : (b : Value) → f rejected b ≡ rejected
  right : (a : Value) → f a rejected ≡ rejected

truths-strict : (f : Bool → Bool → Bool) → Strict2 (on_truths f)
truths-strict f = record { left = λ b. refl; right = by }
  where
    by : (a : Value) → on_truths f a rejected ≡ rejected
    by (truth a) = refl
    by (bits m s) = refl
    by rejected = refl

width-strict : (f : ℕ → ℕ → ℕ → Value) → Strict2 (on_width f)
width-strict f = record { left = λ b. refl; right = by }
  where
    by : (a : Value) → on_width f a rejected ≡ rejected
    by (truth a) = refl
    by (bits m s) = refl
    by rejected = refl

sort-strict : (f : (s : Sort) → Val s → Val s → Value) → Strict2 (on_sort f)
sort-strict f = record { left = λ b. refl; right = by }
  where
    by : (a : Value) → on_sort f a rejected ≡ rejected
    by (truth a) = refl
    by (bits m s) = refl
    by rejected = refl

on0-rejected : (vs : List Value) → exactly0 rejected rejected vs ≡ rejected
on0-rejected [] = refl
on0-rejected (v ∷ vs) = refl

on0-broken : (a : Value) {vs : List Value} → Broken vs → exactly0 rejected a vs ≡ rejected
on0-broken a here = refl
on0-broken a (there k) = refl

on1-broken : (f : Value → Value) → f rejected ≡ rejected → {vs : List Value} → Broken vs → exactly1 rejected f vs ≡ rejected
on1-broken f h (here {vs}) = ap (λ (a : Value). exactly0 rejected a vs) h ∙ on0-rejected vs
on1-broken f h (there {v} k) = on0-broken (f v) k

choice-left : (f : (s : Sort) → Bool → Val s → Val s → Val s) (c b : Value) → on_choice f c rejected b ≡ rejected
choice-left f (truth c) b = refl
choice-left f (bits m s) b = refl
choice-left f rejected b = refl

choice-right : (f : (s : Sort) → Bool → Val s → Val s → Val s) (c a : Value) → on_choice f c a rejected ≡ rejected
choice-right f (truth c) (truth a) = refl
choice-right f (truth c) (bits m s) = refl
choice-right f (truth c) rejected = refl
choice-right f (bits m s) a = refl
choice-right f rejected a = refl

both_left : (b : Value) → both rejected b ≡ rejected
both_left b = (truths-strict ◌&&◌).left b

both_right : (a : Value) → both a rejected ≡ rejected
both_right a = (truths-strict ◌&&◌).right a

module _ (f : Value → Value → Value) (h : Strict2 f) where
  left-first : (vs : List Value) → from_left f rejected vs ≡ rejected
  left-first [] = refl
  left-first (b ∷ vs) = ap (λ (a : Value). from_left f a vs) (h.left b) ∙ left-first vs

  left-rest : (a : Value) {vs : List Value} → Broken vs → from_left f a vs ≡ rejected
  left-rest a (here {vs}) = ap (λ (b : Value). from_left f b vs) (h.right a) ∙ left-first vs
  left-rest a (there {v} k) = left-rest (f a v) k

  right-first : (vs : List Value) → from_right f rejected vs ≡ rejected
  right-first [] = refl
  right-first (b ∷ vs) = h.left (from_right f b vs)

  right-rest : (a : Value) {vs : List Value} → Broken vs → from_right f a vs ≡ rejected
  right-rest a (here {vs}) = ap (f a) (right-first vs) ∙ h.right a
  right-rest a (there {v} k) = ap (f a) (right-rest v k) ∙ h.right a

  chain_first : (b : Value) (vs : List Value) → in_chain f rejected b vs ≡ rejected
  chain_first b [] = h.left b
  chain_first b (c ∷ vs) = ap (λ (x : Value). both x (in_chain f b c vs)) (h.left b) ∙ both_left (in_chain f b c vs)

  chain_second : (a : Value) (vs : List Value) → in_chain f a rejected vs ≡ rejected
  chain_second a [] = h.right a
  chain_second a (c ∷ vs) = ap (λ (x : Value). both x (in_chain f rejected c vs)) (h.right a) ∙ both_left (in_chain f rejected c vs)

  chain-rest : (a b : Value) {vs : List Value} → Broken vs → in_chain f a b vs ≡ rejected
  chain-rest a b (here {vs}) = ap (both (f a b)) (chain_second b vs) ∙ both_right (f a b)
  chain-rest a b (there {v} k) = ap (both (f a b)) (chain-rest b v k) ∙ both_right (f a b)

  each_first : (b : Value) (vs : List Value) → with_each f rejected b vs ≡ rejected
  each_first b [] = h.left b
  each_first b (c ∷ vs) = ap (λ (x : Value). both x (with_each f rejected c vs)) (h.left b) ∙ both_left (with_each f rejected c vs)

  each-second : (a : Value) (vs : List Value) → with_each f a rejected vs ≡ rejected
  each-second a [] = h.right a
  each-second a (c ∷ vs) = ap (λ (x : Value). both x (with_each f a c vs)) (h.right a) ∙ both_left (with_each f a c vs)

  each-rest : (a b : Value) {vs : List Value} → Broken vs → with_each f a b vs ≡ rejected
  each-rest a b (here {vs}) = ap (both (f a b)) (each-second a vs) ∙ both_right (f a b)
  each-rest a b (there {v} k) = ap (both (f a b)) (each-rest a v k) ∙ both_right (f a b)

  two-broken : {vs : List Value} → Broken vs → exactly2 rejected f vs ≡ rejected
  two-broken (here {vs = []}) = refl
  two-broken (here {vs = b ∷ vs}) = ap (λ (a : Value). exactly0 rejected a vs) (h.left b) ∙ on0-rejected vs
  two-broken (there {v} k) = on1-broken (f v) (h.right v) k

  pairs_first : (b : Value) (vs : List Value) → in_pairs f rejected b vs ≡ rejected
  pairs_first b [] = h.left b
  pairs_first b (c ∷ vs) = ap (λ (x : Value). both x (in_pairs f b c vs)) (each_first b (c ∷ vs)) ∙ both_left (in_pairs f b c vs)

  pairs-second : (a : Value) (vs : List Value) → in_pairs f a rejected vs ≡ rejected
  pairs-second a [] = h.right a
  pairs-second a (c ∷ vs) = ap (λ (x : Value). both x (in_pairs f rejected c vs)) (each-second a (c ∷ vs)) ∙ both_left (in_pairs f rejected c vs)

  pairs-rest : (a b : Value) {vs : List Value} → Broken vs → in_pairs f a b vs ≡ rejected
  pairs-rest a b (here {vs}) = ap (λ (x : Value). both x (in_pairs f b rejected vs)) (each-rest a b (here {vs = vs})) ∙ both_left (in_pairs f b rejected vs)
  pairs-rest a b (there {v} {vs} k) = ap (λ (x : Value). both x (in_pairs f b v vs)) (each-rest a b (there k)) ∙ both_left (in_pairs f b v vs)

  attribute-broken : (t : Attribute) {vs : List Value} → Broken vs → by_attribute t f vs ≡ rejected
  attribute-broken two k = two-broken k
  attribute-broken left-assoc (here {vs = []}) = refl
  attribute-broken left-assoc (here {vs = b ∷ vs}) = left-first (b ∷ vs)
  attribute-broken left-assoc (there {v} (here {vs})) = left-rest v (here {vs = vs})
  attribute-broken left-assoc (there {v} (there {v = w} k)) = left-rest v (there k)
  attribute-broken right-assoc (here {vs = []}) = refl
  attribute-broken right-assoc (here {vs = b ∷ vs}) = right-first (b ∷ vs)
  attribute-broken right-assoc (there {v} (here {vs})) = right-rest v (here {vs = vs})
  attribute-broken right-assoc (there {v} (there {v = w} k)) = right-rest v (there k)
  attribute-broken chained (here {vs = []}) = refl
  attribute-broken chained (here {vs = b ∷ vs}) = chain_first b vs
  attribute-broken chained (there {v} (here {vs})) = chain_second v vs
  attribute-broken chained (there {v} (there {v = w} k)) = chain-rest v w k
  attribute-broken pairs (here {vs = []}) = refl
  attribute-broken pairs (here {vs = b ∷ vs}) = pairs_first b vs
  attribute-broken pairs (there {v} (here {vs})) = pairs-second v vs
  attribute-broken pairs (there {v} (there {v = w} k)) = pairs-rest v w k

three-broken : (f : (s : Sort) → Bool → Val s → Val s → Val s) {vs : List Value} → Broken vs → exactly3 rejected (on_choice f) vs ≡ rejected
three-broken f (here {vs = []}) = refl
three-broken f (here {vs = a ∷ []}) = refl
three-broken f (here {vs = a ∷ b ∷ vs}) = on0-rejected vs
three-broken f (there {v} (here {vs = []})) = refl
three-broken f (there {v} (here {vs = b ∷ vs})) = ap (λ (x : Value). exactly0 rejected x vs) (choice-left f v b) ∙ on0-rejected vs
three-broken f (there {v} (there {v = w} k)) = on1-broken (on_choice f v w) (choice-right f v w) k

applied-broken : (g : Signature) (f : Meaning g) {vs : List Value} → Broken vs → applied g f vs ≡ rejected
applied-broken constant b k = on0-broken (truth b) k
applied-broken truths1 f k = on1-broken (on_truth f) refl k
applied-broken (truths2 t) f k = attribute-broken (on_truths f) (truths-strict f) t k
applied-broken (relation t) f k = attribute-broken (on_sort (λ s x y. truth (f s x y))) (sort-strict (λ s x y. truth (f s x y))) t k
applied-broken choice f k = three-broken f k
applied-broken vectors1 f k = on1-broken (on_bits f) refl k
applied-broken (vectors2 t) f k = attribute-broken (on_width (λ m x y. bits m (f m x y))) (width-strict (λ m x y. bits m (f m x y))) t k
applied-broken (order t) f k = attribute-broken (on_width (λ m x y. truth (f m x y))) (width-strict (λ m x y. truth (f m x y))) t k

application-broken : (r : Option FunctionRow) {vs : List Value} → Broken vs → application r vs ≡ rejected
application-broken none k = refl
application-broken (some r) here = applied-broken r.signature r.meaning here
application-broken (some r) (there k) = applied-broken r.signature r.meaning (there k)

-- ---- where more is declared, what was not rejected stays as it was

module _ (env env' : Environment) (h : (n : List ℕ) → (env n ≡ rejected) ⊎ (env' n ≡ env n)) where
  symbol-more : (n : List ℕ) (r : Option FunctionRow) → (symbol_value r (env n) ≡ rejected) ⊎ (symbol_value r (env' n) ≡ symbol_value r (env n))
  symbol-more n none = h n
  symbol-more n (some r) = inr refl

  atom-more : (a : Atom) → (atom_value env a ≡ rejected) ⊎ (atom_value env' a ≡ atom_value env a)
  unfolding atom_value
  atom-more (symbol n) = symbol-more n (function n)
  atom-more (reserved w) = inr refl
  atom-more (numeral ds) = inr refl
  atom-more (hexadecimal ds) = inr refl
  atom-more (binary ds) = inr refl
  atom-more (keyword w) = inr refl

  mutual
    unfolding value values

    value-more : (e : Sexp) → (value env e ≡ rejected) ⊎ (value env' e ≡ value env e)
    value-more (atom a) = atom-more a
    value-more nil = inr refl
    value-more (cons f s) = ⊎_elim (λ k. inl (application-broken (and_then (symbol_in f) function) k)) (λ e. inr (ap (application (and_then (symbol_in f) function)) e)) (values-more s)

    values-more : (s : Sexp) → Broken (values env s) ⊎ (values env' s ≡ values env s)
    values-more (atom a) = inr refl
    values-more nil = inr refl
    values-more (cons x s) =
        ⊎_elim (λ e. inl (subst (λ (v : Value). Broken (v ∷ values env s)) (sym e) here))
        (λ e. ⊎_elim (λ k. inl (there k)) (λ d. inr (ap₂ ◌∷◌ e d)) (values-more s)) (value-more x)

  formula-kept : (e : Sexp) → is_bool (sort_of (value env e)) ≡ true → is_bool (sort_of (value env' e)) ≡ true
  formula-kept e t = ⊎_elim (λ r. absurd (false≢true (sym (ap (λ (v : Value). is_bool (sort_of v)) r) ∙ t))) (λ d. ap (λ (v : Value). is_bool (sort_of v)) d ∙ t) (value-more e)

abbrev either : Bool → Value → Value → Value
either q a b = elim q [ true ↦ a | false ↦ b ]

one_more : (ds : List Declaration) (d : Declaration) (n : List ℕ)
    → (environment ds (zeros ds) n ≡ rejected) ⊎ (environment (ds ++ (d ∷ [])) (zeros (ds ++ (d ∷ []))) n ≡ environment ds (zeros ds) n)
unfolding environment
one_more [] d n = inl refl
one_more (c ∷ ds) d n = by (same_bytes c.name n) (one_more ds d n)
  where
    by : (q : Bool) {a b : Value} → (b ≡ rejected) ⊎ (a ≡ b) → (either q (value_at c.sort 0) b ≡ rejected) ⊎ (either q (value_at c.sort 0) a ≡ either q (value_at c.sort 0) b)
    by true w = inr refl
    by false w = w

formula-more : (ds : List Declaration) (d : Declaration) (e : Sexp) → formula ds e ≡ true → formula (ds ++ (d ∷ [])) e ≡ true
unfolding formula
formula-more ds d e h = formula-kept (environment ds (zeros ds)) (environment (ds ++ (d ∷ [])) (zeros (ds ++ (d ∷ [])))) (one_more ds d) e h

-- ---- commands

abbrev pub Formulas : List Declaration → List Sexp → Type 0
Formulas ds [] = Unit {0}
Formulas ds (e ∷ es) = (formula ds e ≡ true) × Formulas ds es

formulas-more : (ds : List Declaration) (d : Declaration) (es : List Sexp) → Formulas ds es → Formulas (ds ++ (d ∷ [])) es
formulas-more ds d [] h = tt
formulas-more ds d (e ∷ es) h = (formula-more ds d e h.0, formulas-more ds d es h.1)

formulas-last : (ds : List Declaration) (es : List Sexp) (e : Sexp) → Formulas ds es → formula ds e ≡ true → Formulas ds (es ++ (e ∷ []))
formulas-last ds [] e h f = (f, tt)
formulas-last ds (c ∷ es) e h f = (h.0, formulas-last ds es e h.1 f)

no-script : {p : Script} → none ≡ some p → ⊥
no-script e = let z : ◌≡◌ {A = ℕ} 0 1 = cc in omega arith

gathered : (models : Bool) (c : Sexp) (ds : List Declaration) (es : List Sexp) (asked sat_mode : Bool) (p : Script) → Formulas ds es → gather models ds es asked sat_mode c ≡ some p → Formulas p.declares p.asserts
unfolding gather
gathered models (atom a) ds es asked sat_mode p f h = absurd (no-script h)
gathered models nil ds es asked sat_mode p f h = absurd (no-script h)
gathered models (cons c s) ds es asked sat_mode p f h = by (command_of c) refl (gathered models s)
  where
    ended : (q : Bool) (r : Sexp) → elim q as (λ _. Option Script) [ true ↦ exactly0 none (some (record { declares = ds; asserts = es })) (items r) | false ↦ none ] ≡ some p → Formulas p.declares p.asserts
    ended true nil e =
        let w : record { declares = ds; asserts = es } ≡ p = cc in
        subst (λ (x : Script). Formulas x.declares x.asserts) w f
    ended true (atom a) e = absurd (no-script e)
    ended true (cons x r) e = absurd (no-script e)
    ended false r e = absurd (no-script e)

    by : (k : Command) → command_of c ≡ k → ((ds : List Declaration) (es : List Sexp) (asked sat_mode : Bool) (p : Script) → Formulas ds es → gather models ds es asked sat_mode s ≡ some p → Formulas p.declares p.asserts) → Formulas p.declares p.asserts
    by (produce_models b) e more = absurd (no-script (rw (e, gather) at h))
    by (declare_fun d) e more = declares (declarable ds d.name) refl
      where
        declares : (q : Bool) → declarable ds d.name ≡ q → Formulas p.declares p.asserts
        declares true t = more (ds ++ (d ∷ [])) es asked false p (formulas-more ds d es f) (rw (e, gather, t) at h)
        declares false t = absurd (no-script (rw (e, gather, t) at h))
    by (assertion t) e more = asserts (formula ds t) refl
      where
        asserts : (q : Bool) → formula ds t ≡ q → Formulas p.declares p.asserts
        asserts true w = more ds (es ++ (t ∷ [])) false false p (formulas-last ds es t f w) (rw (e, gather, w) at h)
        asserts false w = absurd (no-script (rw (e, gather, w) at h))
    by (get_value ts) e more = values (models && (sat_mode && well_sorted ds ts)) refl
      where
        values : (q : Bool) → models && (sat_mode && well_sorted ds ts) ≡ q → Formulas p.declares p.asserts
        values true w = more ds es asked sat_mode p f (rw (e, gather, w) at h)
        values false w = absurd (no-script (rw (e, gather, w) at h))
    by check_sat e more = more ds es true true p f (rw (e, gather) at h)
    by exit e more = ended asked s (rw (e, gather) at h)
    by unknown e more = absurd (no-script (rw (e, gather) at h))

started : (s : Sexp) (models : Bool) (p : Script) → start models s ≡ some p → Formulas p.declares p.asserts
unfolding start
started (atom a) models p h = absurd (no-script h)
started nil models p h = absurd (no-script h)
started (cons c s) models p h = by (sets_logic c) refl (command_of c) refl (started s)
  where
    by : (q : Bool) → sets_logic c ≡ q → (k : Command) → command_of c ≡ k → ((models : Bool) (p : Script) → start models s ≡ some p → Formulas p.declares p.asserts) → Formulas p.declares p.asserts
    by true w k e more = gathered models s [] [] false false p tt (rw (w, start) at h)
    by false w (produce_models b) e more = more b p (rw (w, e, start) at h)
    by false w (declare_fun d) e more = absurd (no-script (rw (w, e, start) at h))
    by false w (assertion t) e more = absurd (no-script (rw (w, e, start) at h))
    by false w check_sat e more = absurd (no-script (rw (w, e, start) at h))
    by false w (get_value ts) e more = absurd (no-script (rw (w, e, start) at h))
    by false w exit e more = absurd (no-script (rw (w, e, start) at h))
    by false w unknown e more = absurd (no-script (rw (w, e, start) at h))

script-formulas : (s : Sexp) (p : Script) → script_in s ≡ some p → Formulas p.declares p.asserts
unfolding script_in
script-formulas s p h = started s false p h

-- every assertion is a formula of all that is declared
pub accepted-formulas : (bytes : List ℕ) {p : Script} → script_of bytes ≡ some p → Formulas p.declares p.asserts
unfolding script_of
accepted-formulas bytes {p} h = by (sexps_of bytes) h
  where
    by : (o : Option Sexp) → and_then o script_in ≡ some p → Formulas p.declares p.asserts
    by none e = absurd (no-script e)
    by (some s) e = script-formulas s p e

-- of sort Bool in a setting
abbrev pub AllBool : List Declaration → List ℕ → List Sexp → Type 0
AllBool ds s [] = Unit {0}
AllBool ds s (e ∷ es) = (sort_of (value (environment ds s) e) ≡ some bool) × AllBool ds s es

all-bool : (ds : List Declaration) (s : List ℕ) → Assigns ds s → (es : List Sexp) → Formulas ds es → AllBool ds s es
all-bool ds s f [] h = tt
all-bool ds s f (e ∷ es) h = (formula-sort ds e h.0 s f, all-bool ds s f es h.1)

pub accepted-sorted : (bytes : List ℕ) {p : Script} → script_of bytes ≡ some p → (s : List ℕ) → Assigns p.declares s → AllBool p.declares s p.asserts
accepted-sorted bytes {p} h s f = all-bool p.declares s f p.asserts (accepted-formulas bytes h)
