-- Whether a term is accepted, and at which sort, does not depend on the setting. Assumes nothing.
use mathlib.Core.Path.{◌≡◌, refl, sym, ap, ap₂, ◌∙◌}
use mathlib.Core.Bool.{Bool, true, false, ◌&&◌, false≢true}
use mathlib.Core.List.{List, [], ◌∷◌, map}
use mathlib.Core.Option.{Option, none, some}
use Prim.Native.Nat.{ℕ, ◌<◌}
use lib.Dec.{eqb, lit<}
use lib.Pow.{pow_pos}
use Rattle.lists.specs.Names.{same_bytes}
use Rattle.lists.specs.Few.{exactly0, exactly1, exactly2, exactly3}
use Rattle.lists.specs.First.{and_then}
use Rattle.smtlib.specs.Tokens.{Atom, symbol, reserved, numeral, hexadecimal, binary, keyword}
use Rattle.smtlib.specs.Sexps.{Sexp, atom, nil, cons, symbol_in}
use Rattle.smtlib.specs.Values.{Sort, bool, bit_vec, Val, Value, truth, bits, rejected, sort_of, sorted, on_truth, on_truths, on_bits, on_width, on_sort, on_choice, from_left, from_right, both, in_chain, with_each, in_pairs}
use Rattle.smtlib.specs.Theory.{Attribute, two, left-assoc, right-assoc, chained, pairs, Signature, constant, truths1, truths2, relation, choice, vectors1, vectors2, order, Meaning, by_attribute, applied, FunctionRow, function}
use Rattle.smtlib.specs.Terms.{Environment, symbol_value, atom_value, application, value, values}
use Rattle.smtlib.specs.Commands.{Declaration}
use Rattle.smtlib.specs.Settings.{sort_size, value_at, Assigns, environment, zeros}
use Rattle.smtlib.specs.Scripts.{is_bool, term_sort, formula}

-- one value of each sort
abbrev plainly : Option Sort → Value
plainly none = rejected
plainly (some bool) = truth true
plainly (some (bit_vec m)) = bits m 0

abbrev plain : Value → Value
plain a = plainly (sort_of a)

-- two values of one sort, or both rejected; a record, so that the values are found from it
record Alike (a b : Value) : Type 0 where
  sort : sort_of a ≡ sort_of b

like : (a b : Value) → sort_of a ≡ sort_of b → Alike a b
like a b e = record { sort = e }

to-plain : (a : Value) → Alike a (plain a)
to-plain (truth b) = record { sort = refl }
to-plain (bits m n) = record { sort = refl }
to-plain rejected = record { sort = refl }

-- ---- a result's sort goes by the arguments' sorts
abbrev Sorted1 : (Value → Value) → Type 0
Sorted1 f = (a : Value) → Alike (f a) (f (plain a))

abbrev Sorted2 : (Value → Value → Value) → Type 0
Sorted2 f = (a b : Value) → Alike (f a b) (f (plain a) (plain b))

truth-sorted : (f : Bool → Bool) → Sorted1 (on_truth f)
truth-sorted f (truth a) = record { sort = refl }
truth-sorted f (bits m s) = record { sort = refl }
truth-sorted f rejected = record { sort = refl }

truths-sorted : (f : Bool → Bool → Bool) → Sorted2 (on_truths f)
truths-sorted f (truth a) (truth b) = record { sort = refl }
truths-sorted f (truth a) (bits n t) = record { sort = refl }
truths-sorted f (truth a) rejected = record { sort = refl }
truths-sorted f (bits m s) b = record { sort = refl }
truths-sorted f rejected b = record { sort = refl }

bits-sorted : (f : ℕ → ℕ → ℕ) → Sorted1 (on_bits f)
bits-sorted f (truth a) = record { sort = refl }
bits-sorted f (bits m s) = record { sort = refl }
bits-sorted f rejected = record { sort = refl }

-- likewise where another function is taken of the plain values
width-sorted : (f g : ℕ → ℕ → ℕ → Value) → ((m s t : ℕ) → Alike (f m s t) (g m 0 0)) → (a b : Value) → Alike (on_width f a b) (on_width g (plain a) (plain b))
width-sorted f g h (truth a) b = record { sort = refl }
width-sorted f g h (bits m s) (truth b) = record { sort = refl }
width-sorted f g h (bits m s) (bits n t) = by (eqb m n)
  where
    by : (q : Bool) → Alike (elim q [ true ↦ f m s t | false ↦ rejected ]) (elim q [ true ↦ g m 0 0 | false ↦ rejected ])
    by true = h m s t
    by false = record { sort = refl }
width-sorted f g h (bits m s) rejected = record { sort = refl }
width-sorted f g h rejected b = record { sort = refl }

abbrev OfSort : Type 0
OfSort = (s : Sort) → Val s → Val s → Value

sort_sorted : (f g : OfSort) → ((a b : Bool) → Alike (f bool a b) (g bool true true)) → ((m s t : ℕ) → Alike (f (bit_vec m) s t) (g (bit_vec m) 0 0)) → (a b : Value) → Alike (on_sort f a b) (on_sort g (plain a) (plain b))
sort_sorted f g h k (truth a) (truth b) = h a b
sort_sorted f g h k (truth a) (bits n t) = record { sort = refl }
sort_sorted f g h k (truth a) rejected = record { sort = refl }
sort_sorted f g h k (bits m s) b = width-sorted (λ w. f (bit_vec w)) (λ w. g (bit_vec w)) k (bits m s) b
sort_sorted f g h k rejected b = record { sort = refl }

choice-sorted : (f : (s : Sort) → Bool → Val s → Val s → Val s) (c a b : Value) → Alike (on_choice f c a b) (on_choice f (plain c) (plain a) (plain b))
choice-sorted f (truth c) a b =
    sort_sorted (λ s x y. sorted s (f s c x y)) (λ s x y. sorted s (f s true x y)) (λ x y. record { sort = refl }) (λ m x y. record { sort = refl }) a b
choice-sorted f (bits m s) a b = record { sort = refl }
choice-sorted f rejected a b = record { sort = refl }

-- ---- lists of arguments
abbrev plains : List Value → List Value
plains vs = map plain vs

on0-sorted : {a b : Value} → Alike a b → (vs : List Value) → Alike (exactly0 rejected a vs) (exactly0 rejected b (plains vs))
on0-sorted h [] = h
on0-sorted h (v ∷ vs) = record { sort = refl }

on1-sorted : (f : Value → Value) → Sorted1 f → (vs : List Value) → Alike (exactly1 rejected f vs) (exactly1 rejected f (plains vs))
on1-sorted f h [] = record { sort = refl }
on1-sorted f h (a ∷ vs) = on0-sorted (h a) vs

on3-sorted : (f : Value → Value → Value → Value) → ((a b c : Value) → Alike (f a b c) (f (plain a) (plain b) (plain c))) → (vs : List Value) → Alike (exactly3 rejected f vs) (exactly3 rejected f (plains vs))
on3-sorted f h [] = record { sort = refl }
on3-sorted f h (a ∷ []) = record { sort = refl }
on3-sorted f h (a ∷ b ∷ []) = record { sort = refl }
on3-sorted f h (a ∷ b ∷ c ∷ vs) = on0-sorted (h a b c) vs

-- a function of two arguments at arguments of the same sorts
at-like : (f : Value → Value → Value) → Sorted2 f → {a a' b b' : Value} → Alike a a' → Alike b b' → Alike (f a b) (f a' b')
at-like f h {a} {a'} {b} {b'} d e =
    record { sort = (h a b).sort ∙ ap₂ (λ (x y : Option Sort). sort_of (f (plainly x) (plainly y))) d.sort e.sort ∙ sym (h a' b').sort }

both-like : {a a' b b' : Value} → Alike a a' → Alike b b' → Alike (both a b) (both a' b')
both-like d e = at-like (on_truths ◌&&◌) (truths-sorted ◌&&◌) d e

module _ (f : Value → Value → Value) (h : Sorted2 f) where
  on2-sorted : (vs : List Value) → Alike (exactly2 rejected f vs) (exactly2 rejected f (plains vs))
  on2-sorted [] = record { sort = refl }
  on2-sorted (a ∷ []) = record { sort = refl }
  on2-sorted (a ∷ b ∷ vs) = on0-sorted (h a b) vs

  left-sorted : (a a' : Value) (vs : List Value) → Alike a a' → Alike (from_left f a vs) (from_left f a' (plains vs))
  left-sorted a a' [] e = e
  left-sorted a a' (b ∷ vs) e = left-sorted (f a b) (f a' (plain b)) vs (at-like f h e (to-plain b))

  right-sorted : (a : Value) (vs : List Value) → Alike (from_right f a vs) (from_right f (plain a) (plains vs))
  right-sorted a [] = to-plain a
  right-sorted a (b ∷ vs) = at-like f h (to-plain a) (right-sorted b vs)

  chain-sorted : (a b : Value) (vs : List Value) → Alike (in_chain f a b vs) (in_chain f (plain a) (plain b) (plains vs))
  chain-sorted a b [] = h a b
  chain-sorted a b (c ∷ vs) = both-like (h a b) (chain-sorted b c vs)

  each-sorted : (a b : Value) (vs : List Value) → Alike (with_each f a b vs) (with_each f (plain a) (plain b) (plains vs))
  each-sorted a b [] = h a b
  each-sorted a b (c ∷ vs) = both-like (h a b) (each-sorted a c vs)

  pairs-sorted : (a b : Value) (vs : List Value) → Alike (in_pairs f a b vs) (in_pairs f (plain a) (plain b) (plains vs))
  pairs-sorted a b [] = h a b
  pairs-sorted a b (c ∷ vs) = both-like (each-sorted a b (c ∷ vs)) (pairs-sorted b c vs)

  attribute-sorted : (t : Attribute) (vs : List Value) → Alike (by_attribute t f vs) (by_attribute t f (plains vs))
  attribute-sorted two vs = on2-sorted vs
  attribute-sorted left-assoc [] = record { sort = refl }
  attribute-sorted left-assoc (a ∷ []) = record { sort = refl }
  attribute-sorted left-assoc (a ∷ b ∷ vs) = left-sorted (f a b) (f (plain a) (plain b)) vs (h a b)
  attribute-sorted right-assoc [] = record { sort = refl }
  attribute-sorted right-assoc (a ∷ []) = record { sort = refl }
  attribute-sorted right-assoc (a ∷ b ∷ vs) = right-sorted a (b ∷ vs)
  attribute-sorted chained [] = record { sort = refl }
  attribute-sorted chained (a ∷ []) = record { sort = refl }
  attribute-sorted chained (a ∷ b ∷ vs) = chain-sorted a b vs
  attribute-sorted pairs [] = record { sort = refl }
  attribute-sorted pairs (a ∷ []) = record { sort = refl }
  attribute-sorted pairs (a ∷ b ∷ vs) = pairs-sorted a b vs

-- whatever the row's name and meaning
applied-sorted : (g : Signature) (f : Meaning g) (vs : List Value) → Alike (applied g f vs) (applied g f (plains vs))
applied-sorted constant b vs = on0-sorted (like (truth b) (truth b) refl) vs
applied-sorted truths1 f vs = on1-sorted (on_truth f) (truth-sorted f) vs
applied-sorted (truths2 t) f vs = attribute-sorted (on_truths f) (truths-sorted f) t vs
applied-sorted (relation t) f vs =
    attribute-sorted (on_sort (λ s x y. truth (f s x y)))
    (sort_sorted (λ s x y. truth (f s x y)) (λ s x y. truth (f s x y)) (λ a b. record { sort = refl }) (λ m x y. record { sort = refl })) t vs
applied-sorted choice f vs = on3-sorted (on_choice f) (choice-sorted f) vs
applied-sorted vectors1 f vs = on1-sorted (on_bits f) (bits-sorted f) vs
applied-sorted (vectors2 t) f vs =
    attribute-sorted (on_width (λ m x y. bits m (f m x y))) (width-sorted (λ m x y. bits m (f m x y)) (λ m x y. bits m (f m x y)) (λ m x y. record { sort = refl })) t vs
applied-sorted (order t) f vs =
    attribute-sorted (on_width (λ m x y. truth (f m x y))) (width-sorted (λ m x y. truth (f m x y)) (λ m x y. truth (f m x y)) (λ m x y. record { sort = refl })) t vs

application-sorted : (r : Option FunctionRow) (vs : List Value) → Alike (application r vs) (application r (plains vs))
application-sorted none vs = record { sort = refl }
application-sorted (some r) [] = record { sort = refl }
application-sorted (some r) (v ∷ vs) = applied-sorted r.signature r.meaning (v ∷ vs)

-- ---- terms, in two environments of the same sorts
module _ (env env' : Environment) (h : (n : List ℕ) → sort_of (env n) ≡ sort_of (env' n)) where
  symbol-sorted : (n : List ℕ) (r : Option FunctionRow) → sort_of (symbol_value r (env n)) ≡ sort_of (symbol_value r (env' n))
  symbol-sorted n none = h n
  symbol-sorted n (some r) = refl

  atom-sorted : (a : Atom) → sort_of (atom_value env a) ≡ sort_of (atom_value env' a)
  unfolding atom_value
  atom-sorted (symbol n) = symbol-sorted n (function n)
  atom-sorted (reserved w) = refl
  atom-sorted (numeral ds) = refl
  atom-sorted (hexadecimal ds) = refl
  atom-sorted (binary ds) = refl
  atom-sorted (keyword w) = refl

  mutual
    unfolding value values

    pub same-sort : (e : Sexp) → sort_of (value env e) ≡ sort_of (value env' e)
    same-sort (atom a) = atom-sorted a
    same-sort nil = refl
    same-sort (cons x s) =
        let r = and_then (symbol_in x) function in
        (application-sorted r (values env s)).sort ∙ ap (λ (vs : List Value). sort_of (application r vs)) (same-sorts s) ∙ sym (application-sorted r (values env' s)).sort

    same-sorts : (s : Sexp) → plains (values env s) ≡ plains (values env' s)
    same-sorts (atom a) = refl
    same-sorts nil = refl
    same-sorts (cons x s) = ap₂ ◌∷◌ (ap plainly (same-sort x)) (same-sorts s)

-- ---- settings
value-sorted : (s : Sort) (k j : ℕ) → sort_of (value_at s k) ≡ sort_of (value_at s j)
value-sorted bool k j = refl
value-sorted (bit_vec m) k j = refl

symbols-sorted : (ds : List Declaration) (s t : List ℕ) → Assigns ds s → Assigns ds t → (n : List ℕ) → sort_of (environment ds s n) ≡ sort_of (environment ds t n)
unfolding environment
symbols-sorted [] s t f g n = refl
symbols-sorted (d ∷ ds) [] t f g n = absurd f
symbols-sorted (d ∷ ds) (k ∷ s) [] f g n = absurd g
symbols-sorted (d ∷ ds) (k ∷ s) (j ∷ t) f g n = by (same_bytes d.name n) (symbols-sorted ds s t f.1 g.1 n)
  where
    by : (q : Bool) → sort_of (environment ds s n) ≡ sort_of (environment ds t n)
        → sort_of (elim q [ true ↦ value_at d.sort k | false ↦ environment ds s n ]) ≡ sort_of (elim q [ true ↦ value_at d.sort j | false ↦ environment ds t n ])
    by true e = value-sorted d.sort k j
    by false e = e

-- a term's sort is the same in every setting
pub setting-sort : (ds : List Declaration) (s t : List ℕ) → Assigns ds s → Assigns ds t → (e : Sexp) → sort_of (value (environment ds s) e) ≡ sort_of (value (environment ds t) e)
setting-sort ds s t f g e = same-sort (environment ds s) (environment ds t) (symbols-sorted ds s t f g) e

value-0 : (s : Sort) → 0 < sort_size s
value-0 bool = lit< tt
value-0 (bit_vec m) = pow_pos m

pub zeros-fit : (ds : List Declaration) → Assigns ds (zeros ds)
zeros-fit [] = tt
zeros-fit (d ∷ ds) = (value-0 d.sort, zeros-fit ds)

is-bool : (o : Option Sort) → is_bool o ≡ true → o ≡ some bool
is-bool none h = absurd (false≢true h)
is-bool (some bool) h = refl
is-bool (some (bit_vec m)) h = absurd (false≢true h)

-- what is a formula has sort Bool in every setting
pub formula-sort : (ds : List Declaration) (e : Sexp) → formula ds e ≡ true → (s : List ℕ) → Assigns ds s → sort_of (value (environment ds s) e) ≡ some bool
unfolding formula
formula-sort ds e h s f = setting-sort ds s (zeros ds) f (zeros-fit ds) e ∙ is-bool (sort_of (value (environment ds (zeros ds)) e)) h

-- what has a sort in one setting is a term of that sort
pub sort-term : (ds : List Declaration) (e : Sexp) (s : List ℕ) → Assigns ds s → {k : Sort} → sort_of (value (environment ds s) e) ≡ some k → term_sort ds e ≡ some k
sort-term ds e s f h = setting-sort ds (zeros ds) s (zeros-fit ds) f e ∙ h

-- and a formula, if it is Bool
pub sort-formula : (ds : List Declaration) (e : Sexp) (s : List ℕ) → Assigns ds s → sort_of (value (environment ds s) e) ≡ some bool → formula ds e ≡ true
unfolding formula
sort-formula ds e s f h = ap is_bool (sort-term ds e s f h)
