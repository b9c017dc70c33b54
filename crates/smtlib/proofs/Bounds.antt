-- A term's value is a value of its sort: a bit vector of width m has a number below 2 ^ m. Assumes nothing.
use mathlib.Core.Path.{◌≡◌, refl, sym, subst}
use mathlib.Core.Bool.{Bool, true, false, cond}
use mathlib.Core.List.{List, [], ◌∷◌}
use mathlib.Core.Option.{Option, none, some}
use Prim.Native.Nat.{ℕ, zero, suc, ◌+◌, ◌*◌, ◌%◌, ◌^◌, ◌<◌}
use native.Mathlib.Nat.{mod-lt}
use native.Mathlib.Omega.{arith}
use lib.Dec.{eqb}
use lib.ListN.{length}
use lib.Pow.{pow_pos}
use borrow.Author.Tests.{eqb-true}
use Rattle.lists.specs.Names.{same_bytes, entry}
use Rattle.lists.specs.Few.{exactly0}
use Rattle.lists.specs.First.{and_then}
use Rattle.smtlib.specs.Tokens.{Atom, symbol, reserved, numeral, hexadecimal, binary, keyword}
use Rattle.smtlib.specs.Sexps.{Sexp, atom, nil, cons, symbol_in}
use Rattle.smtlib.specs.BitVectors.{from_bits, bvnot, bvand, bvor, bvneg, bvadd, bvmul, bvsub}
use Rattle.smtlib.specs.Values.{Sort, bool, bit_vec, Val, Value, truth, bits, rejected, sorted, on_truth, on_truths, on_bits, on_width, on_sort, on_choice, from_left, from_right, both, in_chain, with_each, in_pairs}
use Rattle.smtlib.specs.Theory.{Attribute, two, left-assoc, right-assoc, chained, pairs, Signature, constant, truths1, truths2, relation, choice, vectors1, vectors2, order, Meaning, by_attribute, applied, FunctionRow, functions, function}
use Rattle.smtlib.specs.Terms.{number_from, Environment, symbol_value, atom_value, application, value, values}
use Rattle.smtlib.specs.Commands.{Declaration}
use Rattle.smtlib.specs.Settings.{sort_size, value_at, Assigns, environment}
use Rattle.smtlib.proofs.Spelling.{Digits}
use Rattle.smtlib.proofs.DigitLaws.{GoodAtom, Good}

abbrev pub Proper : Value → Type 0
Proper (truth b) = Unit {0}
Proper (bits m n) = n < 2 ^ m
Proper rejected = Unit {0}

-- ---- the operations

from-bits-lt : (m : ℕ) (f : ℕ → Bool) → from_bits m f < 2 ^ m
unfolding from_bits
from-bits-lt zero f = pow_pos 0
from-bits-lt (suc m) f = by (f m) (from-bits-lt m f)
  where
    by : (b : Bool) → from_bits m f < 2 ^ m → cond b (2 ^ m) 0 + from_bits m f < 2 ^ suc m
    by true h = omega arith
    by false h = omega arith

-- what a function makes of numbers below 2 ^ m is below 2 ^ m
abbrev Kept : (g : Signature) → Meaning g → Type 0
Kept constant b = Unit {0}
Kept truths1 f = Unit {0}
Kept (truths2 a) f = Unit {0}
Kept (relation a) f = Unit {0}
Kept choice f = (m : ℕ) (c : Bool) (s t : ℕ) → s < 2 ^ m → t < 2 ^ m → f (bit_vec m) c s t < 2 ^ m
Kept vectors1 f = (m s : ℕ) → s < 2 ^ m → f m s < 2 ^ m
Kept (vectors2 a) f = (m s t : ℕ) → s < 2 ^ m → t < 2 ^ m → f m s t < 2 ^ m
Kept (order a) f = Unit {0}

abbrev AllKept : List (List ℕ × FunctionRow) → Type 0
AllKept [] = Unit {0}
AllKept (r ∷ rs) = Kept r.1.signature r.1.meaning × AllKept rs

modulo : (m n : ℕ) → n % 2 ^ m < 2 ^ m
modulo m n = mod-lt n (pow_pos m)

chosen : (m : ℕ) (c : Bool) (s t : ℕ) → s < 2 ^ m → t < 2 ^ m → cond c s t < 2 ^ m
chosen m true s t h k = h
chosen m false s t h k = k

-- row by row: the ten of Core, bvnot to bvsub, and the eight orders
all-kept : AllKept functions
unfolding functions bvnot bvand bvor bvneg bvadd bvmul bvsub
all-kept = (
  tt,
  (
    tt,
    (
      tt,
      (
        tt,
        (
          tt,
          (
            tt,
            (
              tt,
              (
                tt,
                (
                  tt,
                  (
                    chosen,
                    (
                      (λ m s h. from-bits-lt m _),
                      (
                        (λ m s h. modulo m _),
                        (
                          (λ m s t h k. from-bits-lt m _),
                          (
                            (λ m s t h k. from-bits-lt m _),
                            (
                              (λ m s t h k. modulo m _),
                              (
                                (λ m s t h k. modulo m _),
                                (
                                  (λ m s t h k. modulo m _),
                                  (tt, (tt, (tt, (tt, (tt, (tt, (tt, (tt, tt)))))))),
                                ),
                              ),
                            ),
                          ),
                        ),
                      ),
                    ),
                  ),
                ),
              ),
            ),
          ),
        ),
      ),
    ),
  ),
)

abbrev KeptIn : Option FunctionRow → Type 0
KeptIn none = Unit {0}
KeptIn (some r) = Kept r.signature r.meaning

row_kept : (rs : List (List ℕ × FunctionRow)) → AllKept rs → (n : List ℕ) → KeptIn (entry rs n)
row_kept [] h n = tt
row_kept (r ∷ rs) h n = by (same_bytes r.0 n) (row_kept rs h.1 n)
  where
    by : (q : Bool) → KeptIn (entry rs n) → KeptIn (elim q [ true ↦ some r.1 | false ↦ entry rs n ])
    by true k = h.0
    by false k = k

function-kept : (n : List ℕ) → KeptIn (function n)
unfolding function
function-kept n = row_kept functions all-kept n

-- ---- arguments

truth-proper : (f : Bool → Bool) (a : Value) → Proper (on_truth f a)
truth-proper f (truth a) = tt
truth-proper f (bits m s) = tt
truth-proper f rejected = tt

abbrev Proper2 : (Value → Value → Value) → Type 0
Proper2 f = (a b : Value) → Proper a → Proper b → Proper (f a b)

truths-proper : (f : Bool → Bool → Bool) → Proper2 (on_truths f)
truths-proper f (truth a) (truth b) h k = tt
truths-proper f (truth a) (bits n t) h k = tt
truths-proper f (truth a) rejected h k = tt
truths-proper f (bits m s) b h k = tt
truths-proper f rejected b h k = tt

bits-proper : (f : ℕ → ℕ → ℕ) → ((m s : ℕ) → s < 2 ^ m → f m s < 2 ^ m) → (a : Value) → Proper a → Proper (on_bits f a)
bits-proper f h (truth a) k = tt
bits-proper f h (bits m s) k = h m s k
bits-proper f h rejected k = tt

width-proper : (f : ℕ → ℕ → ℕ → Value) → ((m s t : ℕ) → s < 2 ^ m → t < 2 ^ m → Proper (f m s t)) → Proper2 (on_width f)
width-proper f h (truth a) b i k = tt
width-proper f h (bits m s) (truth b) i k = tt
width-proper f h (bits m s) (bits n t) i k = by (eqb m n) refl
  where
    by : (q : Bool) → eqb m n ≡ q → Proper (elim q [ true ↦ f m s t | false ↦ rejected ])
    by true e = h m s t i (subst (λ (w : ℕ). t < 2 ^ w) (sym (eqb-true m n e)) k)
    by false e = tt
width-proper f h (bits m s) rejected i k = tt
width-proper f h rejected b i k = tt

sort-proper : (f : (s : Sort) → Val s → Val s → Value) → ((a b : Bool) → Proper (f bool a b)) → ((m s t : ℕ) → s < 2 ^ m → t < 2 ^ m → Proper (f (bit_vec m) s t)) → Proper2 (on_sort f)
sort-proper f h k (truth a) (truth b) i j = h a b
sort-proper f h k (truth a) (bits n t) i j = tt
sort-proper f h k (truth a) rejected i j = tt
sort-proper f h k (bits m s) b i j = width-proper (λ w. f (bit_vec w)) k (bits m s) b i j
sort-proper f h k rejected b i j = tt

choice-proper : (f : (s : Sort) → Bool → Val s → Val s → Val s) → Kept choice f → (c a b : Value) → Proper a → Proper b → Proper (on_choice f c a b)
choice-proper f h (truth c) a b i j = sort-proper (λ s x y. sorted s (f s c x y)) (λ x y. tt) (λ m x y. h m c x y) a b i j
choice-proper f h (bits m s) a b i j = tt
choice-proper f h rejected a b i j = tt

-- ---- lists of arguments

abbrev AllProper : List Value → Type 0
AllProper [] = Unit {0}
AllProper (v ∷ vs) = Proper v × AllProper vs

on0-proper : (a : Value) → Proper a → (vs : List Value) → Proper (exactly0 rejected a vs)
on0-proper a h [] = h
on0-proper a h (v ∷ vs) = tt

both-proper : (a b : Value) → Proper (both a b)
both-proper (truth a) (truth b) = tt
both-proper (truth a) (bits n t) = tt
both-proper (truth a) rejected = tt
both-proper (bits m s) b = tt
both-proper rejected b = tt

module _ (f : Value → Value → Value) (h : Proper2 f) where
  left-proper : (a : Value) (vs : List Value) → Proper a → AllProper vs → Proper (from_left f a vs)
  left-proper a [] i k = i
  left-proper a (b ∷ vs) i k = left-proper (f a b) vs (h a b i k.0) k.1

  right-proper : (a : Value) (vs : List Value) → Proper a → AllProper vs → Proper (from_right f a vs)
  right-proper a [] i k = i
  right-proper a (b ∷ vs) i k = h a (from_right f b vs) i (right-proper b vs k.0 k.1)

  chain-proper : (a b : Value) (vs : List Value) → Proper a → Proper b → Proper (in_chain f a b vs)
  chain-proper a b [] i j = h a b i j
  chain-proper a b (c ∷ vs) i j = both-proper (f a b) (in_chain f b c vs)

  pairs-proper : (a b : Value) (vs : List Value) → Proper a → Proper b → Proper (in_pairs f a b vs)
  pairs-proper a b [] i j = h a b i j
  pairs-proper a b (c ∷ vs) i j = both-proper (with_each f a b (c ∷ vs)) (in_pairs f b c vs)

  attribute-proper : (t : Attribute) (vs : List Value) → AllProper vs → Proper (by_attribute t f vs)
  attribute-proper two [] k = tt
  attribute-proper two (a ∷ []) k = tt
  attribute-proper two (a ∷ b ∷ vs) k = on0-proper (f a b) (h a b k.0 k.1.0) vs
  attribute-proper left-assoc [] k = tt
  attribute-proper left-assoc (a ∷ []) k = tt
  attribute-proper left-assoc (a ∷ b ∷ vs) k = left-proper (f a b) vs (h a b k.0 k.1.0) k.1.1
  attribute-proper right-assoc [] k = tt
  attribute-proper right-assoc (a ∷ []) k = tt
  attribute-proper right-assoc (a ∷ b ∷ vs) k = right-proper a (b ∷ vs) k.0 k.1
  attribute-proper chained [] k = tt
  attribute-proper chained (a ∷ []) k = tt
  attribute-proper chained (a ∷ b ∷ vs) k = chain-proper a b vs k.0 k.1.0
  attribute-proper pairs [] k = tt
  attribute-proper pairs (a ∷ []) k = tt
  attribute-proper pairs (a ∷ b ∷ vs) k = pairs-proper a b vs k.0 k.1.0

applied-proper : (g : Signature) (f : Meaning g) → Kept g f → (vs : List Value) → AllProper vs → Proper (applied g f vs)
applied-proper constant b h vs k = on0-proper (truth b) tt vs
applied-proper truths1 f h [] k = tt
applied-proper truths1 f h (a ∷ vs) k = on0-proper (on_truth f a) (truth-proper f a) vs
applied-proper (truths2 t) f h vs k = attribute-proper (on_truths f) (truths-proper f) t vs k
applied-proper (relation t) f h vs k =
    attribute-proper (on_sort (λ s x y. truth (f s x y))) (sort-proper (λ s x y. truth (f s x y)) (λ a b. tt) (λ m x y i j. tt)) t vs k
applied-proper choice f h [] k = tt
applied-proper choice f h (c ∷ []) k = tt
applied-proper choice f h (c ∷ a ∷ []) k = tt
applied-proper choice f h (c ∷ a ∷ b ∷ vs) k = on0-proper (on_choice f c a b) (choice-proper f h c a b k.1.0 k.1.1.0) vs
applied-proper vectors1 f h [] k = tt
applied-proper vectors1 f h (a ∷ vs) k = on0-proper (on_bits f a) (bits-proper f h a k.0) vs
applied-proper (vectors2 t) f h vs k = attribute-proper (on_width (λ m x y. bits m (f m x y))) (width-proper (λ m x y. bits m (f m x y)) h) t vs k
applied-proper (order t) f h vs k = attribute-proper (on_width (λ m x y. truth (f m x y))) (width-proper (λ m x y. truth (f m x y)) (λ m x y i j. tt)) t vs k

application-proper : (r : Option FunctionRow) → KeptIn r → (vs : List Value) → AllProper vs → Proper (application r vs)
application-proper none h vs k = tt
application-proper (some r) h [] k = tt
application-proper (some r) h (v ∷ vs) k = applied-proper r.signature r.meaning h (v ∷ vs) k

-- ---- terms whose numbers have digits of their base

number16 : (a n : ℕ) (ds : List ℕ) → n < 2 ^ a → Digits 16 ds → number_from 16 n ds < 2 ^ (a + 4 * length ds)
number16 a n [] h k =
    let e : a + 4 * 0 ≡ a = omega arith in
    rw e h
number16 a n (d ∷ ds) h k =
    let e : a + 4 * suc (length ds) ≡ suc (suc (suc (suc a))) + 4 * length ds = omega arith in
    rw e (number16 (suc (suc (suc (suc a)))) (n * 16 + d) ds (omega (arith, k.0)) k.1)

number2 : (a n : ℕ) (ds : List ℕ) → n < 2 ^ a → Digits 2 ds → number_from 2 n ds < 2 ^ (a + length ds)
number2 a n [] h k =
    let e : a + 0 ≡ a = omega arith in
    rw e h
number2 a n (d ∷ ds) h k =
    let e : a + suc (length ds) ≡ suc a + length ds = omega arith in
    rw e (number2 (suc a) (n * 2 + d) ds (omega (arith, k.0)) k.1)

module _ (env : Environment) (h : (n : List ℕ) → Proper (env n)) where
  symbol-proper : (n : List ℕ) (r : Option FunctionRow) → KeptIn r → Proper (symbol_value r (env n))
  symbol-proper n none k = h n
  symbol-proper n (some r) k = applied-proper r.signature r.meaning k [] tt

  atom-proper : (a : Atom) → GoodAtom a → Proper (atom_value env a)
  unfolding atom_value
  atom-proper (symbol n) g = symbol-proper n (function n) (function-kept n)
  atom-proper (reserved w) g = tt
  atom-proper (numeral ds) g = tt
  atom-proper (hexadecimal ds) g =
      let e : 0 + 4 * length ds ≡ 4 * length ds = omega arith in
      rw e at (number16 0 0 ds (pow_pos 0) g)
  atom-proper (binary ds) g =
      let e : 0 + length ds ≡ length ds = omega arith in
      rw e at (number2 0 0 ds (pow_pos 0) g)
  atom-proper (keyword w) g = tt

  headed-kept : (o : Option (List ℕ)) → KeptIn (and_then o function)
  headed-kept none = tt
  headed-kept (some n) = function-kept n

  mutual
    unfolding value values

    pub value-proper : (e : Sexp) → Good e → Proper (value env e)
    value-proper (atom a) g = atom-proper a g
    value-proper nil g = tt
    value-proper (cons x s) g = application-proper (and_then (symbol_in x) function) (headed-kept (symbol_in x)) (values env s) (values-proper s g.1)

    values-proper : (s : Sexp) → Good s → AllProper (values env s)
    values-proper (atom a) g = (tt, tt)
    values-proper nil g = tt
    values-proper (cons x s) g = (value-proper x g.0, values-proper s g.1)

-- ---- settings

at-proper : (s : Sort) (n : ℕ) → n < sort_size s → Proper (value_at s n)
at-proper bool n h = tt
at-proper (bit_vec m) n h = h

pub environment-proper : (ds : List Declaration) (s : List ℕ) → Assigns ds s → (n : List ℕ) → Proper (environment ds s n)
unfolding environment
environment-proper [] s f n = tt
environment-proper (d ∷ ds) [] f n = tt
environment-proper (d ∷ ds) (k ∷ s) f n = by (same_bytes d.name n) (environment-proper ds s f.1 n)
  where
    by : (q : Bool) → Proper (environment ds s n) → Proper (elim q [ true ↦ value_at d.sort k | false ↦ environment ds s n ])
    by true w = at-proper d.sort k f.0
    by false w = w

pub setting-proper : (ds : List Declaration) (s : List ℕ) → Assigns ds s → (e : Sexp) → Good e → Proper (value (environment ds s) e)
setting-proper ds s f e g = value-proper (environment ds s) (environment-proper ds s f) e g
