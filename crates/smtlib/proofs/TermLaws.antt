-- The values of atoms and applications, and of four digits, by the signature of the function and the sorts of its arguments. Assumes nothing.
use mathlib.Core.Path.{◌≡◌, refl, ap, ◌∙◌}
use mathlib.Core.Bool.{Bool, true, false}
use mathlib.Core.List.{List, [], ◌∷◌}
use mathlib.Core.Option.{none, some}
use Prim.Native.Nat.{ℕ, ◌+◌, ◌*◌, ◌/◌, ◌%◌, ◌<◌}
use native.Mathlib.Omega.{arith}
use lib.ListN.{length}
use borrow.Author.Tests.{eq-eqb}
use Rattle.smtlib.specs.Tokens.{symbol, hexadecimal, binary}
use Rattle.smtlib.specs.Sexps.{Sexp, atom, nil, cons}
use Rattle.smtlib.specs.Values.{Sort, bool, bit_vec, Val, Value, truth, bits, rejected, sorted, on_width, on_sort}
use Rattle.smtlib.specs.Theory.{Attribute, two, left-assoc, right-assoc, chained, pairs, Signature, constant, truths1, truths2, relation, choice, vectors1, vectors2, order, Meaning, by_attribute, function}
use Rattle.smtlib.specs.Terms.{Environment, number_of, atom_value, value}

-- ---- a number of 16 bits by four hexadecimal digits
abbrev pub four_digits : ℕ → List ℕ
four_digits x = x / 4096 % 16 ∷ x / 256 % 16 ∷ x / 16 % 16 ∷ x % 16 ∷ []

pub four-number : (x : ℕ) → x < 65536 → number_of 16 (four_digits x) ≡ x
four-number x h =
    let a : 0 * 16 + x / 4096 % 16 ≡ x / 4096 = omega arith in
    let b : x / 4096 * 16 + x / 256 % 16 ≡ x / 256 = omega arith in
    let c : x / 256 * 16 + x / 16 % 16 ≡ x / 16 = omega arith in
    let d : x / 16 * 16 + x % 16 ≡ x = omega arith in
    rw (a, b, c, d)

-- ---- (n a), (n a b), (n a b c)
abbrev pub call1 : List ℕ → Sexp → Sexp
call1 n a = cons (atom (symbol n)) (cons a nil)

abbrev pub call2 : List ℕ → Sexp → Sexp → Sexp
call2 n a b = cons (atom (symbol n)) (cons a (cons b nil))

abbrev pub call3 : List ℕ → Sexp → Sexp → Sexp → Sexp
call3 n a b c = cons (atom (symbol n)) (cons a (cons b (cons c nil)))

-- the table has this function under this name
abbrev pub Means : List ℕ → (g : Signature) → Meaning g → Type 0
Means n g f = function n ≡ some (record { signature = g; meaning = f })

-- ---- arguments of one width, and of one sort
pub one_width : (f : ℕ → ℕ → ℕ → Value) (m s t : ℕ) → on_width f (bits m s) (bits m t) ≡ f m s t
one_width f m s t = ap (λ (q : Bool). elim q as (λ _. Value) [ true ↦ f m s t | false ↦ rejected ]) (eq-eqb m m refl)

pub one-sort : (f : (s : Sort) → Val s → Val s → Value) (s : Sort) (x y : Val s) → on_sort f (sorted s x) (sorted s y) ≡ f s x y
one-sort f bool x y = refl
one-sort f (bit_vec m) x y = one_width (λ w. f (bit_vec w)) m x y

-- two arguments are taken alike, whatever the attribute
pub two-arguments : (t : Attribute) (f : Value → Value → Value) (a b : Value) → by_attribute t f (a ∷ b ∷ []) ≡ f a b
two-arguments two f a b = refl
two-arguments left-assoc f a b = refl
two-arguments right-assoc f a b = refl
two-arguments chained f a b = refl
two-arguments pairs f a b = refl

module _ (env : Environment) where
  -- ---- atoms
  pub value-symbol : (n : List ℕ) → function n ≡ none → value env (atom (symbol n)) ≡ env n
  unfolding value atom_value
  value-symbol n e = rw e

  pub value-hexadecimal : (ds : List ℕ) → value env (atom (hexadecimal ds)) ≡ bits (4 * length ds) (number_of 16 ds)
  unfolding value atom_value
  value-hexadecimal ds = refl

  pub value-binary : (ds : List ℕ) → value env (atom (binary ds)) ≡ bits (length ds) (number_of 2 ds)
  unfolding value atom_value
  value-binary ds = refl

  pub value-constant : (n : List ℕ) {b : Bool} → Means n constant b → value env (atom (symbol n)) ≡ truth b
  unfolding value atom_value
  value-constant n e = rw e

  -- ---- applications
  module _ (n : List ℕ) where
    pub value-truths1 : {f : Bool → Bool} → Means n truths1 f → (a : Sexp) {x : Bool} → value env a ≡ truth x → value env (call1 n a) ≡ truth (f x)
    unfolding value
    value-truths1 e a p = rw (e, p)

    pub value-vectors1 : {f : ℕ → ℕ → ℕ} → Means n vectors1 f → (a : Sexp) {m s : ℕ} → value env a ≡ bits m s → value env (call1 n a) ≡ bits m (f m s)
    unfolding value
    value-vectors1 e a p = rw (e, p)

    module _ (a b : Sexp) where
      pub value-left : {f : Bool → Bool → Bool} → Means n (truths2 left-assoc) f → {x y : Bool} → value env a ≡ truth x → value env b ≡ truth y → value env (call2 n a b) ≡ truth (f x y)
      unfolding value
      value-left e p q = rw (e, p, q)

      pub value-right : {f : Bool → Bool → Bool} → Means n (truths2 right-assoc) f → {x y : Bool} → value env a ≡ truth x → value env b ≡ truth y → value env (call2 n a b) ≡ truth (f x y)
      unfolding value
      value-right e p q = rw (e, p, q)

      pub value-relation : {f : (s : Sort) → Val s → Val s → Bool} → Means n (relation chained) f → (s : Sort) (x y : Val s) → value env a ≡ sorted s x → value env b ≡ sorted s y → value env (call2 n a b) ≡ truth (f s x y)
      unfolding value
      value-relation {f} e s x y p q = rw (e, p, q) (one-sort (λ s x y. truth (f s x y)) s x y)

      pub value-vectors2 : {f : ℕ → ℕ → ℕ → ℕ} (at : Attribute) → Means n (vectors2 at) f → {m s t : ℕ} → value env a ≡ bits m s → value env b ≡ bits m t → value env (call2 n a b) ≡ bits m (f m s t)
      unfolding value
      value-vectors2 {f} at e {m} {s} {t} p q = rw (e, p, q) (two-arguments at (on_width (λ m s t. bits m (f m s t))) (bits m s) (bits m t) ∙ one_width (λ m s t. bits m (f m s t)) m s t)

      pub value-order : {f : ℕ → ℕ → ℕ → Bool} → Means n (order two) f → {m s t : ℕ} → value env a ≡ bits m s → value env b ≡ bits m t → value env (call2 n a b) ≡ truth (f m s t)
      unfolding value
      value-order {f} e {m} {s} {t} p q = rw (e, p, q) (one_width (λ m s t. truth (f m s t)) m s t)

      pub value-choice : {f : (s : Sort) → Bool → Val s → Val s → Val s} → Means n choice f → (c : Sexp) {z : Bool} (s : Sort) (x y : Val s)
          → value env c ≡ truth z → value env a ≡ sorted s x → value env b ≡ sorted s y → value env (call3 n c a b) ≡ sorted s (f s z x y)
      unfolding value
      value-choice {f} e c {z} s x y o p q = rw (e, o, p, q) (one-sort (λ s x y. sorted s (f s z x y)) s x y)
