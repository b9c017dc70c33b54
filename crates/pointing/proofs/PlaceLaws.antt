-- Places of names and of nodes' words: how many there are, and which comes where. Assumes nothing.
use Prim.Native.Nat.{ℕ, zero, suc, ◌+◌, ◌<◌, ◌≤◌}
use mathlib.Core.Path.{◌≡◌, refl, sym, ap, ap₂, ◌∙◌}
use mathlib.Core.Bool.{Bool, true, false, cond}
use mathlib.Core.List.{List, [], ◌∷◌, ◌++◌, append_assoc, append-nil}
use mathlib.Core.Logic.{◌⊎◌, inl, inr}
use mathlib.Core.Option.{Option, none, some}
use native.Mathlib.Omega.{arith}
use lib.ListN.{length, length-append}
use lib.Dec.{eqb}
use borrow.Author.Tests.{ne_eqb, eqb-true}
use Rattle.std.specs.Prelude.{Result, Ok, Err, Some, None}
use Rattle.std.specs.Result.{result_ok}
use Rattle.meaning.specs.Rule as rule
use Rattle.refusals.specs.declared.Cause.{Cause}
use Rattle.refusals.specs.declared.Cause.TheVariants.{Length, Check, Edition, Counts, Variable, Node, Sort, Range, Room, Cases, Reply, Value, Holds, Text, Word}
use Rattle.refusals.specs.declared.Refusal.{Refusal}
use Rattle.refusals.specs.Causes.{number_of, with_number, caused_by, cause_of}
use Rattle.refusals.proofs.SaidLaws.{caused-by-number}
use Rattle.texts.specs.Expressions.{Expression, bare, number, variable, one, two, three, records_of, Draft}
use Rattle.texts.specs.Plain.{plain_of, spelled, variable_line}
use Rattle.texts.proofs.CountLaws.{node_count, count-one, count-two, count-three}
use Rattle.pointing.specs.Pointing.{name_places, word_places, goal_place, nth, pointed_at}
use Rattle.pointing.specs.Standing.{operands_in, nodes_in, head_of, bytes_in, places_in}

-- ---- by number

pub nth-front : (xs ys : List ℕ) (n : ℕ) → n < length xs → nth (xs ++ ys) n ≡ nth xs n
nth-front [] ys n l = absurd (omega arith)
nth-front (x ∷ xs) ys zero l = refl
nth-front (x ∷ xs) ys (suc n) l = nth-front xs ys n (omega arith)

pub nth-behind : (xs ys : List ℕ) (n : ℕ) → nth (xs ++ ys) (length xs + n) ≡ nth ys n
nth-behind [] ys n = let e : 0 + n ≡ n = omega arith in ap (nth ys) e
nth-behind (x ∷ xs) ys n = let e : suc (length xs) + n ≡ suc (length xs + n) = omega arith in ap (nth (x ∷ (xs ++ ys))) e ∙ nth-behind xs ys n

pub nth_last : (xs : List ℕ) (x : ℕ) → nth (xs ++ (x ∷ [])) (length xs) ≡ some x
nth_last [] x = refl
nth_last (y ∷ xs) x = nth_last xs x

pub nth_past : (xs : List ℕ) (n : ℕ) → length xs ≤ n → nth xs n ≡ none
nth_past [] n l = refl
nth_past (x ∷ xs) zero l = absurd (omega arith)
nth_past (x ∷ xs) (suc n) l = nth_past xs n (omega arith)

-- ---- names

pub name-places-count : (vs : List rule.Variable) (p : ℕ) → length (name_places vs p) ≡ length vs
name-places-count [] p = refl
name-places-count (v ∷ vs) p = ap suc (name-places-count vs (p + length (variable_line v)))

pub no_name : (vs : List rule.Variable) (i : ℕ) {n : ℕ} → n ≡ length vs → n ≤ i → none ≡ nth (name_places vs 0) i
no_name vs i e l = sym (nth_past (name_places vs 0) i (omega (arith, name-places-count vs 0)))

-- ---- nodes

pub nodes-open : (e : Expression) → node_count e ≡ suc (nodes_in (operands_in e))
unfolding records_of
nodes-open (bare k) = refl
nodes-open (number z) = refl
nodes-open (variable i) = refl
nodes-open (one k a) = omega (arith, count-one k a)
nodes-open (two k a b) = omega (arith, count-two k a b)
nodes-open (three k a b c) = omega (arith, count-three k a b c)

pub nodes-append : (es fs : List Expression) → nodes_in (es ++ fs) ≡ nodes_in es + nodes_in fs
nodes-append [] fs = omega arith
nodes-append (e ∷ es) fs = omega (arith, nodes-append es fs)

module _ (vs : List rule.Variable) where
  pub bytes-open : (e : Expression) → length (spelled vs e) ≡ length (head_of vs e) + bytes_in vs (operands_in e)
  unfolding spelled
  bytes-open (bare k) = omega arith
  bytes-open (number z) = omega arith
  bytes-open (variable i) = omega arith
  bytes-open (one k a) = simp length-append (omega arith)
  bytes-open (two k a b) = simp length-append (omega arith)
  bytes-open (three k a b c) = simp length-append (omega arith)

  pub bytes-append : (es fs : List Expression) → bytes_in vs (es ++ fs) ≡ bytes_in vs es + bytes_in vs fs
  bytes-append [] fs = omega arith
  bytes-append (e ∷ es) fs = omega (arith, bytes-append es fs)

  -- at least a byte for each expression, and for each node
  pub bytes-many : (es : List Expression) → length es ≤ bytes_in vs es
  bytes-many [] = omega arith
  bytes-many (e ∷ es) = omega (arith, bytes-many es)

  pub node-bytes : (e : Expression) → node_count e ≤ length (spelled vs e) + 1
  node-bytes (bare k) = omega (arith, nodes-open (bare k))
  node-bytes (number z) = omega (arith, nodes-open (number z))
  node-bytes (variable i) = omega (arith, nodes-open (variable i))
  node-bytes (one k a) = omega (arith, nodes-open (one k a), bytes-open (one k a), node-bytes a)
  node-bytes (two k a b) = omega (arith, nodes-open (two k a b), bytes-open (two k a b), node-bytes a, node-bytes b)
  node-bytes (three k a b c) = omega (arith, nodes-open (three k a b c), bytes-open (three k a b c), node-bytes a, node-bytes b, node-bytes c)

  pub nodes-bytes : (es : List Expression) → nodes_in es ≤ bytes_in vs es
  nodes-bytes [] = omega arith
  nodes-bytes (e ∷ es) = omega (arith, node-bytes e, nodes-bytes es)

  -- an expression's nodes are those of its operands, and then its own
  pub places-open : (e : Expression) (p : ℕ) → word_places vs e p ≡ places_in vs (operands_in e) (p + length (head_of vs e) + 1) ++ (p ∷ [])
  unfolding word_places
  places-open (bare k) p = refl
  places-open (number z) p = refl
  places-open (variable i) p = refl
  places-open (one k a) p = simp append-nil
  places-open (two k a b) p = simp (append_assoc, append-nil)
  places-open (three k a b c) p = simp (append_assoc, append-nil)

  -- there are as many places as nodes
  pub word-places-count : (e : Expression) (p : ℕ) → length (word_places vs e p) ≡ node_count e
  unfolding word_places
  word-places-count (bare k) p = sym (nodes-open (bare k))
  word-places-count (number z) p = sym (nodes-open (number z))
  word-places-count (variable i) p = sym (nodes-open (variable i))
  word-places-count (one k a) p =
      let q : ℕ = p + length (plain_of k) + 1 in
      length-append (word_places vs a q) (p ∷ []) ∙ omega (arith, word-places-count a q, count-one k a)
  word-places-count (two k a b) p =
      let q : ℕ = p + length (plain_of k) + 1 in
      let r : ℕ = q + length (spelled vs a) + 1 in
      simp length-append (omega (arith, word-places-count a q, word-places-count b r, count-two k a b))
  word-places-count (three k a b c) p =
      let q : ℕ = p + length (plain_of k) + 1 in
      let r : ℕ = q + length (spelled vs a) + 1 in
      let t : ℕ = r + length (spelled vs b) + 1 in
      simp length-append (omega (arith, word-places-count a q, word-places-count b r, word-places-count c t, count-three k a b c))

  pub no_word : (e : Expression) (p n : ℕ) {count : ℕ} → count ≡ node_count e → count ≤ n → none ≡ nth (word_places vs e p) n
  no_word e p n h l = sym (nth_past (word_places vs e p) n (omega (arith, word-places-count e p)))

  pub places_count : (es : List Expression) (p : ℕ) → length (places_in vs es p) ≡ nodes_in es
  places_count [] p = refl
  places_count (e ∷ es) p =
      let q : ℕ = p + length (spelled vs e) + 1 in
      length-append (word_places vs e p) (places_in vs es q) ∙ ap₂ ◌+◌ (word-places-count e p) (places_count es q)

-- ---- where a refusal points

-- by the cause that its number has
abbrev points : Draft → ℕ → Option Cause → Option ℕ
points d p (some Variable) = nth (name_places d.variables 0) p
points d p (some Sort) = nth (word_places d.variables d.goal (goal_place d.variables)) p
points d p (some Range) = nth (word_places d.variables d.goal (goal_place d.variables)) p
points d p _ = none

points-caused : (d : Draft) (p : ℕ) (c : Cause) → pointed_at d (record { number = number_of c; place = p }) ≡ points d p (some c)
unfolding pointed_at
points-caused d p Variable = refl
points-caused d p Sort = refl
points-caused d p Range = refl
points-caused d p _ = refl

abbrev causes : List Cause
causes = Length ∷ Check ∷ Edition ∷ Counts ∷ Variable ∷ Node ∷ Sort ∷ Range ∷ Room ∷ Cases ∷ Reply ∷ Value ∷ Holds ∷ Text ∷ Word ∷ []

with-number-is : (cs : List Cause) (n : ℕ) (c : Cause) → with_number cs n ≡ some c → number_of c ≡ n
with-number-is [] n c e = cc
with-number-is (k ∷ cs) n c e = by (eqb (number_of k) n) refl e (with-number-is cs n c)
  where
    by : (b : Bool) → eqb (number_of k) n ≡ b → cond b (some k) (with_number cs n) ≡ some c → (with_number cs n ≡ some c → number_of c ≡ n) → number_of c ≡ n
    by true t f g = let h : k ≡ c = cc in ap number_of (sym h) ∙ eqb-true _ _ t
    by false t f g = g f

points-of : (d : Draft) (r : Refusal) (o : Option Cause) → o ≡ caused_by r.number → points d r.place o ≡ pointed_at d r
unfolding pointed_at
points-of d r (some c) e =
    let n : number_of c ≡ r.number = with-number-is causes r.number c (sym e) in
    sym (points-caused d r.place c) ∙ ap (λ (m : ℕ). pointed_at d (record { number = m; place = r.place })) n
points-of d r none e =
    let away : (c : Cause) → r.number ≡ number_of c → ⊥ = λ c h. let k : caused_by r.number ≡ some c = ap caused_by h ∙ caused-by-number c in cc in
    rw (ne_eqb r.number 5 (away Variable), ne_eqb r.number 7 (away Sort), ne_eqb r.number 8 (away Range))

-- by what the conversion of its number gives
module _ (d : Draft) (r : Refusal) (t : Result Cause Unit) (e : cause_of t ≡ caused_by r.number) where
  given : (t : Result Cause Unit) (c : Cause) → Some c ≡ result_ok t → some c ≡ cause_of t
  given (Ok k) c h = let q : c ≡ k = cc in ap some q
  given (Err u) c h = cc

  pub points-nowhere : None ≡ result_ok t → none ≡ pointed_at d r
  points-nowhere h = points-of d r none (lost t h ∙ e)
    where
      lost : (t : Result Cause Unit) → None ≡ result_ok t → none ≡ cause_of t
      lost (Ok k) h = cc
      lost (Err u) h = refl

  module _ {c : Cause} (h : Some c ≡ result_ok t) where
    points-there : points d r.place (some c) ≡ pointed_at d r
    points-there = points-of d r (some c) (given t c h ∙ e)

    pub points-name : c ≡ Variable → nth (name_places d.variables 0) r.place ≡ pointed_at d r
    points-name q = ap (λ (k : Cause). points d r.place (some k)) (sym q) ∙ points-there

    pub points-word : (c ≡ Sort) ⊎ (c ≡ Range) → nth (word_places d.variables d.goal (goal_place d.variables)) r.place ≡ pointed_at d r
    points-word (inl q) = ap (λ (k : Cause). points d r.place (some k)) (sym q) ∙ points-there
    points-word (inr q) = ap (λ (k : Cause). points d r.place (some k)) (sym q) ∙ points-there

    pub points-other : (c ≡ Variable → ⊥) → (c ≡ Sort → ⊥) → (c ≡ Range → ⊥) → none ≡ pointed_at d r
    points-other v s w = other c v s w ∙ points-there
      where
        other : (c : Cause) → (c ≡ Variable → ⊥) → (c ≡ Sort → ⊥) → (c ≡ Range → ⊥) → none ≡ points d r.place (some c)
        other Variable v s w = absurd (v refl)
        other Sort v s w = absurd (s refl)
        other Range v s w = absurd (w refl)
        other _ v s w = refl
