-- The reading of the nodes: what is known before each turn of its loop, and what a turn makes of it. Assumes nothing.
use Prim.Native.Nat.{ℕ, zero, suc, ◌+◌, ◌-◌, ◌≤◌, ◌<◌}
use mathlib.Core.Path.{◌≡◌, refl, sym, ap, ap₂, ◌∙◌, fun_ext}
use mathlib.Core.Logic.{⊎_elim}
use mathlib.Core.Bool.{Bool, true, false, true≢false, ◌&&◌}
use mathlib.Core.List.{List, [], ◌∷◌}
use mathlib.Core.Option.{none, some}
use native.Mathlib.Nat.{zero-add}
use native.Mathlib.Numerals.{add-one}
use native.Mathlib.Decide.{dec_lt, ℕ_discrete}
use native.Mathlib.Omega.{arith}
use lib.ListN.{length, get_or, set, replicate, length-set}
use lib.Seq.{get_or-set_same, get_or-set_other}
use Rattle.lists.specs.Places.{at}
use Rattle.lists.specs.Course.{below, course}
use Rattle.lists.proofs.CourseLaws.{below-is, below_last, below_other, filled_none, filled_more}
use Rattle.lists.proofs.FirstLaws.{neither, otherwise-none, otherwise-some, none_first, some_first}
use Rattle.meaning.specs.declared.Sort.{Sort}
use Rattle.kinds.specs.declared.Record.{Record}
use Rattle.kinds.specs.declared.Shape.{Shape}
use Rattle.kinds.specs.declared.Shape.TheVariants.{Wrong, Bare, Valued, Named, One, Two, Three}
use Rattle.layout.specs.Limits.{block_bytes, most_variables, most_nodes}
use Rattle.layout.specs.Starts.{shape_at, sort_at, operands_of, sorts_of, start_by, start_step, start_at, Ordered, VariableBelow}
use Rattle.layout.specs.Parts.{node_count, goal_at, variable_count, table}
use Rattle.layout.specs.Fold.{found_by, node_step, of_node}
use Rattle.layout.proofs.StartLaws.{Before}
use Rattle.refusals.proofs.SaidLaws.{unless-none, unless-true, unless-false}
use Rattle.header.specs.Header.{Counted}
use Rattle.header.proofs.HeaderLaws.{block_inside}
use Rattle.order.specs.Order.{rightly_placed, Falling}
use Rattle.order.proofs.OrderLaws.{Keeps, decides-keeps, ordered-before, known-low, known_start, known-placed}
use Rattle.findings.specs.declared.Finding.{Finding}
use Rattle.findings.specs.declared.Finding.TheVariants.{Truth}
use Rattle.findings.specs.declared.kept.Kept.{Kept}
use Rattle.refusals.specs.declared.Cause.{Cause}
use Rattle.refusals.specs.Causes.{refusal_of}
use Rattle.std.proofs.Common.{Result, Ok, Err, MatchResult, is_ok, IsErrAnd}
use Rattle.findings.specs.Findings.{sort_of, finding_of, domain_at, finding_at, finding_fits, FindingFits}
use Rattle.findings.specs.Steps.{Step, same_sort, are_sorted, step_of, Reaches}
use Rattle.findings.specs.Kept.{packed_of, unpacked_of, findings_in}
use Rattle.findings.proofs.FindingLaws.{found-sort, fits-of, good-step, bad-step}
use Rattle.findings.proofs.PackedLaws.{unpack-packed}
use Rattle.nodes.specs.Nodes.{typed, node_refusal, goal_refusal, nodes}

-- the sort of a node's finding is the sort that its kind gives
pub finding-sort : (s : List ℕ) (n : ℕ) → sort_of (finding_at s n) ≡ sort_at (table s) n
unfolding of_node course
finding-sort s n = found-sort (domain_at s) (table s n).kind _

-- a node's finding from those of the nodes before it
abbrev pub step : List ℕ → ℕ → (ℕ → Finding) → Finding
step s = node_step (finding_of (domain_at s)) (table s)

-- a result whose error is told another way: what it was
pub was_ok : {T E D : Type 0} (r : Result T E) {m : Result T D} {x : T} (Q : E → Type 0) → MatchResult r (λ y. m ≡ Ok y) Q → is_ok m ≡ is_ok r → m ≡ Ok x → r ≡ Ok x
was_ok (Ok y) Q p v e = cc
was_ok (Err d) Q p v e = absurd (true≢false (sym (ap is_ok e) ∙ v))

pub was_err : {T E D : Type 0} (r : Result T E) {m : Result T D} {e : D} (Q : E → D → Type 0) → MatchResult r (λ y. m ≡ Ok y) (λ d. IsErrAnd m (Q d)) → is_ok m ≡ is_ok r → m ≡ Err e → (d : E) × (r ≡ Err d) × Q d e
was_err (Ok y) Q p v q = absurd (true≢false (sym v ∙ ap is_ok q))
was_err (Err d) Q p v q = (d, refl, rw q at p)

-- what is known before the turn at i of n nodes over v variables: the arrays have what is found before i, and no node before i is refused
pub record Going (s : List ℕ) (n v : ℕ) (starts : List ℕ) (findings : List Kept) (i : ℕ) : Type 0 where
  pub counted : Counted most_nodes s
  pub nodes-are : n ≡ node_count s
  pub variables-are : v ≡ variable_count s
  pub le : i ≤ n
  pub starts-size : length starts ≡ most_nodes
  pub findings-size : length findings ≡ most_nodes
  pub starts-are : at 0 starts ≡ below 0 (start_step (table s)) i
  pub findings-are : findings_in findings ≡ below Truth (step s) i
  pub passed : (j : ℕ) → j < i → node_refusal s j ≡ none

-- of an array that is full of a truth value
full : (k j : ℕ) → findings_in (replicate k Kept.Truth) j ≡ Truth
full zero j = refl
full (suc k) zero = refl
full (suc k) (suc j) = full k j

pub begin : {s : List ℕ} {n v : ℕ} → Counted most_nodes s → n ≡ node_count s → v ≡ variable_count s → Going s n v (replicate most_nodes 0) (replicate most_nodes Kept.Truth) 0
unfolding below
begin {s} c en ev = record {
  counted = c;
  nodes-are = en;
  variables-are = ev;
  le = omega arith;
  starts-size = refl;
  findings-size = refl;
  starts-are = filled_none 0 (start_step (table s)) most_nodes;
  findings-are = fun_ext (full most_nodes);
  passed = λ j h. absurd (omega arith);
}

-- one more that is kept
packed_more : (f : ℕ → (ℕ → Finding) → Finding) (l : List Kept) (n : ℕ) (x : Finding) → n < length l → FindingFits x → findings_in l ≡ below Truth f n → x ≡ f n (below Truth f n)
    → findings_in (set l n (packed_of x)) ≡ below Truth f (suc n)
packed_more f l n x h w e ex = fun_ext (λ j. elim (ℕ_discrete j n) [ yes q ↦ here j q | no q ↦ there j q ])
  where
    here : (j : ℕ) → j ≡ n → findings_in (set l n (packed_of x)) j ≡ below Truth f (suc n) j
    here j q = ap (λ (i : ℕ). unpacked_of (get_or (set l n (packed_of x)) i Kept.Truth)) q ∙ ap unpacked_of (get_or-set_same l n (packed_of x) Kept.Truth h) ∙ unpack-packed x w ∙ ex ∙ sym (below_last Truth f n j q)

    there : (j : ℕ) → (j ≡ n → ⊥) → findings_in (set l n (packed_of x)) j ≡ below Truth f (suc n) j
    there j q = ap unpacked_of (get_or-set_other l n j (packed_of x) Kept.Truth q) ∙ ap (λ (g : ℕ → Finding). g j) e ∙ sym (below_other Truth f n j q)

-- sorts that agree on the operands
sorted-agree : {so so' : ℕ → Sort} {n : ℕ} (xs : List ℕ) (ss : List Sort) → Before n xs → ((j : ℕ) → j < n → so j ≡ so' j) → are_sorted so xs ss ≡ are_sorted so' xs ss
sorted-agree [] ss b e = refl
sorted-agree (x ∷ xs) [] b e = refl
sorted-agree {so} {so'} (x ∷ xs) (s ∷ ss) b e = ap₂ (λ (t : Sort) (m : Bool). same_sort t s && m) (e x b.0) (sorted-agree xs ss b.1 e)

-- operands before n, and a variable below v
reaches : {n : ℕ} (v : ℕ) (r : Record) (h : Shape) → n ≤ most_nodes → Before n (operands_of h r) → VariableBelow h r v → Reaches h r v
reaches v r Wrong l b w = tt
reaches v r Bare l b w = tt
reaches v r Valued l b w = tt
reaches v r Named l b w = w
reaches v r (One x) l b w = omega (arith, b.0)
reaches v r (Two x y) l b w = (omega (arith, b.1.0), omega (arith, b.0))
reaches v r (Three x y z) l b w = (omega (arith, b.1.1.0), omega (arith, b.1.0), omega (arith, b.0))

module _ (s : List ℕ) where
  refusal-parts : (n : ℕ) → node_refusal s n ≡ none → (rightly_placed (table s n) (variable_count s) n (start_at (table s)) ≡ true) × (typed (table s) n ≡ true) × (finding_fits (finding_at s n) ≡ true)
  unfolding node_refusal
  refusal-parts n e =
      let a = neither _ _ e in
      let b = neither _ _ a.1 in
      (unless-none _ 6 n a.0, unless-none _ 7 n b.0, unless-none _ 8 n b.1)

  refusal-6 : (n : ℕ) → rightly_placed (table s n) (variable_count s) n (start_at (table s)) ≡ false → node_refusal s n ≡ some (record { number = 6; place = n })
  unfolding node_refusal
  refusal-6 n e = otherwise-some _ (unless-false 6 n e)

  refusal-7 : (n : ℕ) → rightly_placed (table s n) (variable_count s) n (start_at (table s)) ≡ true → typed (table s) n ≡ false → node_refusal s n ≡ some (record { number = 7; place = n })
  unfolding node_refusal
  refusal-7 n p e = otherwise-none _ (unless-true 6 n p) ∙ otherwise-some _ (unless-false 7 n e)

  refusal-8 : (n : ℕ) → rightly_placed (table s n) (variable_count s) n (start_at (table s)) ≡ true → typed (table s) n ≡ true → finding_fits (finding_at s n) ≡ false → node_refusal s n ≡ some (record { number = 8; place = n })
  unfolding node_refusal
  refusal-8 n p t e = otherwise-none _ (unless-true 6 n p) ∙ (otherwise-none _ (unless-true 7 n t) ∙ unless-false 8 n e)

  no-refusal : (n : ℕ) → rightly_placed (table s n) (variable_count s) n (start_at (table s)) ≡ true → typed (table s) n ≡ true → finding_fits (finding_at s n) ≡ true → node_refusal s n ≡ none
  unfolding node_refusal
  no-refusal n p t e = otherwise-none _ (unless-true 6 n p) ∙ (otherwise-none _ (unless-true 7 n t) ∙ unless-true 8 n e)

module _ {s : List ℕ} {n v : ℕ} {starts : List ℕ} {findings : List Kept} {i : ℕ} (g : Going s n v starts findings i) where
  abbrev fi : ℕ → Finding
  fi = findings_in findings

  pub falling : Falling i starts
  falling j h = known-low (table s) i g.starts-are j

  -- a node before i was found to be what the specification says
  fi-is : (j : ℕ) → j < i → fi j ≡ finding_at s j
  unfolding of_node
  fi-is j h = ap (λ (k : ℕ → Finding). k j) g.findings-are ∙ below-is Truth (step s) i j h

  -- the first refusal is at i
  refused-at : {m : ℕ} → i < n → node_refusal s i ≡ some (record { number = m; place = i }) → some (record { number = m; place = i }) ≡ nodes s
  unfolding nodes
  refused-at h e = sym (otherwise-some _ (some_first (node_refusal s) (node_count s) 0 i (omega arith) (rw (zero-add, ← g.nodes-are) h) e (λ j l k. g.passed j k)))

  -- the turn at i, with the record r of node i and the test q of its place
  module _ (h : i < n) {r : Record} (er : r ≡ table s i) {q : Bool} (eq : q ≡ rightly_placed r v i (at 0 starts)) where
    placed-is : q ≡ rightly_placed (table s i) (variable_count s) i (start_at (table s))
    placed-is = eq ∙ rw (er, g.variables-are) (known-placed (table s) i g.starts-are (variable_count s))

    pub misplaced : q ≡ false → some (record { number = 6; place = i }) ≡ nodes s
    misplaced e = refused-at h (refusal-6 s i (sym placed-is ∙ e))

    module _ (p : q ≡ true) where
      kept : Keeps r v i (at 0 starts)
      kept = (decides-keeps r v i (at 0 starts)).0 (sym eq ∙ p)

      within : i ≤ most_nodes
      within = omega (arith, g.counted.most, g.nodes-are)

      -- what the subtree's start and the finding of node i ask
      pub start-ready : (i ≤ most_nodes) × Falling i starts × Ordered (at 0 starts) i (operands_of (shape_at r) r)
      start-ready = (within, falling, kept.ordered)

      before : Before i (operands_of (shape_at r) r)
      before = ordered-before (λ j l. falling j l) (operands_of (shape_at r) r) i (omega arith) kept.ordered

      pub step-ready : (block_bytes ≤ length s) × (variable_count s ≤ most_variables) × Reaches (shape_at r) r (variable_count s)
      step-ready = (block_inside g.counted, g.counted.few, rw (← g.variables-are) (reaches v r (shape_at r) within before kept.listed))

      -- the operands' sorts and findings are those of the specification
      typed-is : are_sorted (λ j. sort_of (fi j)) (operands_of (shape_at (table s i)) (table s i)) (sorts_of (shape_at (table s i))) ≡ typed (table s) i
      unfolding typed
      typed-is = sorted-agree (operands_of (shape_at (table s i)) (table s i)) (sorts_of (shape_at (table s i))) (rw er at before) (λ j l. ap sort_of (fi-is j l) ∙ finding-sort s j)

      whole_is : finding_of (domain_at s) (table s i).kind (found_by (shape_at (table s i)) (table s i) fi) ≡ finding_at s i
      unfolding of_node course
      whole_is = ap (λ (k : ℕ → Finding). step s i k) g.findings-are

      -- the answer at node i, from the findings of its operands
      module _ {x : Step} (ex : x ≡ step_of (domain_at s) r fi) where
        step_is : x ≡ step_of (domain_at s) (table s i) fi
        step_is = ex ∙ rw er

        placed-here : rightly_placed (table s i) (variable_count s) i (start_at (table s)) ≡ true
        placed-here = sym placed-is ∙ p

        pub refused : {m : Cause} → x ≡ Err m → some (refusal_of (record { cause = m; place = i })) ≡ nodes s
        refused {m} e =
            refused-at h
            (⊎_elim
            (λ w. rw w.0 (refusal-7 s i placed-here (sym typed-is ∙ w.1)))
            (λ w. rw w.0 (refusal-8 s i placed-here (sym typed-is ∙ w.1) (sym (ap finding_fits whole_is) ∙ w.2)))
            (bad-step (domain_at s) (table s i) fi (sym step_is ∙ e)))

        pub good-fits : {f : Finding} → x ≡ Ok f → FindingFits f
        good-fits {f} e = fits-of f (good-step (domain_at s) (table s i) fi (sym step_is ∙ e)).fits

        pub turn : {f : Finding} {t : ℕ} {m : Kept} → x ≡ Ok f → t ≡ start_by (shape_at r) r i (at 0 starts) → m ≡ packed_of f → Going s n v (set starts i t) (set findings i m) (i + 1)
        turn {f} {t} {m} e et em =
            let w = good-step (domain_at s) (table s i) fi (sym step_is ∙ e) in
            let d : f ≡ finding_at s i = w.is ∙ whole_is in
            let most = g.counted.most in
            let same = g.nodes-are in
            record {
              counted = g.counted;
              nodes-are = g.nodes-are;
              variables-are = g.variables-are;
              le = omega arith;
              starts-size = length-set starts i t ∙ g.starts-size;
              findings-size = length-set findings i m ∙ g.findings-size;
              starts-are = rw (add-one i) (filled_more 0 (start_step (table s)) starts i t (omega (arith, g.starts-size)) g.starts-are (et ∙ ap₂ (λ (a : Record) (k : ℕ → ℕ). start_by (shape_at a) a i k) er g.starts-are));
              findings-are = rw (add-one i, em) (packed_more (step s) findings i f (omega (arith, g.findings-size)) (good-fits e) g.findings-are (d ∙ unfold of_node course in refl));
              passed = λ j l. elim (dec_lt j i) [
                | yes k ↦ g.passed j k
                | no k ↦ let z : j ≡ i = omega arith in rw z (no-refusal s i placed-here (sym typed-is ∙ w.sorts) (sym (ap finding_fits d) ∙ w.fits))
              ];
            }

  -- after all nodes
  module _ (h : n ≤ i) where
    pub finish : {t : ℕ} {f : Finding} → t ≡ at 0 starts (n - 1) → f ≡ findings_in findings (n - 1) → goal_refusal t (sort_of f) (n - 1) ≡ nodes s
    unfolding nodes
    finish et ef =
        let c = g.counted.some-node in
        let e = g.nodes-are in
        let d = g.le in
        let m : n - 1 ≡ goal_at s = ap (λ (k : ℕ). k - 1) e in
        let l : goal_at s < i = omega arith in
        let a : at 0 starts (goal_at s) ≡ start_at (table s) (goal_at s) = known_start (table s) i g.starts-are (goal_at s) l in
        let b : sort_of (fi (goal_at s)) ≡ sort_at (table s) (goal_at s) = ap sort_of (fi-is (goal_at s) l) ∙ finding-sort s (goal_at s) in
        rw (et, ef, m, a, b) (sym (otherwise-none _ (none_first (node_refusal s) (node_count s) 0 (λ j x y. g.passed j (omega arith)))))
