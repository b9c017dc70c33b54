-- What is found of a node: its sort, whether it fits, and what a step answers, by shapes. Assumes nothing.
use Prim.Native.Nat.{ℕ, ◌+◌}
use mathlib.Core.Path.{◌≡◌, refl, sym, ap, ◌∙◌}
use mathlib.Core.Bool.{Bool, true, false, ◌&&◌}
use mathlib.Core.List.{List}
use mathlib.Core.Logic.{◌⊎◌, inl, inr, ⊎_elim}
use native.Mathlib.Omega.{arith}
use Rattle.lists.proofs.Decided.{Decides}
use Rattle.numbers.specs.declared.Range.{Range}
use Rattle.numbers.specs.Two.{dec}
use Rattle.numbers.specs.Bytes.{Bytes}
use Rattle.numbers.specs.Ranges.{◌⋯◌, NarrowEnds}
use Rattle.numbers.proofs.Bytes16.{i16-narrow}
use Rattle.numbers.proofs.NarrowLaws.{zero-narrow, narrow-of, narrow-true}
use Rattle.meaning.specs.declared.Sort.{Sort}
use Rattle.meaning.specs.declared.Sort.TheVariants.{Truth as truth, Integer as integer}
use Rattle.kinds.specs.declared.Kind.{Kind}
use Rattle.kinds.specs.declared.Record.{Record}
use Rattle.kinds.specs.declared.Shape.{Shape}
use Rattle.kinds.specs.Kinds.{row}
use Rattle.kinds.proofs.KindLaws.{passes}
use Rattle.layout.specs.Limits.{max_offset, variable_place}
use Rattle.layout.specs.Parts.{variable_at}
use Rattle.layout.specs.Starts.{shape_at, operands_of, sorts_of}
use Rattle.layout.specs.Fold.{Found, found_by}
use Rattle.findings.specs.declared.Finding.{Finding}
use Rattle.findings.specs.declared.Finding.TheVariants.{Truth, Integer}
use Rattle.refusals.specs.declared.Cause.{Cause}
use Rattle.std.proofs.Common.{Ok, Err}
use Rattle.findings.specs.Findings.{sort_of, no_range, range_of, result_of, finding_from, finding_of, finding_fits, FindingFits}
use Rattle.findings.specs.Steps.{Step, same_sort, are_sorted, fitted, step_of, operand_of, go_on, one_step, two_step, three_step}

-- ---- sorts are told apart
pub decides-same : (s t : Sort) → Decides (same_sort s t) (s ≡ t)
decides-same truth truth = (λ e. refl, λ e. refl)
decides-same truth integer = (λ e. cc, λ e. cc)
decides-same integer truth = (λ e. cc, λ e. cc)
decides-same integer integer = (λ e. refl, λ e. refl)

-- ---- the sort that is found is the kind's
result-sort : (k : Kind) (x y z : Range) → sort_of (result_of k x y z) ≡ (row k).gives
result-sort k x y z = (decides-same (sort_of (result_of k x y z)) (row k).gives).0 (passes (λ j. same_sort (sort_of (result_of j x y z)) (row j).gives) refl k)

from-sort : (δ : ℕ → Range) (k : Kind) (h : Shape) (x : Found Finding h) → sort_of (finding_from δ (result_of k) h x) ≡ (row k).gives
from-sort δ k Shape.Wrong x = result-sort k _ _ _
from-sort δ k Shape.Bare x = result-sort k _ _ _
from-sort δ k Shape.Valued x = result-sort k _ _ _
from-sort δ k Shape.Named x = result-sort k _ _ _
from-sort δ k (Shape.One s) x = result-sort k _ _ _
from-sort δ k (Shape.Two s t) x = result-sort k _ _ _
from-sort δ k (Shape.Three s t u) x = result-sort k _ _ _

pub found-sort : (δ : ℕ → Range) (k : Kind) (x : Found Finding (row k).shape) → sort_of (finding_of δ k x) ≡ (row k).gives
unfolding finding_of
found-sort δ k x = from-sort δ k (row k).shape x

-- ---- what fits
pub fits-of : (f : Finding) → finding_fits f ≡ true → FindingFits f
fits-of Truth e = tt
fits-of (Integer r) e = narrow-of e

pub fits-true : (f : Finding) → FindingFits f → finding_fits f ≡ true
fits-true Truth h = refl
fits-true (Integer r) h = narrow-true h

pub decides-fits : (f : Finding) → Decides (finding_fits f) (FindingFits f)
decides-fits f = (fits-of f, fits-true f)

pub range-fits : {f : Finding} {p : Range} → f ≡ Integer p → FindingFits f → NarrowEnds p
range-fits e h = rw e at h

pub no-range-fits : NarrowEnds no_range
no-range-fits = record { low = zero-narrow; high = zero-narrow }

pub domain-fits : (s : List ℕ) → Bytes s → (i : ℕ) {p : Range} → p ≡ (variable_at s i).domain → NarrowEnds p
domain-fits s b i e = rw e (record { low = i16-narrow s b (variable_place i); high = i16-narrow s b (variable_place i + max_offset) })

-- ---- operands of the right sorts
-- the range of an operand that fits
pub operand-fits : (f : Finding) (s : Sort) {p : Range} → Ok p ≡ operand_of f s → FindingFits f → NarrowEnds p
operand-fits Truth truth {p} e h = let d : p ≡ no_range = cc in rw d no-range-fits
operand-fits Truth integer e h = cc
operand-fits (Integer r) truth e h = cc
operand-fits (Integer r) integer {p} e h = let d : p ≡ r = cc in rw d h

-- ---- the answer at a node
pub fitted-good : (x : Finding) → finding_fits x ≡ true → fitted x ≡ Ok x
fitted-good x e = rw (e, fitted)

pub fitted-bad : (x : Finding) → finding_fits x ≡ false → fitted x ≡ Err Cause.Range
fitted-bad x e = rw (e, fitted)

-- the tests of the operands' sorts, one by one and at once
asked-1 : (a : Bool) (p : Range) (next : Range → Step)
    → go_on (elim a [ true ↦ Ok p | false ↦ Err Cause.Sort ]) next ≡ elim (a && true) [ true ↦ next p | false ↦ Err Cause.Sort ]
asked-1 true p next = refl
asked-1 false p next = refl

asked-2 : (a b : Bool) (p q : Range) (next : Range → Range → Step)
    → go_on (elim a [ true ↦ Ok p | false ↦ Err Cause.Sort ]) (λ x. go_on (elim b [ true ↦ Ok q | false ↦ Err Cause.Sort ]) (next x))
    ≡ elim (b && (a && true)) [ true ↦ next p q | false ↦ Err Cause.Sort ]
asked-2 true b p q next = asked-1 b q (next p)
asked-2 false true p q next = refl
asked-2 false false p q next = refl

asked-3 : (a b c : Bool) (p q o : Range) (next : Range → Range → Range → Step)
    → go_on (elim a [ true ↦ Ok p | false ↦ Err Cause.Sort ]) (λ x. go_on (elim b [ true ↦ Ok q | false ↦ Err Cause.Sort ]) (λ y. go_on (elim c [ true ↦ Ok o | false ↦ Err Cause.Sort ]) (next x y)))
    ≡ elim (c && (b && (a && true))) [ true ↦ next p q o | false ↦ Err Cause.Sort ]
asked-3 true b c p q o next = asked-2 b c q o (next p)
asked-3 false true true p q o next = refl
asked-3 false true false p q o next = refl
asked-3 false false true p q o next = refl
asked-3 false false false p q o next = refl

-- a step by its shape
module _ (δ : ℕ → Range) (r : Record) (g : ℕ → Finding) where
  abbrev step_by : Shape → Step
  step_by h =
      elim (are_sorted (λ j. sort_of (g j)) (operands_of h r) (sorts_of h)) [
        | true ↦ fitted (finding_from δ (result_of r.kind) h (found_by h r g))
        | false ↦ Err Cause.Sort
      ]

  step-shape : {h : Shape} → h ≡ shape_at r → step_by h ≡ step_of δ r g
  unfolding step_of finding_of
  step-shape e = ap step_by e

  -- the code's shape h, and what it answers
  module _ {h : Shape} (eh : h ≡ shape_at r) {x : Step} where
    pub step_bare : (h ≡ Shape.Wrong) ⊎ (h ≡ Shape.Bare) → x ≡ fitted (result_of r.kind no_range no_range no_range) → x ≡ step_of δ r g
    step_bare d w = ⊎_elim (λ e. w ∙ step-shape (sym e ∙ eh)) (λ e. w ∙ step-shape (sym e ∙ eh)) d

    pub step-valued : h ≡ Shape.Valued → x ≡ fitted (result_of r.kind (dec 16 r.value ⋯ dec 16 r.value) no_range no_range) → x ≡ step_of δ r g
    step-valued d w = w ∙ step-shape (sym d ∙ eh)

    pub step-named : h ≡ Shape.Named → x ≡ fitted (result_of r.kind (δ r.a) no_range no_range) → x ≡ step_of δ r g
    step-named d w = w ∙ step-shape (sym d ∙ eh)

    pub step-one : {s : Sort} → h ≡ Shape.One s → x ≡ one_step r.kind s (g r.a) → x ≡ step_of δ r g
    unfolding one_step
    step-one {s} d w = w ∙ asked-1 (same_sort (sort_of (g r.a)) s) (range_of (g r.a)) (λ p. fitted (result_of r.kind p no_range no_range)) ∙ step-shape (sym d ∙ eh)

    pub step-two : {s t : Sort} → h ≡ Shape.Two s t → x ≡ two_step r.kind s t (g r.a) (g r.b) → x ≡ step_of δ r g
    unfolding two_step
    step-two {s} {t} d w =
        w
        ∙ asked-2 (same_sort (sort_of (g r.a)) s) (same_sort (sort_of (g r.b)) t) (range_of (g r.a)) (range_of (g r.b)) (λ p q. fitted (result_of r.kind p q no_range))
        ∙ step-shape (sym d ∙ eh)

    pub step-three : {s t u : Sort} → h ≡ Shape.Three s t u → x ≡ three_step r.kind s t u (g r.a) (g r.b) (g r.c) → x ≡ step_of δ r g
    unfolding three_step
    step-three {s} {t} {u} d w =
        w
        ∙ asked-3 (same_sort (sort_of (g r.a)) s) (same_sort (sort_of (g r.b)) t) (same_sort (sort_of (g r.c)) u) (range_of (g r.a)) (range_of (g r.b)) (range_of (g r.c)) (λ p q o. fitted (result_of r.kind p q o))
        ∙ step-shape (sym d ∙ eh)

-- ---- the answer at a node, taken apart
module _ (δ : ℕ → Range) (r : Record) (g : ℕ → Finding) where
  abbrev sorted : Bool
  sorted = are_sorted (λ j. sort_of (g j)) (operands_of (shape_at r) r) (sorts_of (shape_at r))

  -- what the node is, where its operands are of the right sorts
  abbrev whole : Finding
  whole = finding_of δ r.kind (found_by (shape_at r) r g)

  pub record IsGood (x : Finding) : Type 0 where
    pub sorts : sorted ≡ true
    pub is : x ≡ whole
    pub fits : finding_fits x ≡ true

  abbrev pub IsBad : Cause → Type 0
  IsBad m = ((m ≡ Cause.Sort) × (sorted ≡ false)) ⊎ ((m ≡ Cause.Range) × (sorted ≡ true) × (finding_fits whole ≡ false))

  step-good : sorted ≡ true → finding_fits whole ≡ true → step_of δ r g ≡ Ok whole
  unfolding step_of
  step-good p q = rw (p, step_of) (fitted-good whole q)

  step-sorts : sorted ≡ false → step_of δ r g ≡ Err Cause.Sort
  unfolding step_of
  step-sorts p = rw (p, step_of)

  step-wide : sorted ≡ true → finding_fits whole ≡ false → step_of δ r g ≡ Err Cause.Range
  unfolding step_of
  step-wide p q = rw (p, step_of) (fitted-bad whole q)

  good-by : (p q : Bool) → sorted ≡ p → finding_fits whole ≡ q → (x : Finding) → step_of δ r g ≡ Ok x → IsGood x
  good-by true true p q x e =
      let w = step-good p q in
      let d : x ≡ whole = cc in
      record { sorts = p; is = d; fits = rw d q }
  good-by true false p q x e =
      let w = step-wide p q in
      absurd (let z : ◌≡◌ {A = ℕ} 0 1 = cc in omega arith)
  good-by false q p o x e =
      let w = step-sorts p in
      absurd (let z : ◌≡◌ {A = ℕ} 0 1 = cc in omega arith)

  pub good-step : {x : Finding} → step_of δ r g ≡ Ok x → IsGood x
  good-step {x} e = good-by _ _ refl refl x e

  bad-by : (p q : Bool) → sorted ≡ p → finding_fits whole ≡ q → (m : Cause) → step_of δ r g ≡ Err m → IsBad m
  bad-by true true p q m e =
      let w = step-good p q in
      absurd (let z : ◌≡◌ {A = ℕ} 0 1 = cc in omega arith)
  bad-by true false p q m e =
      let w = step-wide p q in
      inr (cc, p, q)
  bad-by false q p o m e =
      let w = step-sorts p in
      inl (cc, p)

  pub bad-step : {m : Cause} → step_of δ r g ≡ Err m → IsBad m
  bad-step {m} e = bad-by _ _ refl refl m e
