-- The tests of 16 bits and what they decide; what lies between narrow ends is narrow. Assumes nothing.
use mathlib.Core.Path.{◌≡◌, refl, sym, ◌∙◌}
use mathlib.Core.Bool.{Bool, true, false, true≢false, and-eq-true_iff}
use lib.IntN.{ℤ, pos}
use mir.Syntax.{w16}
use mir.Val.{SFits}
use Rattle.std.specs.Result.{OkIff, is_ok}
use Rattle.std.proofs.Common.{Result, Ok, Err}
use lib.Signed.{◌≤ℤ◌, le_z}
use Rattle.numbers.specs.declared.Range.{Range}
use Rattle.numbers.specs.Ranges.{least16, greatest16, Narrow, NarrowEnds, is_narrow, has_narrow_ends, In, Narrower, union_of}
use Rattle.numbers.proofs.Zed.{≤ℤ-trans}
use Rattle.numbers.proofs.OrderTests.{le_z-true, le-le_z}
use Rattle.numbers.proofs.Fit.{narrow-of-i16, i16-of-narrow}
use Rattle.numbers.proofs.Sound.{of-least, of-greatest}
use Rattle.numbers.proofs.Monotone.{low-in, high-in, in-wider}

false_of : (t : Bool) → (t ≡ true → ⊥) → t ≡ false
false_of true f = absurd (f refl)
false_of false f = refl

-- ---- of a number
pub zero-narrow : Narrow (pos 0)
zero-narrow = record { low = record { le = tt }; high = record { le = tt } }

pub is_narrow-true : {z : ℤ} → Narrow z → is_narrow z ≡ true
unfolding is_narrow
is_narrow-true {z} h = (and-eq-true_iff (le_z least16 z) (le_z z greatest16)).1 (le-le_z h.low, le-le_z h.high)

pub is_narrow-of : {z : ℤ} → is_narrow z ≡ true → Narrow z
unfolding is_narrow
is_narrow-of {z} e =
    let b = (and-eq-true_iff (le_z least16 z) (le_z z greatest16)).0 e in
    record { low = le_z-true b.0; high = le_z-true b.1 }

pub is_narrow-false : {z : ℤ} → is_narrow z ≡ false → Narrow z → ⊥
is_narrow-false e h = true≢false (sym (is_narrow-true h) ∙ e)

-- whether it can be made an i16
pub is_narrow_tried : {E : Type 0} (r : Result ℤ E) (z v : ℤ) → OkIff r (SFits w16 z) v → is_ok r ≡ is_narrow z
is_narrow_tried (Ok x) z v h = sym (is_narrow-true (narrow-of-i16 h.0))
is_narrow_tried (Err e) z v h = sym (false_of (is_narrow z) (λ t. h (i16-of-narrow (is_narrow-of t))))

-- ---- of a range's ends
pub narrow-true : {r : Range} → NarrowEnds r → has_narrow_ends r ≡ true
unfolding has_narrow_ends
narrow-true {r} h = (and-eq-true_iff (is_narrow r.low) (is_narrow r.high)).1 (is_narrow-true h.low, is_narrow-true h.high)

pub narrow-of : {r : Range} → has_narrow_ends r ≡ true → NarrowEnds r
unfolding has_narrow_ends
narrow-of {r} e =
    let b = (and-eq-true_iff (is_narrow r.low) (is_narrow r.high)).0 e in
    record { low = is_narrow-of b.0; high = is_narrow-of b.1 }

pub narrow-false : {r : Range} → has_narrow_ends r ≡ false → NarrowEnds r → ⊥
narrow-false e h = true≢false (sym (narrow-true h) ∙ e)

pub wide-false : (r : Range) → (NarrowEnds r → ⊥) → has_narrow_ends r ≡ false
wide-false r f = false_of (has_narrow_ends r) (λ e. f (narrow-of e))

-- ---- what lies between narrow ends
pub in-narrow : {r : Range} {x : ℤ} → NarrowEnds r → In r x → Narrow x
in-narrow n h = record { low = ≤ℤ-trans n.low.low h.low; high = ≤ℤ-trans h.high n.high.high }

pub narrower-narrow : {a b : Range} → a.low ≤ℤ a.high → Narrower a b → NarrowEnds b → NarrowEnds a
narrower-narrow o h n = record { low = in-narrow n (in-wider h (low-in o)); high = in-narrow n (in-wider h (high-in o)) }

pub union-narrow : {a b : Range} → NarrowEnds a → NarrowEnds b → NarrowEnds (union_of a b)
union-narrow m n = record { low = of-least Narrow m.low n.low; high = of-greatest Narrow m.high n.high }
