-- `trial::digits` meets its contract: the part that the span says. Assumes nothing.
use Prim.Native.Nat.{◌+◌, ◌-◌}
use mathlib.Core.Path.{◌≡◌, refl}
use native.Mathlib.Nat.{add_comm}
use native.Mathlib.Omega.{arith}
use borrow.Author.Rules.{rules}
use Rattle.trial.proofs.GivenLaws.{span-inside, span-part}
use Rattle.trial.proofs.digits.Goals as goal

pub overflow_add-end : goal.overflow_add-end
overflow_add-end c = let h = span-inside _ _ _ c.digits_span-span.ensures in search rules

pub slice_bounds-result-end : goal.slice_bounds-result-end
slice_bounds-result-end c = span-inside _ _ _ c.digits_span-span.ensures

pub returns : goal.returns
returns c =
    let s = c.digits_span-span in
    let e : (s.result.start + s.result.size) - s.result.start ≡ s.result.size = omega arith in
    span-part s.ensures (record { bytes = rw e; memory = refl; place = add_comm _ _ })
