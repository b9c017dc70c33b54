-- `trial::listed_span` meets its contract. Assumes nothing.
use Prim.Native.Nat.{◌<◌}
use native.Mathlib.Omega.{arith}
use Rattle.layout.specs.Parts.{variable_count}
use Rattle.reading.proofs.RuleLaws.{accepted-inside}
use Rattle.trial.proofs.GivenLaws.{fails-accepted, given-based, given-span}
use Rattle.trial.proofs.listed_span.Goals as goal

pub variable_count-requires : goal.variable_count-requires
variable_count-requires c = (accepted-inside _ (fails-accepted _ _ c.requires)).0

pub span_of-requires : goal.span_of-requires
span_of-requires c =
    let l : c.args.variable.0 < variable_count c.args.sheet.now = omega (arith, c.variable_count.ensures) in
    given-based _ _ _ (c.requires, l)

pub returns : goal.returns
returns c =
    let l : c.args.variable.0 < variable_count c.args.sheet.now = omega (arith, c.variable_count.ensures) in
    given-span _ _ _ (c.requires, l) c.span_of.ensures.0 c.span_of.ensures.1
