-- `node_step` meets its contract: in each arm the answer at its shape. Assumes nothing.
use mathlib.Core.Path.{sym, ap, ap₂, ◌∙◌}
use Rattle.numbers.specs.declared.Range.{Range}
use Rattle.meaning.specs.Rule.{Variable}
use Rattle.layout.proofs.PartLaws.{variable-is}
use Rattle.kinds.specs.declared.Record.{Record}
use Rattle.findings.specs.Findings.{no_range, result_of, domain_at}
use Rattle.findings.specs.Steps.{Step, fitted, one_step, two_step}
use Rattle.findings.specs.Kept.{findings_in}
use Rattle.findings.proofs.FindingLaws.{domain-fits, step_bare, step-valued, step-named, step-one, step-two, step-three}
use Rattle.findings.proofs.node_step.Goals as goal

-- what a node of a kind is, from one range
abbrev from : Record → Range → Step
from r p = fitted (result_of r.kind p no_range no_range)

pub from_one-requires-in-Named : goal.from_one-requires-in-Named
from_one-requires-in-Named c =
    domain-fits c.args.sheet.now (λ j. (c.type_inv.sheet j).fits) c.args.r.a c.domain.ensures

pub returns-in-Wrong : goal.returns-in-Wrong
returns-in-Wrong c =
    let s = c.args in
    step_bare (domain_at s.sheet.now) s.r (findings_in s.findings.now) c.shape_of.ensures c.in-Wrong.is c.from_one.ensures

pub returns-in-Valued : goal.returns-in-Valued
returns-in-Valued c =
    let s = c.args in
    step-valued (domain_at s.sheet.now) s.r (findings_in s.findings.now) c.shape_of.ensures c.in-Valued.is (c.from_one-in-Valued.ensures ∙ ap (from s.r) c.constant.ensures.0)

pub returns-in-Named : goal.returns-in-Named
returns-in-Named c =
    let s = c.args in
    let t = c.in-Named.is in
    let l = rw (sym c.shape_of.ensures ∙ t) at c.requires.2 in
    let e = ap (λ (v : Variable). v.domain) (variable-is s.sheet.now s.r.a l) in
    step-named (domain_at s.sheet.now) s.r (findings_in s.findings.now) c.shape_of.ensures t (c.from_one-in-Named.ensures ∙ ap (from s.r) (c.domain.ensures ∙ sym e))

pub returns-in-One : goal.returns-in-One
returns-in-One c =
    let s = c.args in
    step-one (domain_at s.sheet.now) s.r (findings_in s.findings.now) c.shape_of.ensures c.in-One.is (c.one_operand.ensures ∙ ap (one_step s.r.kind _) c.finding_at-f.ensures.0)

pub returns-in-Two : goal.returns-in-Two
returns-in-Two c =
    let s = c.args in
    step-two (domain_at s.sheet.now) s.r (findings_in s.findings.now) c.shape_of.ensures c.in-Two.is (c.two_operands.ensures ∙ ap₂ (two_step s.r.kind _ _) c.finding_at-f-in-Two.ensures.0 c.finding_at-g.ensures.0)

pub returns-in-Three : goal.returns-in-Three
returns-in-Three c =
    let s = c.args in
    step-three (domain_at s.sheet.now) s.r (findings_in s.findings.now) c.shape_of.ensures c.in-Three.is (c.three_operands.ensures ∙ rw (c.finding_at-f-in-Three.ensures.0, c.finding_at-g-in-Three.ensures.0, c.finding_at-h.ensures.0))
