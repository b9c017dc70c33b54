-- `point` meets its contract: by the cause that the refusal's number has. Assumes nothing.
use mathlib.Core.Path.{◌∙◌}
use mathlib.Core.Path.{ap}
use Rattle.pointing.specs.Pointed.{pointed_said}
use Rattle.pointing.proofs.PlaceLaws.{points-name, points-word, points-other, points-nowhere}
use Rattle.pointing.proofs.point.Goals as goal

pub returns-in_err-ok : goal.returns-in_err-ok
returns-in_err-ok c = λ d h. ap pointed_said c.from_residual.ensures ∙ points-nowhere d c.args.refusal c.try_from.result c.try_from.ensures c.in_err-ok.ensures.value

pub returns-in-Variable : goal.returns-in-Variable
returns-in-Variable c =
    λ d h. c.name_pointed.ensures d h ∙ points-name d c.args.refusal c.try_from.result c.try_from.ensures c.in_ok-ok.ensures.value c.in-Variable.is

pub returns-in-Sort : goal.returns-in-Sort
returns-in-Sort c =
    λ d h. c.word_pointed.ensures d h ∙ points-word d c.args.refusal c.try_from.result c.try_from.ensures c.in_ok-ok.ensures.value c.in-Sort.is

pub returns-in_default : goal.returns-in_default
returns-in_default c =
    λ d h. points-other d c.args.refusal c.try_from.result c.try_from.ensures c.in_ok-ok.ensures.value c.in_default.not-Variable c.in_default.not-Sort c.in_default.not-Range
