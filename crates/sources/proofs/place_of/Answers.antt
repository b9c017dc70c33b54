-- `place_of` meets its contract: by whether the bytes are a text. Assumes nothing.
use mathlib.Core.Path.{ap, ◌∙◌}
use Rattle.refusals.specs.declared.Cause.TheVariants.{Text}
use Rattle.refusals.specs.Causes.{number_of}
use Rattle.refusals.proofs.SaidLaws.{same-cause}
use Rattle.pointing.specs.Pointing.{pointed_at}
use Rattle.sources.proofs.SourceLaws.{points-off, refused-text, points-said}
use Rattle.sources.proofs.place_of.Goals as goal

pub returns-in-Text : goal.returns-in-Text
returns-in-Text c = points-off c.requires (ap number_of c.in-Text.is)

pub returns-in_default : goal.returns-in_default
returns-in_default c =
    points-said (refused-text c.requires (λ n. c.in_default.not-Text (same-cause _ Text n))) (λ d s. c.point.ensures d (rw (← c.new.ensures) at s) ∙ ap (pointed_at d) c.into.ensures)
