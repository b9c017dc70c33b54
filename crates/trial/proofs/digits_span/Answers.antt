-- `trial::digits_span` meets its contract: nothing is given unless a failing case is spelled. Assumes nothing.
use mathlib.Core.Path.{◌∙◌, ap}
use Rattle.std.specs.Prelude.{Ok}
use Rattle.trial.proofs.GivenLaws.{no_span, unsat-none, refused_none}
use Rattle.trial.proofs.digits_span.Goals as goal

pub returns-in-Ok-Unsat : goal.returns-in-Ok-Unsat
returns-in-Ok-Unsat c = no_span _ _ _ (unsat-none _ _ c.reply.ensures (c.in-Ok-Unsat.is ∙ ap Ok c.in-Ok-Unsat.field-0-is))

pub returns-in-Err : goal.returns-in-Err
returns-in-Err c = no_span _ _ _ (refused_none _ _ c.reply.ensures c.in-Err.is)
