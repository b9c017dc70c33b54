-- `refused_line` meets its contract: the line of the refusal's number and place. Assumes nothing.
use Rattle.phrases.specs.Phrases.{refusal_line}
use Rattle.phrases.proofs.refused_line.Goals as goal

pub returns : goal.returns
unfolding refusal_line
returns c = c.numbers_line.ensures
