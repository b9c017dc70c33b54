-- `tail_clear` meets its contract: what `clear` ensures, from where `used_in` says. Assumes nothing.
use mathlib.Core.Path.{◌∙◌}
use Rattle.header.specs.Header.{tail_clear}
use Rattle.header.proofs.tail_clear.Goals as goal

pub returns : goal.returns
unfolding tail_clear
returns c = c.clear.ensures ∙ rw c.used_in-used.ensures.0
