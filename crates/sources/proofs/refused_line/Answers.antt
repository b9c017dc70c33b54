-- `refused_line` meets its contract where the refusal points at nothing. Assumes nothing.
use Rattle.sources.proofs.SourceLaws.{wrote-nowhere}
use Rattle.sources.proofs.refused_line.Goals as goal

pub returns-in-None : goal.returns-in-None
returns-in-None c =
    wrote-nowhere c.place_of.ensures c.in-None.is (rw c.into.ensures at c.refused_line.ensures)
