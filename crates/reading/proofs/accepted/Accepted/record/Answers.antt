-- `Accepted::record` meets its contract: the record lies inside the sheet. Assumes nothing.
use Rattle.header.proofs.HeaderLaws.{node-inside}
use Rattle.reading.proofs.RuleLaws.{accepted-counted}
use Rattle.reading.proofs.accepted.Accepted.record.Goals as goal

pub record_at-requires : goal.record_at-requires
record_at-requires c = node-inside (accepted-counted _ c.self.invariant) (rw (← c.self.view_is) at c.requires)
