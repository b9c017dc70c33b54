-- `operands_at` meets its contract. Assumes nothing.
use Rattle.words.proofs.Naming.{end-inside}
use Rattle.pointing.proofs.StandLaws.{operands-there}
use Rattle.pointing.proofs.operands_at.Goals as goal

pub slice_bounds-kind_named-end : goal.slice_bounds-kind_named-end
slice_bounds-kind_named-end c = end-inside _ _ c.requires c.word_end-end.ensures

pub returns : goal.returns
returns c = operands-there _ c.args.at _ c.word_end-end.ensures c.kind_named.ensures c.operands_behind.ensures c.unwrap_or.ensures
