-- `word_at` meets its contract: the part from the start to the word's end. Assumes nothing.
use Rattle.words.proofs.Naming.{end-inside}
use Rattle.scan.proofs.Leading.{part-is}
use Rattle.scan.proofs.word_at.Goals as goal

pub slice_bounds-result-end : goal.slice_bounds-result-end
slice_bounds-result-end c = end-inside _ _ c.requires c.word_end.ensures

pub returns : goal.returns
returns c = part-is _ _ c.word_end.ensures
