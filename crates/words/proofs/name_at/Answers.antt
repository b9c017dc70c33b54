-- `name_at` meets its contract: the part from the name's place to its word's end. Assumes nothing.
use Rattle.words.proofs.Naming.{word-there, end-inside}
use Rattle.words.proofs.name_at.Goals as goal

pub slice_bounds-result-end : goal.slice_bounds-result-end
slice_bounds-result-end c = end-inside _ _ c.name_place-start.ensures.0 c.word_end-end.ensures

pub returns : goal.returns
returns c = word-there _ c.args.line _ c.name_place-start.ensures.1 c.word_end-end.ensures
