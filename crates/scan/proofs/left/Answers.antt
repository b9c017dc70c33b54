-- `left` meets its contract: the place lies inside the text. Assumes nothing.
use Rattle.scan.specs.States.{place_at}
use Rattle.scan.proofs.Scanning.{left-room}
use Rattle.scan.proofs.left.Goals as goal

pub overflow_add-result : goal.overflow_add-result
overflow_add-result c = left-room (place_at c.args.text.now c.args.here) _ _ c.word_at.ensures c.reach.ensures c.requires c.well_formed.0.0
