-- `next_line` meets its contract: behind the line's four words. Assumes nothing.
use Rattle.pointing.proofs.LineLaws.{var-fits, name-fits, low_fits, high_fits, line-passed}
use Rattle.pointing.proofs.next_line.Goals as goal

pub behind-name-requires : goal.behind-name-requires
behind-name-requires c = var-fits c.requires

pub behind-least-requires : goal.behind-least-requires
behind-least-requires c = name-fits c.requires c.behind-name.ensures

pub behind-most-requires : goal.behind-most-requires
behind-most-requires c = low_fits c.requires c.behind-name.ensures c.behind-least.ensures

pub behind-requires : goal.behind-requires
behind-requires c = high_fits c.requires c.behind-name.ensures c.behind-least.ensures c.behind-most.ensures

pub returns : goal.returns
returns c = λ v rest d split.
    line-passed
    (record { variable = v; rest = rest; declarable = d; inside = c.requires.inside; split = split })
    c.behind-name.ensures c.behind-least.ensures c.behind-most.ensures c.behind.ensures
