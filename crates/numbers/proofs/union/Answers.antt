-- `union` meets its contract: the library's least and greatest of two are the specification's. Assumes nothing.
use Rattle.numbers.proofs.Fit.{fit, least_told, greatest_told}
use Rattle.numbers.proofs.union.Goals as goal

pub returns : goal.returns
returns c =
    let a = c.args.a in
    let b = c.args.b in
    let l = least_told a.low b.low (search fit) (search fit) c.min.ensures.value in
    let g = greatest_told a.high b.high (search fit) (search fit) c.max.ensures.value in
    search fit
