-- `span` meets its contract: the library's least and greatest of two are the specification's. Assumes nothing.
use Rattle.numbers.proofs.Fit.{fit, least_told, greatest_told}
use Rattle.numbers.proofs.span.Goals as goal

pub returns : goal.returns
returns c =
    let a = c.args in
    let l = least_told a.p a.q (search fit) (search fit) c.min.ensures.value in
    let k = least_told a.r a.s (search fit) (search fit) c.min-2.ensures.value in
    let m = least_told c.min.result c.min-2.result (search fit) (search fit) c.min-3.ensures.value in
    let g = greatest_told a.p a.q (search fit) (search fit) c.max.ensures.value in
    let h = greatest_told a.r a.s (search fit) (search fit) c.max-2.ensures.value in
    let n = greatest_told c.max.result c.max-2.result (search fit) (search fit) c.max-3.ensures.value in
    search fit
