-- `word_of` meets its contract. Invariant: the node is among those of the expressions that stand at `at`, of which the first has number `first`. Assumes nothing.
use native.Mathlib.Omega.{arith}
use borrow.Author.Rules.{rules}
use Rattle.pointing.proofs.SpanLaws.{hunting, hunt-begin, hunt-begun, hunt-number, hunt-fits, hunt-room, hunt-found, hunt-down, hunt-past, hunt-behind}
use Rattle.pointing.proofs.word_of.Goals as goal

pub loop-here-init : goal.loop-here-init
loop-here-init c = λ vs e h l. hunt-begin vs e h l

pub extent_at-here-requires : goal.extent_at-here-requires
extent_at-here-requires c = hunt-begun (hunting c.requires c.loop-here.invariant)

pub overflow_add-next : goal.overflow_add-next
overflow_add-next c =
    let r = hunt-room (hunting c.requires c.loop-here.invariant) c.extent_at-here.ensures in
    search rules

pub overflow_add-n : goal.overflow_add-n
overflow_add-n c =
    let r = hunt-number (hunting c.requires c.loop-here.invariant) in
    search rules

pub returns-then-next-n : goal.returns-then-next-n
returns-then-next-n c = λ vs e h l. hunt-found (c.loop-here.invariant vs e h l) c.extent_at-here.ensures c.if-next-n.true

pub behind-at-requires : goal.behind-at-requires
behind-at-requires c = hunt-fits (hunting c.requires c.loop-here.invariant)

pub loop-here-smaller-then-n-next : goal.loop-here-smaller-then-n-next
loop-here-smaller-then-n-next c =
    let h = hunting c.requires c.loop-here.invariant in
    omega (arith, h.stand.inside, hunt-fits h, c.behind-at.ensures)

pub loop-here-smaller : goal.loop-here-smaller
loop-here-smaller c =
    let h = hunting c.requires c.loop-here.invariant in
    omega (arith, h.stand.inside, hunt-fits h, hunt-behind h c.extent_at-here.ensures)

pub loop-here-preserved-then-n-next : goal.loop-here-preserved-then-n-next
loop-here-preserved-then-n-next c =
    λ vs e h l. hunt-down (c.loop-here.invariant vs e h l) c.extent_at-here.ensures c.if-next-n.false c.if-n-next.true c.behind-at.ensures

pub loop-here-preserved : goal.loop-here-preserved
loop-here-preserved c =
    λ vs e h l. hunt-past (c.loop-here.invariant vs e h l) c.extent_at-here.ensures c.if-n-next.false
