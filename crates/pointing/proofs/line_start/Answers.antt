-- `line_start` meets its contract. Invariant: behind so many turns, that line starts at `line`. Assumes nothing.
use native.Mathlib.Omega.{arith}
use Rattle.pointing.proofs.LineLaws.{line-begin, line-begun, line-turn}
use Rattle.pointing.proofs.line_start.Goals as goal

pub loop-init : goal.loop-init
loop-init c = λ d h w. line-begin h

pub next_line-line-requires : goal.next_line-line-requires
next_line-line-requires c =
    let p = c.requires in
    line-begun (c.loop.invariant p.draft p.says p.within) (omega (arith, p.within))

pub loop-preserved : goal.loop-preserved
loop-preserved c = λ d h w. line-turn (c.loop.invariant d h w) c.next_line-line.ensures (omega arith)
