-- `used_in` meets its contract, in block 0 and in a node block. Assumes nothing.
use native.Mathlib.Omega.{arith}
use Rattle.header.proofs.HeaderLaws.{used-first, used-later}
use Rattle.header.proofs.used_in.Goals as goal

pub returns-then-k-eq0 : goal.returns-then-k-eq0
returns-then-k-eq0 c = rw (used-first _ c.if-k-eq0.true) (omega arith)

pub returns-then-n-before : goal.returns-then-n-before
returns-then-n-before c = rw (used-later _ _ c.if-k-eq0.false) (omega arith)

pub returns-then-n-before-ge-NODES_IN_BLOCK : goal.returns-then-n-before-ge-NODES_IN_BLOCK
returns-then-n-before-ge-NODES_IN_BLOCK c = rw (used-later _ _ c.if-k-eq0.false) (omega arith)

pub returns : goal.returns
returns c = rw (used-later _ _ c.if-k-eq0.false) (omega arith)
