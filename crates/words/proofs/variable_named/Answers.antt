-- `variable_named` meets its contract. Invariant: the names of the first i lines are others, and the next line stands at its place. Assumes nothing.
use mathlib.Core.Path.{sym, ◌∙◌}
use Rattle.words.proofs.Naming.{equal-bytes, naming-here, naming-turn, naming-end}
use Rattle.words.proofs.variable_named.Goals as goal

pub returns-then-eq : goal.returns-then-eq
returns-then-eq c =
    naming-here c.loop-i.invariant c.loop-i-test.true c.name_at.ensures (c.eq.ensures ∙ sym (equal-bytes _ _)) c.if-eq.true

pub loop-i-preserved : goal.loop-i-preserved
loop-i-preserved c =
    naming-turn c.loop-i.invariant c.loop-i-test.true c.name_at.ensures (c.eq.ensures ∙ sym (equal-bytes _ _)) c.if-eq.false c.next_line-line.ensures

pub returns : goal.returns
returns c = naming-end c.loop-i.invariant c.loop-i.auto.i-end c.loop-i-test.false
