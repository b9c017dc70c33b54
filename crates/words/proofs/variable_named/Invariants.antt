-- `variable_named` meets its contract. Invariant: the names of the first i lines are others, and the next line stands at its place. Assumes nothing.
use Rattle.words.proofs.Naming.{Naming}
use Rattle.words.proofs.variable_named.Given as goal

abbrev pub invariant-loop-i : goal.invariant-loop-i
invariant-loop-i l = Naming l.text l.word l.count l.line l.i
