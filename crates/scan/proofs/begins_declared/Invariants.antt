-- `begins_declared` meets its contract. Invariant: the names of the first lines begin otherwise, and the next line stands at its place. Assumes nothing.
use Rattle.scan.proofs.Beginnings.{Comparing}
use Rattle.scan.proofs.begins_declared.Given as goal

abbrev pub invariant-loop-i : goal.invariant-loop-i
invariant-loop-i l = Comparing l.text l.bytes l.count l.line l._i
