-- `digits::behind_hash` meets its contract. Invariant: k hashes are behind place p. Assumes nothing.
use Rattle.digits.proofs.HashScan.{Passing}
use Rattle.digits.proofs.behind_hash.Given as goal

abbrev pub invariant-loop-k : goal.invariant-loop-k
invariant-loop-k l = Passing l.reply l._k l.p
