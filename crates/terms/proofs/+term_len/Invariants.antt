-- `terms::term_len` meets its contract: the node's number falls, and no sum is over the longest text. Assumes nothing.
use Rattle.terms.proofs.+term_len.Given as goal

-- the node's number
abbrev pub decreases-term_len : goal.decreases-term_len
decreases-term_len l = l.node.0
