-- Where z3 4.8, cvc5 1.0, SMT-LIB 2.6 and this reading part: what was decided. tests/smtlib/scripts.txt says why of each text. Each fact is computed. Assumes nothing.
use mathlib.Core.Path.{◌≡◌, refl}
use mathlib.Core.List.{map}
use mathlib.Core.Option.{none, some}
use Rattle.smtlib.proofs.Running.{script_read, answers}
use Rattle.smtlib.proofs.DecisionData.{by_z3, by_cvc5, against_standard, not_read, read_with_z3, read_with_cvc5}

-- one solver accepts these, SMT-LIB doesn't: rejected
by-z3-rejected : map script_read by_z3 ≡ map (λ t. none) by_z3
unfolding script_read
by-z3-rejected = refl

by-cvc5-rejected : map script_read by_cvc5 ≡ map (λ t. none) by_cvc5
unfolding script_read
by-cvc5-rejected = refl

-- both solvers accept these, and the letter of SMT-LIB doesn't: rejected
against-rejected : map script_read against_standard ≡ map (λ t. none) against_standard
unfolding script_read
against-rejected = refl

-- SMT-LIB accepts these, and less is read here: a script is one question in a logic of bit vectors, from set-logic to exit
unread-rejected : map script_read not_read ≡ map (λ t. none) not_read
unfolding script_read
unread-rejected = refl

-- SMT-LIB and one solver accept these: read, with that solver's settings
with-z3-read : map (λ r. answers (script_read r.0)) read_with_z3 ≡ map (λ r. some r.1) read_with_z3
unfolding script_read
with-z3-read = refl

with-cvc5-read : map (λ r. answers (script_read r.0)) read_with_cvc5 ≡ map (λ r. some r.1) read_with_cvc5
unfolding script_read
with-cvc5-read = refl
