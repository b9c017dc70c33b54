-- `trial::try_case` meets its contract: the case's refusal, or the case at the front of the room. Assumes nothing.
use borrow.Author.Rules.{rules}
use mathlib.Core.Path.{◌≡◌}
use Rattle.std.specs.Prelude.{Err}
use Rattle.reading.proofs.RuleLaws.{accepted-inside}
use Rattle.trial.proofs.TryLaws.{row-case, row-ready, row_fits, into-case, into-fails}
use Rattle.trial.proofs.try_case.Goals as goal

pub variable_count-v-requires : goal.variable_count-v-requires
variable_count-v-requires c = rw c.bytes-bytes.ensures.same (accepted-inside _ c.bytes-bytes.ensures.accepted).0

pub numbers-requires : goal.numbers-requires
numbers-requires c = rw (c.variable_count-v.ensures, c.bytes-bytes.ensures.same) c.requires

pub case_fails-requires : goal.case_fails-requires
case_fails-requires c =
    row-ready _ c.bytes-bytes.ensures.accepted (rw c.bytes-bytes.ensures.same at c.variable_count-v.ensures) c.numbers.ensures

pub put-requires : goal.put-requires
put-requires c =
    row_fits _ c.bytes-bytes.ensures.accepted (rw c.bytes-bytes.ensures.same at c.variable_count-v.ensures) c.numbers.ensures (search rules)

pub returns-in_err-case_fails : goal.returns-in_err-case_fails
returns-in_err-case_fails c =
    let a = c.bytes-bytes.ensures.accepted in
    let d : c.from_residual.result ≡ Err c.in_err-case_fails.field-0.0 = search rules in
    into-case _ _ _ a (row-case _ a (rw c.bytes-bytes.ensures.same at c.variable_count-v.ensures) c.numbers.ensures) d c.in_err-case_fails.ensures

pub returns : goal.returns
returns c =
    let a = c.bytes-bytes.ensures.accepted in
    let v = rw c.bytes-bytes.ensures.same at c.variable_count-v.ensures in
    into-fails _ _ _ a (row-case _ a v c.numbers.ensures) c.in_ok-case_fails.ensures (rw v at c.put.ensures)
