-- `trial::read_reply` meets its contract: 11 where the reply leaves the grammar, else as it says. Assumes nothing.
use Rattle.reading.proofs.RuleLaws.{accepted-inside}
use Rattle.trial.proofs.TryLaws.{reached-whole, reached-off, case-ready, claims-unsat, into-unsat, into-11}
use Rattle.trial.proofs.read_reply.Goals as goal

pub variable_count-requires : goal.variable_count-requires
variable_count-requires c = rw c.bytes-bytes.ensures.same (accepted-inside _ c.bytes-bytes.ensures.accepted).0

pub try_case-requires : goal.try_case-requires
try_case-requires c =
    let v = rw c.bytes-bytes.ensures.same at c.variable_count.ensures in
    case-ready c.args.sheet.now _ (reached-whole c.args.sheet.now c.args.reply.now v c.reach.ensures c.in-Ok.is) c.says_sat.ensures c.bytes-bytes.ensures.accepted c.if-says_sat.true

pub returns-in-Ok-2 : goal.returns-in-Ok-2
returns-in-Ok-2 c =
    let v = rw c.bytes-bytes.ensures.same at c.variable_count.ensures in
    into-unsat _ _ _ c.bytes-bytes.ensures.accepted (claims-unsat c.args.sheet.now _ (reached-whole c.args.sheet.now c.args.reply.now v c.reach.ensures c.in-Ok.is) c.says_sat.ensures c.if-says_sat.false)

pub returns-in-Err : goal.returns-in-Err
returns-in-Err c =
    let v = rw c.bytes-bytes.ensures.same at c.variable_count.ensures in
    into-11 _ _ _ c.bytes-bytes.ensures.accepted (reached-off c.args.sheet.now c.args.reply.now v c.reach.ensures c.in-Err.is)
