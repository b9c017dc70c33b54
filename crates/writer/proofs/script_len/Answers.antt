-- `writer::script_len` meets its contract: the parts of the script one by one. Assumes nothing.
use native.Mathlib.Omega.{arith}
use Rattle.reading.proofs.RuleLaws.{accepted-counted}
use Rattle.writer.proofs.ScriptLaws.{script-length, script-short}
use Rattle.writer.proofs.script_len.Goals as goal

pub term_len-goal-requires : goal.term_len-goal-requires
term_len-goal-requires c = c.goal.ensures.below

pub variables_len-requires : goal.variables_len-requires
variables_len-requires c = omega (arith, (accepted-counted _ c.variable_count-count.ensures.accepted).few)

pub overflow_add-result : goal.overflow_add-result
overflow_add-result c =
    omega (arith, script-length c.args.form.models _ c.variable_count-count.ensures.accepted c.variable_count-count.ensures.count c.variables_len.ensures c.goal.ensures.node, script-short c.args.form.models _ c.variable_count-count.ensures.accepted)

pub overflow_add-result-2 : goal.overflow_add-result-2
overflow_add-result-2 c =
    omega (arith, script-length c.args.form.models _ c.variable_count-count.ensures.accepted c.variable_count-count.ensures.count c.variables_len.ensures c.goal.ensures.node, script-short c.args.form.models _ c.variable_count-count.ensures.accepted)

pub models_len-requires : goal.models_len-requires
models_len-requires c = omega (arith, (accepted-counted _ c.variable_count-count.ensures.accepted).few)

pub overflow_add-result-3 : goal.overflow_add-result-3
overflow_add-result-3 c =
    omega (arith, script-length c.args.form.models _ c.variable_count-count.ensures.accepted c.variable_count-count.ensures.count c.variables_len.ensures c.goal.ensures.node, script-short c.args.form.models _ c.variable_count-count.ensures.accepted)

pub returns-clause-size : goal.returns-clause-size
returns-clause-size c =
    omega (arith, script-length c.args.form.models _ c.variable_count-count.ensures.accepted c.variable_count-count.ensures.count c.variables_len.ensures c.goal.ensures.node)
