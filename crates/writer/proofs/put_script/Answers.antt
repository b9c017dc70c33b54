-- `writer::put_script` meets its contract: the parts in order, and room for each of them. Assumes nothing.
use native.Mathlib.Omega.{arith}
use Rattle.reading.proofs.RuleLaws.{accepted-counted}
use Rattle.room.proofs.RoomLaws.{wrote_as, chain4}
use Rattle.writer.proofs.ScriptLaws.{first_block, script-from, script-parts}
use Rattle.writer.proofs.put_script.Goals as goal

pub opening-p-requires : goal.opening-p-requires
opening-p-requires c =
    (omega (arith, (accepted-counted _ c.bytes-bytes.ensures.accepted).few), omega (arith, script-parts c.args.form.models _ c.bytes-bytes.ensures.accepted c.bytes-bytes.ensures.same c.variable_count-count.ensures.count))

pub range_lines-q-requires : goal.range_lines-q-requires
range_lines-q-requires c =
    (rw c.bytes-bytes.ensures.same (first_block _ c.bytes-bytes.ensures.accepted), omega (arith, (accepted-counted _ c.bytes-bytes.ensures.accepted).few), omega (arith, script-parts c.args.form.models _ c.bytes-bytes.ensures.accepted c.bytes-bytes.ensures.same c.variable_count-count.ensures.count))

pub goal_lines-r-requires : goal.goal_lines-r-requires
goal_lines-r-requires c =
    omega (arith, script-parts c.args.form.models _ c.bytes-bytes.ensures.accepted c.bytes-bytes.ensures.same c.variable_count-count.ensures.count)

pub ending-requires : goal.ending-requires
ending-requires c =
    (omega (arith, (accepted-counted _ c.bytes-bytes.ensures.accepted).few), omega (arith, script-parts c.args.form.models _ c.bytes-bytes.ensures.accepted c.bytes-bytes.ensures.same c.variable_count-count.ensures.count))

pub returns : goal.returns
returns c =
    wrote_as (chain4 (omega (arith, script-parts c.args.form.models _ c.bytes-bytes.ensures.accepted c.bytes-bytes.ensures.same c.variable_count-count.ensures.count)) c.opening-p.ensures c.range_lines-q.ensures c.goal_lines-r.ensures c.ending.ensures)
    (script-from c.args.form.models _ c.bytes-bytes.ensures.accepted c.bytes-bytes.ensures.same c.variable_count-count.ensures.count)
