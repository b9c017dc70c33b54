-- `writer::write_accepted` meets its contract: refusal 9 at the bytes needed, or the script. Assumes nothing.
use native.Mathlib.Omega.{arith}
use Rattle.writer.proofs.WritesLaws.{room-short, script-written}
use Rattle.writer.proofs.write_accepted.Goals as goal

pub returns-then-room-size : goal.returns-then-room-size
returns-then-room-size c = room-short _ _ c.script_len-size.ensures.accepted _ c.script_len-size.ensures.size c.if-room-size.true

pub returns : goal.returns
returns c = script-written _ _ c.script_len-size.ensures.accepted (omega arith) c.put_script.ensures
