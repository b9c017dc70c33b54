-- `maker::deliver_accepted` meets its contract: refusal 9 at the sheet's bytes, or the sheet. Assumes nothing.
use Rattle.maker.proofs.MakeLaws.{room-short, sheet-written}
use Rattle.maker.proofs.deliver_accepted.Goals as goal

pub returns-then-room-bytes : goal.returns-then-room-bytes
returns-then-room-bytes c =
    let e = c.bytes-bytes.ensures.same in
    rw e (room-short _ c.bytes-bytes.ensures.accepted _ (rw e at c.if-room-bytes.true))

pub returns : goal.returns
returns c =
    let e = c.bytes-bytes.ensures.same in
    sheet-written _ c.bytes-bytes.ensures.accepted (rw e at c.if-room-bytes.false) (rw e at c.put.ensures)
