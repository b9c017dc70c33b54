-- `pieces::constant_from` meets its contract: the part that was lent comes back. Assumes nothing.
use native.Mathlib.Omega.{arith}
use Rattle.room.proofs.RoomLaws.{wrote-part}
use Rattle.pieces.proofs.PieceLaws.{hex-length}
use Rattle.pieces.proofs.constant_from.Goals as goal

pub overflow_add-result : goal.overflow_add-result
overflow_add-result c = omega (arith, hex-length c.args.bits)

pub returns : goal.returns
returns c = wrote-part _ c.constant.ensures
