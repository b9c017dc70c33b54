-- `pieces::head` meets its contract: the word behind the parenthesis. Assumes nothing.
use native.Mathlib.Omega.{arith}
use Rattle.room.proofs.RoomLaws.{chain}
use Rattle.pieces.proofs.head.Goals as goal

pub returns : goal.returns
returns c = chain (omega arith) c.put-next.ensures c.put_word.ensures
