-- `name_in` meets its contract: the part from six bytes behind the record's start, as long as the record's byte 4 says. Assumes nothing.
use mathlib.Core.Path.{refl}
use native.Mathlib.Nat.{add_comm, add-sub_cancel_left}
use Rattle.records.proofs.name_in.Goals as goal

pub returns : goal.returns
returns c = record { bytes = rw (add-sub_cancel_left, c.byte_at-size.ensures.0); memory = refl; place = add_comm _ _ }
