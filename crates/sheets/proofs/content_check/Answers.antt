-- `content_check` meets its contract: what `check_of` ensures of the lent content, which two bytes have room for. Assumes nothing.
use Rattle.sheets.proofs.PutLaws.{check-narrow}
use Rattle.sheets.proofs.content_check.Goals as goal

pub overflow_cast-result : goal.overflow_cast-result
overflow_cast-result c = record { fits = rw c.check_of.ensures (check-narrow _ _) }
