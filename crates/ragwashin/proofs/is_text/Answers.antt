-- `is_text` meets its contract: the library tests the same last bytes. Assumes nothing.
use Rattle.std.proofs.Common.{◌∙◌}
use Rattle.ragwashin.proofs.WordLaws.{same-ending}
use Rattle.ragwashin.proofs.is_text.Goals as goal

pub returns : goal.returns
returns c = c.ends_with.ensures.value ∙ same-ending _ _
