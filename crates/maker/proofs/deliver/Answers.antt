-- `maker::deliver` meets its contract: the refusal of the reading, or what is answered of an accepted sheet. Assumes nothing.
use mathlib.Core.Path.{◌≡◌}
use borrow.Author.Rules.{rules}
use Rattle.std.specs.Prelude.{Err}
use Rattle.maker.proofs.MakeLaws.{sheet-refused}
use Rattle.maker.proofs.deliver.Goals as goal

pub returns-in_err-sheet : goal.returns-in_err-sheet
returns-in_err-sheet c =
    let d : c.from_residual.result ≡ Err c.in_err-sheet.field-0.0 = search rules in
    sheet-refused _ _ d c.in_err-sheet.ensures
