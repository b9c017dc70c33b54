-- `printer::print` meets its contract: the refusal of the reading, or what is answered to an accepted sheet. Assumes nothing.
use mathlib.Core.Path.{◌≡◌, sym}
use borrow.Author.Rules.{rules}
use Rattle.std.specs.Prelude.{Err}
use Rattle.printer.proofs.PrintLaws.{sheet-refused}
use Rattle.printer.proofs.print.Goals as goal

pub returns-in_err-sheet : goal.returns-in_err-sheet
returns-in_err-sheet c =
    let d : c.from_residual.result ≡ Err c.in_err-sheet.field-0.0 = search rules in
    sheet-refused _ _ d (sym c.in_err-sheet.ensures)
