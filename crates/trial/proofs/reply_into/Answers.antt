-- `trial::reply_into` meets its contract: the sheet's own refusal, else as the reply comes out. Assumes nothing.
use mathlib.Core.Path.{◌≡◌}
use borrow.Author.Rules.{rules}
use Rattle.std.specs.Prelude.{Err}
use Rattle.trial.proofs.TryLaws.{into-sheet}
use Rattle.trial.proofs.reply_into.Goals as goal

pub returns-in_err-sheet : goal.returns-in_err-sheet
returns-in_err-sheet c =
    let d : c.from_residual.result ≡ Err c.in_err-sheet.field-0.0 = search rules in
    into-sheet _ _ _ d c.in_err-sheet.ensures
