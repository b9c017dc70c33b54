-- `sheet_of` meets its contract: the sheet that `make` leaves, or the line of its refusal. Assumes nothing.
use native.Mathlib.Omega.{arith}
use Rattle.sources.proofs.SourceLaws.{refuses, sourced-sheet, sourced-line}
use Rattle.sources.proofs.sheet_of.Goals as goal

pub refused_line-requires : goal.refused_line-requires
refused_line-requires c =
    (refuses c.make.ensures c.in-Err.is, omega arith)

pub returns-in-Ok : goal.returns-in-Ok
returns-in-Ok c =
    let w = sourced-sheet c.make.ensures c.args.line.now c.in-Ok.is in
    record { sourced = w.0; sheet_prefix = w.1; line_prefix = tt }

pub returns-in-Err : goal.returns-in-Err
returns-in-Err c =
    let w = sourced-line c.make.ensures c.in-Err.is c.refused_line.ensures in
    record { sourced = w.0; sheet_prefix = tt; line_prefix = w.1 }
