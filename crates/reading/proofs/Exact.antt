-- A sheet is refused exactly as the table of rows says. Assumes nothing.
use Prim.Native.Nat.{ℕ}
use mathlib.Core.List.{List}
use Rattle.refusals.specs.Rows.{Exactly}
use Rattle.refusals.proofs.RowLaws.{exactly-then}
use Rattle.reading.specs.Rows.{sheet_rows}
use Rattle.reading.specs.Cascade.{refusal_of}
use Rattle.reading.proofs.SheetRows.{early-rows, header-rows, variables-rows}
use Rattle.reading.proofs.NodeRows.{nodes-rows}

pub sheet-exactly : (limit : ℕ) (s : List ℕ) → Exactly (sheet_rows limit s) (refusal_of limit s)
unfolding sheet_rows refusal_of
sheet-exactly limit s = exactly-then (early-rows limit s) (λ a. exactly-then (header-rows limit s) (λ b. exactly-then (variables-rows s) (λ c. nodes-rows s)))
