-- What `make` answers and what it leaves in the room (document 02, item 4). A text says one draft, and bytes that are none leave the texts at one place.
use Rattle.std.specs.Prelude.{ℕ, ◌&&◌, List, [], leb, length, Result}
use Rattle.std.proofs.Math.Option.{Option, some}
use Rattle.lists.specs.First.{◌otherwise◌}
use Rattle.refusals.specs.declared.Refusal.{Refusal}
use Rattle.refusals.specs.Said.{unless}
use Rattle.layout.specs.Limits.{most_variables}
use Rattle.reading.specs.Cascade.{refusal_of}
use Rattle.refusals.specs.declared.Refused.{Refused}
use Rattle.room.specs.Written.{Fills}
use Rattle.texts.specs.Expressions.{records_of, Draft, draft_sheet}
use Rattle.texts.specs.Texts.{Says}
use Rattle.maker.specs.Rows.{Row18}

-- 4 where a sheet can't have so much; then the sheet's own refusal; then 9 at the sheet's bytes
unfoldable pub draft_refusal : ℕ → Draft → ℕ → Option Refusal
draft_refusal limit d room =
    unless (leb (length d.variables) most_variables && leb (length (records_of d.goal 0)) limit) 4 0
    otherwise refusal_of limit (draft_sheet d)
    otherwise unless (leb (length (draft_sheet d)) room) 9 (length (draft_sheet d))

pub record Makes (limit : ℕ) (text before : List ℕ) (r : Result ℕ Refused) (after : List ℕ) : Type 0 where
  -- bytes that are no text
  pub off : (p : ℕ) → Row18 text p → Fills (some (record { number = 18; place = p })) [] before r after
  -- a text
  pub said : (d : Draft) → Says text d → Fills (draft_refusal limit d (length before)) (draft_sheet d) before r after
