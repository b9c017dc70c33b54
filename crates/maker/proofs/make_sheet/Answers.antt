-- `maker::make_sheet` meets its contract: the front of a room of zeros, as long as the sheet. Assumes nothing.
use mathlib.Core.Path.{sym, ◌∙◌}
use Rattle.layout.specs.Limits.{most_sheet_bytes}
use Rattle.maker.proofs.ZeroLaws.{front_length, front_same}
use Rattle.maker.proofs.make_sheet.Goals as goal

pub slice_bounds-make_in-end : goal.slice_bounds-make_in-end
slice_bounds-make_in-end c = front_length 0 most_sheet_bytes _ c.sheet_size-size.ensures.1

pub make_in-requires : goal.make_in-requires
make_in-requires c =
    let p = c.requires in
    let s = c.sheet_size-size.ensures in
    (record { counts = p.0; few = p.1; most = p.2; size = sym (front_length 0 most_sheet_bytes _ s.1) ∙ s.0 }, front_same 0 most_sheet_bytes _ s.1)
