-- `printer::print_accepted` meets its contract: the refusal of the names, refusal 9 at the bytes needed, or the text. Assumes nothing.
use mathlib.Core.Path.{◌≡◌, refl, sym}
use native.Mathlib.Omega.{arith}
use borrow.Author.Rules.{rules}
use Rattle.std.specs.Prelude.{Err}
use Rattle.room.proofs.RoomLaws.{wrote_as, chain}
use Rattle.printer.proofs.TextLaws.{text-from, text-parts}
use Rattle.printer.proofs.PrintLaws.{name-refused, room-short, text-written}
use Rattle.printer.proofs.print_accepted.Goals as goal

pub returns-in_err-read_names : goal.returns-in_err-read_names
returns-in_err-read_names c =
    let d : c.from_residual.result ≡ Err c.in_err-read_names.field-0.0 = search rules in
    name-refused _ c.in_err-read_names.ensures.accepted _ d c.in_err-read_names.ensures.said

pub returns-then-room-size : goal.returns-then-room-size
returns-then-room-size c = room-short _ c.in_ok-read_names.ensures.accepted (sym c.in_ok-read_names.ensures.said) _ c.text_len-size.ensures c.if-room-size.true

pub variable_lines-next-requires : goal.variable_lines-next-requires
variable_lines-next-requires c = omega (arith, text-parts _ c.in_ok-read_names.ensures.accepted refl)

pub goal_line-requires : goal.goal_line-requires
goal_line-requires c = omega (arith, text-parts _ c.in_ok-read_names.ensures.accepted refl)

pub returns : goal.returns
returns c =
    let w = chain (omega (arith, text-parts _ c.in_ok-read_names.ensures.accepted refl)) c.variable_lines-next.ensures c.goal_line.ensures in
    text-written _ c.in_ok-read_names.ensures.accepted (sym c.in_ok-read_names.ensures.said) (omega arith) (wrote_as w (text-from _ c.in_ok-read_names.ensures.accepted refl))
