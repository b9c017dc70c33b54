-- `printer::lines_len` meets its contract: after i turns the lines of the first i variables are counted. Assumes nothing.
use mathlib.Core.Path.{◌≡◌, sym, ap, ◌∙◌}
use native.Mathlib.Omega.{arith}
use lib.ListN.{length}
use Rattle.lists.specs.Joined.{joined_below}
use Rattle.lists.proofs.JoinedLaws.{joined-none, length_more}
use Rattle.layout.specs.Parts.{variable_count}
use Rattle.reading.proofs.RuleLaws.{accepted-counted}
use Rattle.printer.specs.Lines.{line_at}
use Rattle.printer.proofs.LineLaws.{line-short, lines-short}
use Rattle.printer.proofs.lines_len.Goals as goal

pub loop-variable-init : goal.loop-variable-init
loop-variable-init c = sym (ap length (joined-none (line_at c.args.sheet.now)))

pub overflow_add-size : goal.overflow_add-size
overflow_add-size c =
    let s = c.args.sheet.now in
    let i = c.loop-variable.variable in
    omega (arith, line-short s i c.variable_count-variable-end.ensures.accepted (omega arith), lines-short s c.variable_count-variable-end.ensures.accepted i (omega arith), (accepted-counted _ c.variable_count-variable-end.ensures.accepted).few)

pub loop-variable-preserved : goal.loop-variable-preserved
loop-variable-preserved c = omega (arith, length_more (line_at c.args.sheet.now) c.loop-variable.variable)

pub returns : goal.returns
returns c =
    let e : c.loop-variable.variable ≡ variable_count c.args.sheet.now = omega arith in
    c.loop-variable.invariant ∙ ap (λ n. length (joined_below (line_at c.args.sheet.now) n)) e
