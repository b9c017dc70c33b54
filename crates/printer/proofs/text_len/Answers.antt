-- `printer::text_len` meets its contract: the lines of variables, and the words with what stands behind them. Assumes nothing.
use mathlib.Core.Path.{refl}
use native.Mathlib.Omega.{arith}
use Rattle.layout.specs.Parts.{variable_count}
use Rattle.reading.proofs.RuleLaws.{accepted-counted}
use Rattle.printer.proofs.LineLaws.{lines-short}
use Rattle.expressions.proofs.PhraseLaws.{words-short}
use Rattle.printer.proofs.TextLaws.{text-length}
use Rattle.printer.proofs.text_len.Goals as goal

pub overflow_add-result : goal.overflow_add-result
overflow_add-result c =
    let k = accepted-counted _ c.node_count.ensures.accepted in omega (arith, lines-short _ c.node_count.ensures.accepted (variable_count c.args.sheet.now) (omega arith), words-short _ c.node_count.ensures.accepted c.node_count.result (omega arith), k.few, k.most)

pub overflow_add-result-2 : goal.overflow_add-result-2
overflow_add-result-2 c =
    let k = accepted-counted _ c.node_count.ensures.accepted in omega (arith, lines-short _ c.node_count.ensures.accepted (variable_count c.args.sheet.now) (omega arith), words-short _ c.node_count.ensures.accepted c.node_count.result (omega arith), k.few, k.most)

pub overflow_add-result-3 : goal.overflow_add-result-3
overflow_add-result-3 c =
    let k = accepted-counted _ c.node_count.ensures.accepted in omega (arith, lines-short _ c.node_count.ensures.accepted (variable_count c.args.sheet.now) (omega arith), words-short _ c.node_count.ensures.accepted c.node_count.result (omega arith), k.few, k.most)

pub returns : goal.returns
returns c =
    omega (arith, text-length _ c.node_count.ensures.accepted refl c.node_count.ensures.count)
