-- `column_of` meets its contract. Assumes nothing.
use mathlib.Core.Path.{◌≡◌, ◌∙◌}
use mathlib.Core.Bool.{not}
use native.Mathlib.Omega.{arith}
use lib.Dec.{eqb}
use lib.ListN.{take}
use borrow.Author.Rules.{rules}
use Rattle.std.proofs.Common.{reverse, tests}
use Rattle.std.specs.List.{suffix_len}
use Rattle.std.proofs.lemmas.List.Folds.{length-prefix_len}
use Rattle.std.proofs.lemmas.Iterator.Adapters.{YieldsList-from_rev_slice}
use Rattle.std.proofs.lemmas.Iterator.Search.{YieldsList-from_take_while}
use Rattle.std.proofs.lemmas.Iterator.Consumers.{count_from_yields_List}
use Rattle.pointing.proofs.ColumnLaws.{column_counted}
use Rattle.pointing.proofs.column_of.Goals as goal

pub returns : goal.returns
returns c =
    let source : c.take_while.result.iter.iter.rest.now ≡ take c.args.place c.args.text.now = search rules in
    let n : c.count.result ≡ suffix_len (λ b. not (eqb b 10)) (take c.args.place c.args.text.now) =
    count_from_yields_List c.take_while.result _ c.count.ensures.ran (YieldsList-from_take_while _ (λ b. not (eqb b 10)) (YieldsList-from_rev_slice (take c.args.place c.args.text.now) source) c.take_while.ensures.closure c.take_while.ensures.done (λ x b q k. search (rules, tests))) ∙ length-prefix_len (λ b. not (eqb b 10)) (reverse (take c.args.place c.args.text.now)) in
    omega (arith, n, column_counted c.args.text.now c.args.place c.requires)
