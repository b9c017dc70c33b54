-- `digits::behind` meets its contract. Assumes nothing.
use mathlib.Core.Path.{◌∙◌}
use lib.Dec.{eqb}
use lib.ListN.{drop}
use Rattle.std.proofs.Common.{rules, tests}
use Rattle.std.proofs.lemmas.Iterator.{YieldsList-from_slice}
use Rattle.std.proofs.lemmas.Iterator.Search.{position_from_yields_List}
use Rattle.std.proofs.lemmas.List.{take_rest}
use Rattle.digits.proofs.HashScan.{behind-some, behind-none}
use Rattle.digits.proofs.behind.Goals as goal

pub returns-in-Some : goal.returns-in-Some
returns-in-Some c =
    let s = c.args.reply.now in
    let f = position_from_yields_List (λ d. eqb d 35) _ _ c.position.result c.position.ensures.ran (YieldsList-from_slice (drop c.args.from s) (c.iter.ensures.rest ∙ take_rest s c.args.from)) (λ x b q k. search (rules, tests)) in
    behind-some s c.args.from f c.in-Some.is

pub returns-in-None : goal.returns-in-None
returns-in-None c =
    let s = c.args.reply.now in
    let f = position_from_yields_List (λ d. eqb d 35) _ _ c.position.result c.position.ensures.ran (YieldsList-from_slice (drop c.args.from s) (c.iter.ensures.rest ∙ take_rest s c.args.from)) (λ x b q k. search (rules, tests)) in
    behind-none s c.args.from f c.requires c.in-None.is
