-- `next_line` meets its contract: the first line feed ends the line. Assumes nothing.
use Rattle.std.proofs.Common.{eqb, rules, tests}
use Rattle.std.proofs.lemmas.Iterator.{YieldsList-from_slice}
use Rattle.std.proofs.lemmas.Iterator.Search.{position_from_yields_List}
use borrow.Author.Rules.{part_to_end}
use Rattle.words.proofs.Scanning.{line-found, line-whole}
use Rattle.words.proofs.next_line.Goals as goal

pub returns-in-Some : goal.returns-in-Some
returns-in-Some c =
    line-found c.args.text.now c.args.from (part_to_end c.args.text.now c.args.from) (position_from_yields_List (λ b. eqb b 10) _ _ c.position.result c.position.ensures.ran (YieldsList-from_slice _ c.iter.ensures.rest) (λ x b q k. search (rules, tests))) (search rules) c.in-Some.is

pub returns-in-None : goal.returns-in-None
returns-in-None c =
    line-whole c.args.text.now c.args.from (part_to_end c.args.text.now c.args.from) (position_from_yields_List (λ b. eqb b 10) _ _ c.position.result c.position.ensures.ran (YieldsList-from_slice _ c.iter.ensures.rest) (λ x b q k. search (rules, tests))) (search rules) c.in-None.is
