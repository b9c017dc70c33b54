-- `word_end` meets its contract: the first separator ends the word. Assumes nothing.
use Rattle.std.proofs.Common.{rules, tests}
use Rattle.std.proofs.lemmas.Iterator.{YieldsList-from_slice}
use Rattle.std.proofs.lemmas.Iterator.Search.{position_from_yields_List}
use borrow.Author.Rules.{part_to_end}
use Rattle.texts.specs.Places.{separates}
use Rattle.words.proofs.Scanning.{word-found, word-whole}
use Rattle.words.proofs.word_end.Goals as goal

pub returns-in-Some : goal.returns-in-Some
returns-in-Some c =
    word-found c.args.text.now c.args.start (part_to_end c.args.text.now c.args.start) (position_from_yields_List separates _ _ c.position.result c.position.ensures.ran (YieldsList-from_slice _ c.iter.ensures.rest) (λ x b q k. search (rules, tests))) c.in-Some.is

pub returns-in-None : goal.returns-in-None
returns-in-None c =
    word-whole c.args.text.now c.args.start (part_to_end c.args.text.now c.args.start) (position_from_yields_List separates _ _ c.position.result c.position.ensures.ran (YieldsList-from_slice _ c.iter.ensures.rest) (λ x b q k. search (rules, tests))) (search rules) c.in-None.is
