-- `word_of` meets its contract: the table's first row with this text gives the word. Assumes nothing.
use Rattle.std.proofs.Common.{refl, bytes_eq, rules, tests}
use Rattle.std.proofs.iter.Serving.{serving}
use Rattle.std.proofs.lemmas.Iterator.{YieldsList-from_slice}
use Rattle.std.proofs.lemmas.Iterator.Search.{find_from_yields_List}
use Rattle.ragwashin.proofs.WordLaws.{looked-up}
use Rattle.ragwashin.proofs.word_of.Goals as goal

pub returns : goal.returns
returns c =
    looked-up c.args.text.now c.iter.result.rest.now c.iter.ensures.rest refl c.find.result (find_from_yields_List (λ r. bytes_eq c.args.text.now r.0.now) _ _ c.find.result c.find.ensures.ran (YieldsList-from_slice _ refl) (λ x b q k. search (rules, tests))) c.map.result _ c.map.ensures.cases (λ x w h. search (rules, serving))
