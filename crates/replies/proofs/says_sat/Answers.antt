-- `replies::says_sat` meets its contract. Assumes nothing.
use mathlib.Core.Path.{refl, ◌∙◌}
use mathlib.Core.Bool.{not}
use Rattle.std.proofs.Common.{rules, tests}
use Rattle.std.proofs.lemmas.Iterator.{YieldsList-from_slice}
use Rattle.std.proofs.lemmas.Iterator.Search.{find_from_yields_List}
use Rattle.smtlib.specs.Characters.{white_space}
use Rattle.replies.proofs.SatLaws.{first-found}
use Rattle.replies.proofs.says_sat.Goals as goal

pub returns : goal.returns
returns c =
    let s = c.args.reply.now in
    let first = find_from_yields_List (λ d. not (white_space d)) _ _ c.find.result c.find.ensures.ran (YieldsList-from_slice s cc) (λ x b q k. search (rules, tests)) in
    c.eq.ensures ∙ first-found s c.find.result _ first refl
