-- `replies::blanks` meets its contract. Assumes nothing.
use mathlib.Core.Path.{ap, ◌∙◌}
use mathlib.Core.Bool.{not}
use mathlib.Core.List.{List}
use Prim.Native.Nat.{ℕ}
use lib.ListN.{length, drop}
use Rattle.std.proofs.Common.{rules, tests}
use Rattle.std.proofs.lemmas.Iterator.{YieldsList-from_slice}
use Rattle.std.proofs.lemmas.Iterator.Search.{position_from_yields_List}
use Rattle.std.specs.Option.{unwrap_or}
use Rattle.smtlib.specs.Characters.{white_space}
use Rattle.replies.proofs.PassLaws.{rest-got, before-first, blanks-pass}
use Rattle.replies.proofs.blanks.Goals as goal

pub returns : goal.returns
returns c =
    let s = c.args.reply.now in
    let rest = rest-got s c.args.at c.get.result _ c.unwrap_or-rest.result c.get.ensures.lookup (cc) c.unwrap_or-rest.ensures in
    let first = position_from_yields_List (λ d. not (white_space d)) _ _ c.position.result c.position.ensures.ran (YieldsList-from_slice (drop c.args.at s) (c.iter.ensures.rest ∙ rest)) (λ x b q k. search (rules, tests)) in
    blanks-pass s _ _ (c.unwrap_or.ensures ∙ ap (λ (u : List ℕ). unwrap_or c.position.result (length u)) rest ∙ before-first _ first)
