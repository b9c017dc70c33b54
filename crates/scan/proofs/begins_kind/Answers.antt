-- `begins_kind` meets its contract: the kinds that have a word are those of the definition. Assumes nothing.
use Prim.Native.Nat.{ℕ}
use mathlib.Core.Path.{refl, ap, ◌∙◌}
use mathlib.Core.List.{List}
use Rattle.std.proofs.Common.{rules, tests}
use Rattle.std.proofs.lemmas.Iterator.{YieldsList-from_slice}
use Rattle.std.proofs.lemmas.Iterator.Search.{any_from_yields_List}
use Rattle.kinds.specs.declared.Kind.{Kind}
use Rattle.texts.specs.Plain.{plain_of}
use Rattle.texts.specs.Places.{beginning, begins_any, plain_words}
use Rattle.scan.proofs.Beginnings.{begun-any}
use Rattle.scan.proofs.begins_kind.Goals as goal

pub returns : goal.returns
returns c =
    let u = c.args.bytes.now in
    any_from_yields_List (λ k. beginning u (plain_of k)) _ _ c.any.result c.any.ensures.ran (YieldsList-from_slice _ refl) (λ x b q k. search (rules, tests)) ∙ begun-any u c.iter.result.rest.now ∙ ap (λ (ks : List Kind). begins_any (plain_words ks) u) c.iter.ensures.rest
