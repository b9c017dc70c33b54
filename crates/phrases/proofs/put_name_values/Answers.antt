-- `put_name_values` meets its contract: after i turns the room has the first i variables in it, none of them longer than the longest. Assumes nothing.
use mathlib.Core.Path.{sym}
use native.Mathlib.Omega.{arith}
use lib.IntN.{pos}
use lib.ListN.{length-take}
use Rattle.std.proofs.lemmas.List.{get_or-take}
use Rattle.reading.proofs.ReadLaws.{name_inside}
use Rattle.phrases.proofs.NameValueLaws.{few-variables, named, begin, turn}
use Rattle.phrases.proofs.put_name_values.Goals as goal

pub loop-i-init : goal.loop-i-init
loop-i-init c = (omega arith, begin _ _ _ _)

pub name_in-name-requires : goal.name_in-name-requires
name_in-name-requires c =
    let taken = length-take c.args.count c.args.row.now in
    rw c.variable_place.ensures (name_inside _ (sym c.requires.0.accepted) (omega arith))

pub put_name_value-next-requires : goal.put_name_value-next-requires
put_name_value-next-requires c =
    let taken = length-take c.args.count c.args.row.now in
    let few = few-variables _ c.requires.0.accepted in
    let n = named _ c.requires.0.accepted (omega arith) c.variable_place.ensures c.name_in-name.ensures.bytes in
    (n.short, omega arith)

pub loop-i-preserved : goal.loop-i-preserved
loop-i-preserved c =
    let few = few-variables _ c.requires.0.accepted in
    let taken = length-take c.args.count c.args.row.now in
    let n = named _ c.requires.0.accepted (omega arith) c.variable_place.ensures c.name_in-name.ensures.bytes in
    let w = rw (get_or-take c.args.count c.args.row.now c.loop-i.i (pos 0) (omega arith), n.name) at c.put_name_value-next.ensures.0 in
    (omega arith, turn _ _ _ (c.requires.0.narrow _ (omega arith)) (omega arith) c.loop-i.invariant.1 w)
