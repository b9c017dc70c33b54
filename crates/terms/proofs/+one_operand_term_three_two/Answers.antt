-- `terms::term` and the functions that it calls on its operands meet their contracts: the node's number falls. Assumes nothing.
use mathlib.Core.Path.{sym, ap}
use native.Mathlib.Omega.{arith}
use lib.ListN.{length}
use Rattle.numbers.specs.Two.{dec}
use Rattle.room.proofs.RoomLaws.{wrote_none, wrote_as, chain, wrote-part}
use Rattle.pieces.proofs.PieceLaws.{literal-length}
use Rattle.terms.proofs.TextLaws.{wrote-more, node-text, valued-text, named_small, one-node, two-node, three-node}
use Rattle.terms.proofs.+one_operand_term_three_two.Goals as goal

pub operand-returns : goal.operand-returns
operand-returns t c = chain (omega arith) c.put-next.ensures (wrote-part _ c.term.ensures)

pub term-put_word-requires : goal.term-put_word-requires
term-put_word-requires t c = omega (arith, ap length (node-text _ _ c.record-fields.ensures.accepted c.requires.0 c.record-fields.ensures.record c.shape_of.ensures c.in-Bare.is))

pub term-constant-requires : goal.term-constant-requires
term-constant-requires t c = omega (arith, ap length (node-text _ _ c.record-fields.ensures.accepted c.requires.0 c.record-fields.ensures.record c.shape_of.ensures c.in-Valued.is), literal-length (dec 16 c.record-fields.result.value))

pub term-symbol-requires : goal.term-symbol-requires
term-symbol-requires t c =
    (named_small _ _ c.record-fields.ensures.accepted c.requires.0 c.record-fields.ensures.record c.shape_of.ensures c.in-Named.is, omega (arith, ap length (node-text _ _ c.record-fields.ensures.accepted c.requires.0 c.record-fields.ensures.record c.shape_of.ensures c.in-Named.is)))

pub term-returns-in-Wrong : goal.term-returns-in-Wrong
term-returns-in-Wrong t c = wrote_as (wrote_none _ 0) (sym (node-text _ _ c.record-fields.ensures.accepted c.requires.0 c.record-fields.ensures.record c.shape_of.ensures c.in-Wrong.is))

pub term-returns-in-Bare : goal.term-returns-in-Bare
term-returns-in-Bare t c =
    wrote_as c.put_word.ensures (sym (node-text _ _ c.record-fields.ensures.accepted c.requires.0 c.record-fields.ensures.record c.shape_of.ensures c.in-Bare.is))

pub term-returns-in-Valued : goal.term-returns-in-Valued
term-returns-in-Valued t c =
    wrote_as c.constant.ensures (valued-text _ _ c.record-fields.ensures.accepted c.requires.0 c.record-fields.ensures.record c.shape_of.ensures (omega arith) c.in-Valued.is)

pub term-returns-in-Named : goal.term-returns-in-Named
term-returns-in-Named t c =
    wrote_as c.symbol.ensures (sym (node-text _ _ c.record-fields.ensures.accepted c.requires.0 c.record-fields.ensures.record c.shape_of.ensures c.in-Named.is))

pub term-one-end-requires : goal.term-one-end-requires
term-one-end-requires t c =
    let o = one-node _ _ c.record-fields.ensures.accepted c.requires.0 c.record-fields.ensures.record c.shape_of.ensures c.in-One.is in
    (omega arith, (o.first, omega arith))

pub term-put-requires : goal.term-put-requires
term-put-requires t c =
    let o = one-node _ _ c.record-fields.ensures.accepted c.requires.0 c.record-fields.ensures.record c.shape_of.ensures c.in-One.is in
    omega (arith, c.one-end.ensures.place)

pub term-returns-in-One : goal.term-returns-in-One
term-returns-in-One t c =
    let o = one-node _ _ c.record-fields.ensures.accepted c.requires.0 c.record-fields.ensures.record c.shape_of.ensures c.in-One.is in
    wrote_as (chain (omega arith) c.one-end.ensures c.put.ensures) o.closed

pub term-two-end-requires : goal.term-two-end-requires
term-two-end-requires t c =
    let o = two-node _ _ c.record-fields.ensures.accepted c.requires.0 c.record-fields.ensures.record c.shape_of.ensures c.in-Two.is in
    (omega arith, (o.first, o.second, omega arith))

pub term-put-requires-in-Two : goal.term-put-requires-in-Two
term-put-requires-in-Two t c =
    let o = two-node _ _ c.record-fields.ensures.accepted c.requires.0 c.record-fields.ensures.record c.shape_of.ensures c.in-Two.is in
    omega (arith, c.two-end.ensures.place)

pub term-returns-in-Two : goal.term-returns-in-Two
term-returns-in-Two t c =
    let o = two-node _ _ c.record-fields.ensures.accepted c.requires.0 c.record-fields.ensures.record c.shape_of.ensures c.in-Two.is in
    wrote_as (chain (omega arith) c.two-end.ensures c.put-in-Two.ensures) o.closed

pub term-three-end-requires : goal.term-three-end-requires
term-three-end-requires t c =
    let o = three-node _ _ c.record-fields.ensures.accepted c.requires.0 c.record-fields.ensures.record c.shape_of.ensures c.in-Three.is in
    (omega arith, (o.first, o.second, o.third, omega arith))

pub term-put-requires-in-Three : goal.term-put-requires-in-Three
term-put-requires-in-Three t c =
    let o = three-node _ _ c.record-fields.ensures.accepted c.requires.0 c.record-fields.ensures.record c.shape_of.ensures c.in-Three.is in
    omega (arith, c.three-end.ensures.place)

pub term-returns-in-Three : goal.term-returns-in-Three
term-returns-in-Three t c =
    let o = three-node _ _ c.record-fields.ensures.accepted c.requires.0 c.record-fields.ensures.record c.shape_of.ensures c.in-Three.is in
    wrote_as (chain (omega arith) c.three-end.ensures c.put-in-Three.ensures) o.closed

pub one-returns : goal.one-returns
one-returns t c = wrote-more c.requires.1 c.head-next.ensures c.operand.ensures

pub two-returns : goal.two-returns
two-returns t c = wrote-more c.requires.2 c.one-next.ensures c.operand.ensures

pub three-returns : goal.three-returns
three-returns t c = wrote-more c.requires.3 c.two-next.ensures c.operand.ensures
