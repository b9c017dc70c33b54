-- `terms::term_len` meets its contract: the node's number falls, and no sum is over the longest text. Assumes nothing.
use mathlib.Core.Path.{sym, ap}
use native.Mathlib.Omega.{arith}
use lib.ListN.{length}
use Rattle.numbers.specs.Two.{dec}
use Rattle.pieces.proofs.PieceLaws.{literal-length}
use Rattle.terms.proofs.TextLaws.{node-text, one-node, two-node, three-node}
use Rattle.terms.proofs.+term_len.Goals as goal

pub term_len-requires : goal.term_len-requires
term_len-requires t c =
    let o = one-node _ _ c.record-fields.ensures.accepted c.requires c.record-fields.ensures.record c.shape_of.ensures c.in-One.is in (omega arith, o.first)

pub overflow_add-result-in-One : goal.overflow_add-result-in-One
overflow_add-result-in-One t c =
    let o = one-node _ _ c.record-fields.ensures.accepted c.requires c.record-fields.ensures.record c.shape_of.ensures c.in-One.is in omega arith

pub term_len-requires-in-Two : goal.term_len-requires-in-Two
term_len-requires-in-Two t c =
    let o = two-node _ _ c.record-fields.ensures.accepted c.requires c.record-fields.ensures.record c.shape_of.ensures c.in-Two.is in (omega arith, o.first)

pub overflow_add-result-in-Two-2 : goal.overflow_add-result-in-Two-2
overflow_add-result-in-Two-2 t c =
    let o = two-node _ _ c.record-fields.ensures.accepted c.requires c.record-fields.ensures.record c.shape_of.ensures c.in-Two.is in omega arith

pub term_len-requires-in-Two-2 : goal.term_len-requires-in-Two-2
term_len-requires-in-Two-2 t c =
    let o = two-node _ _ c.record-fields.ensures.accepted c.requires c.record-fields.ensures.record c.shape_of.ensures c.in-Two.is in (omega arith, o.second)

pub overflow_add-result-in-Two-3 : goal.overflow_add-result-in-Two-3
overflow_add-result-in-Two-3 t c =
    let o = two-node _ _ c.record-fields.ensures.accepted c.requires c.record-fields.ensures.record c.shape_of.ensures c.in-Two.is in omega arith

pub term_len-requires-in-Three : goal.term_len-requires-in-Three
term_len-requires-in-Three t c =
    let o = three-node _ _ c.record-fields.ensures.accepted c.requires c.record-fields.ensures.record c.shape_of.ensures c.in-Three.is in (omega arith, o.first)

pub overflow_add-result-in-Three-2 : goal.overflow_add-result-in-Three-2
overflow_add-result-in-Three-2 t c =
    let o = three-node _ _ c.record-fields.ensures.accepted c.requires c.record-fields.ensures.record c.shape_of.ensures c.in-Three.is in omega arith

pub term_len-requires-in-Three-2 : goal.term_len-requires-in-Three-2
term_len-requires-in-Three-2 t c =
    let o = three-node _ _ c.record-fields.ensures.accepted c.requires c.record-fields.ensures.record c.shape_of.ensures c.in-Three.is in (omega arith, o.second)

pub overflow_add-result-in-Three-3 : goal.overflow_add-result-in-Three-3
overflow_add-result-in-Three-3 t c =
    let o = three-node _ _ c.record-fields.ensures.accepted c.requires c.record-fields.ensures.record c.shape_of.ensures c.in-Three.is in omega arith

pub term_len-requires-in-Three-3 : goal.term_len-requires-in-Three-3
term_len-requires-in-Three-3 t c =
    let o = three-node _ _ c.record-fields.ensures.accepted c.requires c.record-fields.ensures.record c.shape_of.ensures c.in-Three.is in (omega arith, o.third)

pub overflow_add-result-in-Three-4 : goal.overflow_add-result-in-Three-4
overflow_add-result-in-Three-4 t c =
    let o = three-node _ _ c.record-fields.ensures.accepted c.requires c.record-fields.ensures.record c.shape_of.ensures c.in-Three.is in omega arith

pub returns-in-Wrong : goal.returns-in-Wrong
returns-in-Wrong t c = sym (ap length (node-text _ _ c.record-fields.ensures.accepted c.requires c.record-fields.ensures.record c.shape_of.ensures c.in-Wrong.is))

pub returns-in-Bare : goal.returns-in-Bare
returns-in-Bare t c = omega (arith, ap length (node-text _ _ c.record-fields.ensures.accepted c.requires c.record-fields.ensures.record c.shape_of.ensures c.in-Bare.is))

pub returns-in-Valued : goal.returns-in-Valued
returns-in-Valued t c = omega (arith, ap length (node-text _ _ c.record-fields.ensures.accepted c.requires c.record-fields.ensures.record c.shape_of.ensures c.in-Valued.is), literal-length (dec 16 c.record-fields.result.value))

pub returns-in-Named : goal.returns-in-Named
returns-in-Named t c = omega (arith, ap length (node-text _ _ c.record-fields.ensures.accepted c.requires c.record-fields.ensures.record c.shape_of.ensures c.in-Named.is))

pub returns-in-One : goal.returns-in-One
returns-in-One t c =
    let o = one-node _ _ c.record-fields.ensures.accepted c.requires c.record-fields.ensures.record c.shape_of.ensures c.in-One.is in omega arith

pub returns-in-Two : goal.returns-in-Two
returns-in-Two t c =
    let o = two-node _ _ c.record-fields.ensures.accepted c.requires c.record-fields.ensures.record c.shape_of.ensures c.in-Two.is in omega arith

pub returns-in-Three : goal.returns-in-Three
returns-in-Three t c =
    let o = three-node _ _ c.record-fields.ensures.accepted c.requires c.record-fields.ensures.record c.shape_of.ensures c.in-Three.is in omega arith
