-- `expressions::phrase` and the functions that it calls on its operands meet their contracts: the node's number falls. Assumes nothing.
use Prim.Native.Nat.{ℕ}
use mathlib.Core.Path.{sym, ap}
use mathlib.Core.List.{List}
use native.Mathlib.Omega.{arith}
use lib.ListN.{length}
use Rattle.kinds.specs.Kinds.{row}
use Rattle.room.proofs.RoomLaws.{wrote_as, chain, wrote-part}
use Rattle.expressions.specs.Phrases.{phrase_at}
use Rattle.expressions.proofs.PhraseLaws.{wrote_one, wrote-two, wrote-three, node-text, never-wrong, one-node, two-node, three-node, named-variable, named-text}
use Rattle.expressions.proofs.+one_operand_phrase_three_two.Goals as goal

pub one-returns : goal.one-returns
one-returns t c =
    wrote_one (omega arith) c.put_word-next.ensures c.operand.ensures

pub operand-returns : goal.operand-returns
operand-returns t c = chain (omega arith) c.put-next.ensures (wrote-part _ c.phrase.ensures)

pub phrase-put_word-requires : goal.phrase-put_word-requires
phrase-put_word-requires t c = omega (arith, ap length (node-text _ _ c.record-fields.ensures.accepted c.requires.0 c.record-fields.ensures.record c.shape_of.ensures c.in-Bare.is))

pub phrase-put_value-requires : goal.phrase-put_value-requires
phrase-put_value-requires t c = omega (arith, ap length (node-text _ _ c.record-fields.ensures.accepted c.requires.0 c.record-fields.ensures.record c.shape_of.ensures c.in-Valued.is))

pub phrase-put_name-requires : goal.phrase-put_name-requires
phrase-put_name-requires t c = (named-variable _ _ c.record-fields.ensures.accepted c.requires.0 c.record-fields.ensures.record c.shape_of.ensures c.in-Named.is, omega (arith, ap length (named-text _ _ c.record-fields.ensures.accepted c.requires.0 c.record-fields.ensures.record c.shape_of.ensures c.in-Named.is)))

pub phrase-one-requires : goal.phrase-one-requires
phrase-one-requires t c =
    let o = one-node _ _ c.record-fields.ensures.accepted c.requires.0 c.record-fields.ensures.record c.shape_of.ensures c.in-One.is in
    (omega (arith, o.0), (o.1, omega (arith, ap length (node-text _ _ c.record-fields.ensures.accepted c.requires.0 c.record-fields.ensures.record c.shape_of.ensures c.in-One.is))))

pub phrase-two-requires : goal.phrase-two-requires
phrase-two-requires t c =
    let o = two-node _ _ c.record-fields.ensures.accepted c.requires.0 c.record-fields.ensures.record c.shape_of.ensures c.in-Two.is in
    (omega (arith, o.0, o.1), (o.2, o.3, omega (arith, ap length (node-text _ _ c.record-fields.ensures.accepted c.requires.0 c.record-fields.ensures.record c.shape_of.ensures c.in-Two.is))))

pub phrase-three-requires : goal.phrase-three-requires
phrase-three-requires t c =
    let o = three-node _ _ c.record-fields.ensures.accepted c.requires.0 c.record-fields.ensures.record c.shape_of.ensures c.in-Three.is in
    (omega (arith, o.0, o.1, o.2), (o.3, o.4, o.5, omega (arith, ap length (node-text _ _ c.record-fields.ensures.accepted c.requires.0 c.record-fields.ensures.record c.shape_of.ensures c.in-Three.is))))

pub phrase-returns-in-Wrong : goal.phrase-returns-in-Wrong
phrase-returns-in-Wrong t c = absurd (never-wrong _ _ c.record-fields.ensures.accepted c.requires.0 c.record-fields.ensures.record c.shape_of.ensures c.in-Wrong.is)

pub phrase-returns-in-Bare : goal.phrase-returns-in-Bare
phrase-returns-in-Bare t c =
    wrote_as c.put_word.ensures (sym (node-text _ _ c.record-fields.ensures.accepted c.requires.0 c.record-fields.ensures.record c.shape_of.ensures c.in-Bare.is))

pub phrase-returns-in-Valued : goal.phrase-returns-in-Valued
phrase-returns-in-Valued t c =
    wrote_as c.put_value.ensures (sym (node-text _ _ c.record-fields.ensures.accepted c.requires.0 c.record-fields.ensures.record c.shape_of.ensures c.in-Valued.is))

pub phrase-returns-in-Named : goal.phrase-returns-in-Named
phrase-returns-in-Named t c =
    wrote_as c.put_name.ensures (named-text _ _ c.record-fields.ensures.accepted c.requires.0 c.record-fields.ensures.record c.shape_of.ensures c.in-Named.is)

pub phrase-returns-in-One : goal.phrase-returns-in-One
phrase-returns-in-One t c =
    wrote_as c.one.ensures (sym (node-text _ _ c.record-fields.ensures.accepted c.requires.0 c.record-fields.ensures.record c.shape_of.ensures c.in-One.is))

pub phrase-returns-in-Two : goal.phrase-returns-in-Two
phrase-returns-in-Two t c =
    wrote_as c.two.ensures (sym (node-text _ _ c.record-fields.ensures.accepted c.requires.0 c.record-fields.ensures.record c.shape_of.ensures c.in-Two.is))

pub phrase-returns-in-Three : goal.phrase-returns-in-Three
phrase-returns-in-Three t c =
    wrote_as c.three.ensures (sym (node-text _ _ c.record-fields.ensures.accepted c.requires.0 c.record-fields.ensures.record c.shape_of.ensures c.in-Three.is))

pub three-returns : goal.three-returns
three-returns t c =
    let a = c.args in
    let t : ℕ → List ℕ = phrase_at a.sheet.now in
    wrote-three (row a.fields.kind).plain (t a.fields.a) (t a.fields.b) (t a.fields.c) (omega arith) c.two-next.ensures c.operand.ensures

pub two-returns : goal.two-returns
two-returns t c =
    let a = c.args in
    let t : ℕ → List ℕ = phrase_at a.sheet.now in
    wrote-two (row a.fields.kind).plain (t a.fields.a) (t a.fields.b) (omega arith) c.one-next.ensures c.operand.ensures
