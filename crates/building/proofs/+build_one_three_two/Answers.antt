-- `building::build` and the functions that it calls on its operands meet their contracts: what is left of the text falls. Assumes nothing.
use mathlib.Core.Logic.{inl, inr}
use mathlib.Core.Path.{refl}
use native.Mathlib.Omega.{arith}
use Rattle.building.proofs.WordLaws.{inside}
use Rattle.building.proofs.ViewLaws.{word-inside, leaf-laid, bare-laid, never, one-here, two_here, three-here, one-laid, two-laid, three-laid}
use Rattle.building.proofs.ReadyLaws.{first-kept, one-ask, one_kept, one-built, two-ask, two-end, two-kept, two-ask-2, two-kept-2, two-built, three-ask, three-end, three-kept, three-ask-2, three-end-2, three-kept-2, three-ask-3, three-kept-3, three-built, one-operand, two_operands, three-operands}
use Rattle.building.proofs.+build_one_three_two.Goals as goal

pub build-slice_bounds-word-end : goal.build-slice_bounds-word-end
build-slice_bounds-word-end t c = let w = word-inside c.requires.ready.spelt c.word_end-end.ensures in omega (arith, w.1)

pub build-word_end-end-requires : goal.build-word_end-end-requires
build-word_end-end-requires t c = let r = c.requires.ready in omega (arith, inside r.spelt.words)

pub build-put-requires : goal.build-put-requires
build-put-requires t c = first-kept _ c.requires.ready

pub build-put-requires-in-Bare : goal.build-put-requires-in-Bare
build-put-requires-in-Bare t c = first-kept _ c.requires.ready

pub build-overflow_add-end : goal.build-overflow_add-end
build-overflow_add-end t c = let w = word-inside c.requires.ready.spelt c.word_end-end.ensures in omega (arith, w.1)

pub build-one-requires : goal.build-one-requires
build-one-requires t c = let r = c.requires.ready in let w = word-inside r.spelt c.word_end-end.ensures in (omega (arith, w.0, w.1), one-operand r (one-here r.spelt c.word_end-end.ensures c.kind_named-kind.ensures c.shape_of.ensures c.in-One.is))

pub build-overflow_add-end-in-Two : goal.build-overflow_add-end-in-Two
build-overflow_add-end-in-Two t c = let w = word-inside c.requires.ready.spelt c.word_end-end.ensures in omega (arith, w.1)

pub build-two-requires : goal.build-two-requires
build-two-requires t c = let r = c.requires.ready in let w = word-inside r.spelt c.word_end-end.ensures in (omega (arith, w.0, w.1), two_operands r (two_here r.spelt c.word_end-end.ensures c.kind_named-kind.ensures c.shape_of.ensures c.in-Two.is))

pub build-overflow_add-end-in-Three : goal.build-overflow_add-end-in-Three
build-overflow_add-end-in-Three t c = let w = word-inside c.requires.ready.spelt c.word_end-end.ensures in omega (arith, w.1)

pub build-three-requires : goal.build-three-requires
build-three-requires t c = let r = c.requires.ready in let w = word-inside r.spelt c.word_end-end.ensures in (omega (arith, w.0, w.1), three-operands r (three-here r.spelt c.word_end-end.ensures c.kind_named-kind.ensures c.shape_of.ensures c.in-Three.is))

pub build-returns-in-Wrong : goal.build-returns-in-Wrong
build-returns-in-Wrong t c = record { all = λ vs e s. leaf-laid s c.word_end-end.ensures c.kind_named-kind.ensures c.shape_of.ensures c.in-Wrong.is c.leaf.ensures c.put.ensures }

pub build-returns-in-Bare : goal.build-returns-in-Bare
build-returns-in-Bare t c = record { all = λ vs e s. bare-laid s c.word_end-end.ensures c.kind_named-kind.ensures c.shape_of.ensures c.in-Bare.is c.operator.ensures c.put-in-Bare.ensures }

pub build-returns-in-Valued : goal.build-returns-in-Valued
build-returns-in-Valued t c =
    let s = c.requires.ready.spelt in
    absurd (elim c.in-Valued.is [
      | inl h ↦ never s c.word_end-end.ensures c.kind_named-kind.ensures c.shape_of.ensures h refl refl
      | inr h ↦ never s c.word_end-end.ensures c.kind_named-kind.ensures c.shape_of.ensures h refl refl
    ])

pub build-returns-in-One : goal.build-returns-in-One
build-returns-in-One t c = record { all = λ vs e s. one-laid s c.word_end-end.ensures c.kind_named-kind.ensures c.shape_of.ensures c.in-One.is c.one.ensures }

pub build-returns-in-Two : goal.build-returns-in-Two
build-returns-in-Two t c = record { all = λ vs e s. two-laid s c.word_end-end.ensures c.kind_named-kind.ensures c.shape_of.ensures c.in-Two.is c.two.ensures }

pub build-returns-in-Three : goal.build-returns-in-Three
build-returns-in-Three t c = record { all = λ vs e s. three-laid s c.word_end-end.ensures c.kind_named-kind.ensures c.shape_of.ensures c.in-Three.is c.three.ensures }

pub one-build-a-requires : goal.one-build-a-requires
one-build-a-requires t c = (omega arith, one-ask c.requires)

pub one-overflow_sub-a : goal.one-overflow_sub-a
one-overflow_sub-a t c = let k = one_kept c.requires c.build-a.ensures in omega (arith, k.some)

pub one-operator-requires : goal.one-operator-requires
one-operator-requires t c = let k = one_kept c.requires c.build-a.ensures in (omega (arith, k.few), omega arith, omega arith)

pub one-put-requires : goal.one-put-requires
one-put-requires t c = let k = one_kept c.requires c.build-a.ensures in (k.few, omega (arith, k.inside))

pub one-returns : goal.one-returns
one-returns t c = one-built c.build-a.ensures c.operator.ensures c.put.ensures

pub three-build-a-requires : goal.three-build-a-requires
three-build-a-requires t c = (omega arith, three-ask c.requires)

pub three-overflow_add-a : goal.three-overflow_add-a
three-overflow_add-a t c = let l = three-end c.requires c.build-a.ensures in omega (arith, l.1)

pub three-build-b-requires : goal.three-build-b-requires
three-build-b-requires t c = let o = c.requires in let l = three-end o c.build-a.ensures in (omega (arith, l.0, l.1), three-ask-2 o c.build-a.ensures (omega arith))

pub three-overflow_add-b : goal.three-overflow_add-b
three-overflow_add-b t c = let l = three-end-2 c.requires c.build-a.ensures c.build-b.ensures in omega (arith, l.1)

pub three-build-c-requires : goal.three-build-c-requires
three-build-c-requires t c = let o = c.requires in let m = three-end o c.build-a.ensures in let l = three-end-2 o c.build-a.ensures c.build-b.ensures in (omega (arith, m.0, l.0, l.1), three-ask-3 o c.build-a.ensures c.build-b.ensures (omega arith))

pub three-overflow_sub-a : goal.three-overflow_sub-a
three-overflow_sub-a t c = let k = three-kept c.requires c.build-a.ensures in omega (arith, k.some)

pub three-overflow_sub-b : goal.three-overflow_sub-b
three-overflow_sub-b t c = let k = three-kept-2 c.requires c.build-a.ensures c.build-b.ensures in omega (arith, k.some)

pub three-overflow_sub-c : goal.three-overflow_sub-c
three-overflow_sub-c t c = let k = three-kept-3 c.requires c.build-a.ensures c.build-b.ensures c.build-c.ensures in omega (arith, k.some)

pub three-operator-requires : goal.three-operator-requires
three-operator-requires t c = let o = c.requires in let k = three-kept o c.build-a.ensures in let j = three-kept-2 o c.build-a.ensures c.build-b.ensures in let i = three-kept-3 o c.build-a.ensures c.build-b.ensures c.build-c.ensures in (omega (arith, k.few), omega (arith, j.few), omega (arith, i.few))

pub three-put-requires : goal.three-put-requires
three-put-requires t c = let k = three-kept-3 c.requires c.build-a.ensures c.build-b.ensures c.build-c.ensures in (k.few, omega (arith, k.inside))

pub three-returns : goal.three-returns
three-returns t c = three-built c.build-a.ensures c.build-b.ensures c.build-c.ensures c.operator.ensures c.put.ensures

pub two-build-a-requires : goal.two-build-a-requires
two-build-a-requires t c = (omega arith, two-ask c.requires)

pub two-overflow_add-a : goal.two-overflow_add-a
two-overflow_add-a t c = let l = two-end c.requires c.build-a.ensures in omega (arith, l.1)

pub two-build-b-requires : goal.two-build-b-requires
two-build-b-requires t c = let o = c.requires in let l = two-end o c.build-a.ensures in (omega (arith, l.0, l.1), two-ask-2 o c.build-a.ensures (omega arith))

pub two-overflow_sub-a : goal.two-overflow_sub-a
two-overflow_sub-a t c = let k = two-kept c.requires c.build-a.ensures in omega (arith, k.some)

pub two-overflow_sub-b : goal.two-overflow_sub-b
two-overflow_sub-b t c = let k = two-kept-2 c.requires c.build-a.ensures c.build-b.ensures in omega (arith, k.some)

pub two-operator-requires : goal.two-operator-requires
two-operator-requires t c = let o = c.requires in let k = two-kept o c.build-a.ensures in let j = two-kept-2 o c.build-a.ensures c.build-b.ensures in (omega (arith, k.few), omega (arith, j.few), omega arith)

pub two-put-requires : goal.two-put-requires
two-put-requires t c = let k = two-kept-2 c.requires c.build-a.ensures c.build-b.ensures in (k.few, omega (arith, k.inside))

pub two-returns : goal.two-returns
two-returns t c = two-built c.build-a.ensures c.build-b.ensures c.operator.ensures c.put.ensures
