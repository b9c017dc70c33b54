-- `value` meets its contract, by its own at smaller node numbers: each shape's law at the record that was read. Assumes nothing.
use Rattle.numbers.proofs.NarrowLaws.{zero-narrow}
use Rattle.evaluator.proofs.StandingLaws.{record-inside}
use Rattle.evaluator.proofs.ValueLaws.{reached, operands, few, down, operand-narrow, wrong, bare, valued, named, one, two, three}
use Rattle.evaluator.proofs.+value.Goals as goal

pub record_at-r-requires : goal.record_at-r-requires
record_at-r-requires t c = record-inside c.requires.0 c.requires.1

pub variable-requires : goal.variable-requires
variable-requires t c = few (reached c.requires.0 c.requires.1 c.record_at-r.ensures c.shape_of.ensures c.in-Named.is)

pub value-x-requires : goal.value-x-requires
value-x-requires t c = let n = reached c.requires.0 c.requires.1 c.record_at-r.ensures c.shape_of.ensures c.in-One.is in down n c.decreases (operands n).0

pub apply-requires-in-One : goal.apply-requires-in-One
apply-requires-in-One t c = let n = reached c.requires.0 c.requires.1 c.record_at-r.ensures c.shape_of.ensures c.in-One.is in (operand-narrow n (operands n).0 c.value-x.ensures, zero-narrow)

pub value-x-requires-in-Two : goal.value-x-requires-in-Two
value-x-requires-in-Two t c = let n = reached c.requires.0 c.requires.1 c.record_at-r.ensures c.shape_of.ensures c.in-Two.is in down n c.decreases (operands n).1.0

pub value-y-requires : goal.value-y-requires
value-y-requires t c = let n = reached c.requires.0 c.requires.1 c.record_at-r.ensures c.shape_of.ensures c.in-Two.is in down n c.decreases (operands n).0

pub apply-requires-in-Two : goal.apply-requires-in-Two
apply-requires-in-Two t c = let n = reached c.requires.0 c.requires.1 c.record_at-r.ensures c.shape_of.ensures c.in-Two.is in (operand-narrow n (operands n).1.0 c.value-x-in-Two.ensures, operand-narrow n (operands n).0 c.value-y.ensures)

pub value-x-requires-in-Three : goal.value-x-requires-in-Three
value-x-requires-in-Three t c = let n = reached c.requires.0 c.requires.1 c.record_at-r.ensures c.shape_of.ensures c.in-Three.is in down n c.decreases (operands n).1.1.0

pub value-y-requires-in-Three : goal.value-y-requires-in-Three
value-y-requires-in-Three t c = let n = reached c.requires.0 c.requires.1 c.record_at-r.ensures c.shape_of.ensures c.in-Three.is in down n c.decreases (operands n).1.0

pub value-z-requires : goal.value-z-requires
value-z-requires t c = let n = reached c.requires.0 c.requires.1 c.record_at-r.ensures c.shape_of.ensures c.in-Three.is in down n c.decreases (operands n).0

pub apply-requires-in-Three : goal.apply-requires-in-Three
apply-requires-in-Three t c = let n = reached c.requires.0 c.requires.1 c.record_at-r.ensures c.shape_of.ensures c.in-Three.is in (operand-narrow n (operands n).1.1.0 c.value-x-in-Three.ensures, operand-narrow n (operands n).1.0 c.value-y-in-Three.ensures)

pub returns-in-Wrong : goal.returns-in-Wrong
returns-in-Wrong t c = wrong (reached c.requires.0 c.requires.1 c.record_at-r.ensures c.shape_of.ensures c.in-Wrong.is)

pub returns-in-Bare : goal.returns-in-Bare
returns-in-Bare t c = bare (reached c.requires.0 c.requires.1 c.record_at-r.ensures c.shape_of.ensures c.in-Bare.is) c.apply.ensures

pub returns-in-Valued : goal.returns-in-Valued
returns-in-Valued t c = valued (reached c.requires.0 c.requires.1 c.record_at-r.ensures c.shape_of.ensures c.in-Valued.is) c.constant.ensures

pub returns-in-Named : goal.returns-in-Named
returns-in-Named t c = named (reached c.requires.0 c.requires.1 c.record_at-r.ensures c.shape_of.ensures c.in-Named.is) c.variable.ensures

pub returns-in-One : goal.returns-in-One
returns-in-One t c = one (reached c.requires.0 c.requires.1 c.record_at-r.ensures c.shape_of.ensures c.in-One.is) c.value-x.ensures c.apply-in-One.ensures

pub returns-in-Two : goal.returns-in-Two
returns-in-Two t c = two (reached c.requires.0 c.requires.1 c.record_at-r.ensures c.shape_of.ensures c.in-Two.is) c.value-x-in-Two.ensures c.value-y.ensures c.apply-in-Two.ensures

pub returns-in-Three : goal.returns-in-Three
returns-in-Three t c = three (reached c.requires.0 c.requires.1 c.record_at-r.ensures c.shape_of.ensures c.in-Three.is) c.value-x-in-Three.ensures c.value-y-in-Three.ensures c.value-z.ensures c.apply-in-Three.ensures
