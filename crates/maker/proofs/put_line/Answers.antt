-- `maker::put_line` meets its contract: the line's words one after another. Assumes nothing.
use native.Mathlib.Omega.{arith}
use Rattle.maker.proofs.LineLaws.{name-inside, low-inside, high-inside, end-inside, between-ready, line-laid}
use Rattle.maker.proofs.put_line.Goals as goal

pub overflow_add-name : goal.overflow_add-name
overflow_add-name c = let h = c.requires in omega (arith, name-inside _ h.declarable h.words)

pub word_end-p-requires : goal.word_end-p-requires
word_end-p-requires c = let h = c.requires in omega (arith, name-inside _ h.declarable h.words)

pub overflow_add-p : goal.overflow_add-p
overflow_add-p c = let h = c.requires in omega (arith, low-inside _ h.declarable h.words c.word_end-p.ensures)

pub word_end-q-requires : goal.word_end-q-requires
word_end-q-requires c = let h = c.requires in omega (arith, low-inside _ h.declarable h.words c.word_end-p.ensures)

pub overflow_add-q : goal.overflow_add-q
overflow_add-q c = let h = c.requires in omega (arith, high-inside _ h.declarable h.words c.word_end-p.ensures c.word_end-q.ensures)

pub word_end-r-requires : goal.word_end-r-requires
word_end-r-requires c = let h = c.requires in omega (arith, high-inside _ h.declarable h.words c.word_end-p.ensures c.word_end-q.ensures)

pub put_between-requires : goal.put_between-requires
put_between-requires c = let h = c.requires in between-ready _ h.declarable h.words c.word_end-p.ensures c.word_end-q.ensures c.word_end-r.ensures h.few h.room

pub overflow_add-result : goal.overflow_add-result
overflow_add-result c = let h = c.requires in omega (arith, end-inside _ h.declarable h.words c.word_end-p.ensures c.word_end-q.ensures c.word_end-r.ensures)

pub returns : goal.returns
returns c = record { all = λ v d h. line-laid v d h c.word_end-p.ensures c.word_end-q.ensures c.word_end-r.ensures c.put_between.ensures }
