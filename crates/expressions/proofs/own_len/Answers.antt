-- `expressions::own_len` meets its contract: the word of its kind, its number or its name. Assumes nothing.
use mathlib.Core.Path.{sym, ap, ◌∙◌}
use lib.ListN.{length}
use Rattle.expressions.proofs.PhraseLaws.{node-word, plain-word, named-variable, named-word}
use Rattle.expressions.proofs.own_len.Goals as goal

pub name_len-requires : goal.name_len-requires
name_len-requires c = named-variable _ _ c.record-fields.ensures.accepted c.requires c.record-fields.ensures.record c.shape_of.ensures c.in-Named.is

pub returns-in-Valued : goal.returns-in-Valued
returns-in-Valued c = c.value_len.ensures ∙ sym (ap length (node-word _ _ c.record-fields.ensures.accepted c.requires c.record-fields.ensures.record c.shape_of.ensures c.in-Valued.is))

pub returns-in-Named : goal.returns-in-Named
returns-in-Named c = c.name_len.ensures ∙ ap length (named-word _ _ c.record-fields.ensures.accepted c.requires c.record-fields.ensures.record c.shape_of.ensures c.in-Named.is)

pub returns-in_default : goal.returns-in_default
returns-in_default c = c.word_len.ensures ∙ sym (ap length (plain-word _ _ c.record-fields.ensures.accepted c.requires c.record-fields.ensures.record c.shape_of.ensures c.in_default.not-Valued c.in_default.not-Named))
