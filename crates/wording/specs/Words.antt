-- The words of document 01's column "text": for each kind the word behind the opening parenthesis, or the whole text of a bare one.
use Rattle.std.specs.Prelude.{ℕ, List}
use Rattle.kinds.specs.declared.Kind.{Kind}
use Rattle.kinds.specs.Kinds.{row}

abbrev pub word_of : Kind → List ℕ
word_of k = (row k).word
