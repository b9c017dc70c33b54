-- What the program says of a sheet whose text is asked for (document 02, item 4): the text, or the refusal's line.
use Rattle.std.specs.Prelude.{ℕ, List}
use Rattle.layout.specs.Parts.{rule_in}
use Rattle.texts.specs.Plain.{text_of}
use Rattle.printer.specs.Prints.{text_refusal, longest_text}
use Rattle.answers.specs.Answers.{answered}

unfoldable pub text_answer : ℕ → List ℕ → List ℕ
text_answer limit s = answered (text_refusal limit s longest_text) (text_of (rule_in s))
