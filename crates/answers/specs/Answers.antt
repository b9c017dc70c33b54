-- The answer to a request about a sheet, in bytes: one line, or the script.
use Rattle.std.specs.Prelude.{ℕ, true, false, List, ◌++◌, ℤ}
use Rattle.std.proofs.Math.Option.{Option, none, some}
use Rattle.lists.specs.Ascii.{ascii}
use Rattle.refusals.specs.declared.Refusal.{Refusal}
use Rattle.meaning.specs.Rule.{Rule}
use Rattle.meaning.specs.Cases.{first_failure, held, failed}
use Rattle.layout.specs.Parts.{rule_in}
use Rattle.reading.specs.Cascade.{refusal_of}
use Rattle.cases.specs.Checks.{try_refusal}
use Rattle.wording.specs.Form.{Form, sixteen}
use Rattle.wording.specs.Script.{script}
use Rattle.phrases.specs.Phrases.{numbers_line, refusal_line, name_values}
use Rattle.answers.specs.declared.Request.{Request}
use Rattle.answers.specs.declared.Request.TheVariants.{Read, Script, Ask, Check, Tally}

-- the text where nothing is refused, else the refusal's line
unfoldable pub answered : Option Refusal → List ℕ → List ℕ
answered none t = t
answered (some r) t = refusal_line r

-- the line of a failing case; the check's line, by the first such case
unfoldable pub failing : Rule → List ℤ → List ℕ
failing r c = ascii "fails" ++ name_values r.variables c ++ ascii "\n"

unfoldable pub check_line : Rule → Option (List ℤ) → List ℕ
check_line r none = ascii "holds\n"
check_line r (some c) = failing r c

-- the script in a form
unfoldable pub script_answer : ℕ → Form → List ℕ → List ℕ
script_answer limit f s = answered (refusal_of limit s) (script f (rule_in s))

-- the answer to a request about the sheet s
unfoldable pub answer_text : ℕ → Request → List ℕ → List ℕ
answer_text limit Read s = answered (refusal_of limit s) (ascii "accepted\n")
answer_text limit Script s = script_answer limit (sixteen false) s
answer_text limit Ask s = script_answer limit (sixteen true) s
answer_text limit Check s = answered (try_refusal limit s) (check_line (rule_in s) (first_failure (rule_in s)))
answer_text limit Tally s = answered (try_refusal limit s) (numbers_line (ascii "held ") (held (rule_in s)) (ascii " failed ") (failed (rule_in s)))
