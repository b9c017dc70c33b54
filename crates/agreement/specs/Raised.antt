-- The limit of nodes raised (document 02, item 3): which answers stay, over any two limits, the old one at most the new one. Proved in `proofs/Raised` and
-- `proofs/Long`. What reads the limit has it as its first argument; the calls have `most_nodes` there. `block` reads none.
use Rattle.refusals.specs.declared.Refused.{Refused}
use Rattle.std.specs.Prelude.{ℕ, ◌≤◌, ◌<◌, ◌≡◌, Bool, ◌↔◌, ◌⊎◌, List, ℤ, length, Result}
use Rattle.std.proofs.Math.Option.{some}
use Rattle.std.specs.Borrow.{Bor}
use Rattle.layout.specs.Limits.{sheet_bytes}
use Rattle.layout.specs.Parts.{node_count, rule_in}
use Rattle.reading.specs.Rows.{Accepted}
use Rattle.reading.specs.Cascade.{refusal_of, rule_of}
use Rattle.reading.specs.Name.{NamePart}
use Rattle.cases.specs.declared.Verdict.{Verdict}
use Rattle.cases.specs.declared.Tallied.{Tallied}
use Rattle.cases.specs.Checks.{Checks}
use Rattle.cases.specs.Tallies.{Tallies}
use Rattle.wording.specs.Form.{Form, sixteen}
use Rattle.wording.specs.Script.{script}
use Rattle.writer.specs.Writes.{Writes}
use Rattle.printer.specs.Prints.{Prints}
use Rattle.trial.specs.declared.Replied.{Replied}
use Rattle.trial.specs.Replies.{Replies, RepliesInto}
use Rattle.trial.specs.Digits.{DigitsPart, DigitsSpan}
use Rattle.capi.specs.Codes.{read_code, name_code, CheckCodes, tally_code, ScriptCodes, TextCodes, ReplyCodes, DigitsCodes}
use Rattle.answers.specs.declared.Request.{Request}
use Rattle.answers.specs.Answers.{answer_text}
use Rattle.answers.specs.Replies.{WroteReply}
use Rattle.agreement.specs.Statements.{Sheet}

-- the sheet s has the same rule at both limits, and each call the same answers and rooms
pub record SameAnswers (old new : ℕ) (s : List ℕ) : Type 0 where
  pub rule : rule_of new s ≡ rule_of old s
  pub read : refusal_of new s ≡ refusal_of old s
  pub name : (sheet part : Bor (List ℕ)) (variable : ℕ) → sheet.now ≡ s → NamePart old sheet variable part ↔ NamePart new sheet variable part
  pub check : (before after : List ℤ) (r : Result Verdict Refused) → Checks old s before r after ↔ Checks new s before r after
  pub tally : (r : Tallied) → Tallies old s r ↔ Tallies new s r
  pub write-script : (f : Form) (before after : List ℕ) (r : Result ℕ Refused) → Writes old f s before r after ↔ Writes new f s before r after
  pub print : (before after : List ℕ) (r : Result ℕ Refused) → Prints old s before r after ↔ Prints new s before r after
  pub reply : (reply : List ℕ) (r : Result Replied Refused) → Replies old s reply r ↔ Replies new s reply r
  pub reply-into : (reply : List ℕ) (before after : List ℤ) (r : Result Replied Refused) → RepliesInto old s reply before r after ↔ RepliesInto new s reply before r after
  pub digits : (reply part : Bor (List ℕ)) (variable : ℕ) → DigitsPart old s reply variable part ↔ DigitsPart new s reply variable part
  pub digits-span : (reply : List ℕ) (variable start size : ℕ) → DigitsSpan old s reply variable start size ↔ DigitsSpan new s reply variable start size
  -- the C interface
  pub ragwashin-read : read_code new s ≡ read_code old s
  pub ragwashin-name : (variable : ℕ) → name_code new s variable ≡ name_code old s variable
  pub ragwashin-check : (before after : List ℤ) (r : ℕ) → CheckCodes old s before r after ↔ CheckCodes new s before r after
  pub ragwashin-tally : tally_code new s ≡ tally_code old s
  pub ragwashin-script : (f : Form) (before after : List ℕ) (r : ℕ) → ScriptCodes old f s before r after ↔ ScriptCodes new f s before r after
  pub ragwashin-text : (before after : List ℕ) (r : ℕ) → TextCodes old s before r after ↔ TextCodes new s before r after
  pub ragwashin-reply : (reply : List ℕ) (r : ℕ) → ReplyCodes old s reply r ↔ ReplyCodes new s reply r
  pub ragwashin-digits : (reply : List ℕ) (variable r : ℕ) → DigitsCodes old s reply variable r ↔ DigitsCodes new s reply variable r
  -- the program
  pub answers : (q : Request) → answer_text new q s ≡ answer_text old q s
  pub reply-line : (reply before after : List ℕ) (n : ℕ) → WroteReply old s reply before after n ↔ WroteReply new s reply before after n

-- sheets accepted before keep their answers
abbrev pub AcceptedKept : Type 0
AcceptedKept = (old new : ℕ) → old ≤ new → (s : List ℕ) → Accepted old s → Accepted new s × SameAnswers old new s

-- a refusal that the limit is the cause of: 1 for the length, or 4 for N
pub data OverLimit (limit : ℕ) (s : List ℕ) : Type 0 where
  long : sheet_bytes limit < length s → refusal_of limit s ≡ some (record { number = 1; place = 0 }) → OverLimit limit s
  nodes : limit < node_count s → refusal_of limit s ≡ some (record { number = 4; place = 0 }) → OverLimit limit s

-- and no other answer changes, of whatever bytes
abbrev pub OnlyOverLimit : Type 0
OnlyOverLimit = (old new : ℕ) → old ≤ new → (s : List ℕ) → SameAnswers old new s ⊎ OverLimit old s

-- a room of 4,096 bytes is not enough for every script, with models or without
abbrev pub LongScript : Type 0
LongScript = (models : Bool) → (s : List ℕ) × Sheet s × (4096 < length (script (sixteen models) (rule_in s)))
