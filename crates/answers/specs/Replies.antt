-- The answer to a solver's reply, in bytes: one line (document 02, item 1).
use Rattle.std.specs.Prelude.{ℕ, ◌≡◌, List, ℤ, Result, Ok, Err}
use Rattle.lists.specs.Ascii.{ascii}
use Rattle.meaning.specs.Rule.{Rule}
use Rattle.layout.specs.Parts.{variable_count, rule_in}
use Rattle.replies.specs.Says.{SpellsCase}
use Rattle.refusals.specs.declared.Refused.{Refused}
use Rattle.refusals.specs.Causes.{refusal_of as told_as}
use Rattle.trial.specs.declared.Replied.{Replied}
use Rattle.trial.specs.declared.Replied.TheVariants.{Unsat, Fails}
use Rattle.trial.specs.Replies.{Replies}
use Rattle.room.specs.Room.{Wrote}
use Rattle.phrases.specs.Phrases.{refusal_line}
use Rattle.answers.specs.Answers.{failing}

-- the line, where c is the case that the reply spells
abbrev pub reply_line : Rule → List ℤ → Result Replied Refused → List ℕ
reply_line r c (Ok Unsat) = ascii "unsat claimed\n"
reply_line r c (Ok Fails) = failing r c
reply_line r c (Err e) = refusal_line (told_as e)

-- such a line about the reply, at the room's front
pub record WroteReply (limit : ℕ) (s reply before after : List ℕ) (n : ℕ) : Type 0 where
  pub answer : Result Replied Refused
  pub replies : Replies limit s reply answer
  pub case : List ℤ
  pub spelled : answer ≡ Ok Fails → SpellsCase (variable_count s) reply case
  pub wrote : Wrote (reply_line (rule_in s) case answer) before after 0 n
