-- What `reply` answers (document 02, item 1): the refusal, or what the reply says.
use Rattle.std.specs.Prelude.{ℕ, ◌≡◌, List, ◌++◌, ℤ, drop, Result, Ok, Err}
use Rattle.std.proofs.Math.Option.{Option, none, some}
use Rattle.refusals.specs.declared.Refusal.{Refusal}
use Rattle.refusals.specs.declared.Refused.{Refused}
use Rattle.refusals.specs.Causes.{refusal_of as told_as}
use Rattle.refusals.specs.Rows.{Exactly}
use Rattle.meaning.specs.Cases.{Failing}
use Rattle.layout.specs.Parts.{variable_count, rule_in}
use Rattle.replies.specs.Says.{Claims, SpellsCase}
use Rattle.trial.specs.declared.Replied.{Replied}
use Rattle.trial.specs.declared.Replied.TheVariants.{Unsat, Fails}
use Rattle.trial.specs.Rows.{reply_rows}

abbrev pub replied_said : Result Replied Refused → Option Refusal
replied_said (Ok r) = none
replied_said (Err e) = some (told_as e)

-- unsat is claimed, or a failing case is spelled
abbrev pub Told : List ℕ → List ℕ → Result Replied Refused → Type 0
Told s reply (Ok Unsat) = Claims reply
Told s reply (Ok Fails) = (c : List ℤ) × SpellsCase (variable_count s) reply c × Failing (rule_in s) c
Told s reply (Err e) = Unit {0}

pub record Replies (limit : ℕ) (s reply : List ℕ) (r : Result Replied Refused) : Type 0 where
  pub refusals : Exactly (reply_rows limit s reply) (replied_said r)
  pub told : Told s reply r

-- the room for the case: it stands at the front where it fails, and otherwise nothing has changed
abbrev pub CaseRoom : List ℕ → List ℕ → List ℤ → Result Replied Refused → List ℤ → Type 0
CaseRoom s reply before (Ok Unsat) after = after ≡ before
CaseRoom s reply before (Ok Fails) after = (c : List ℤ) × SpellsCase (variable_count s) reply c × (after ≡ c ++ drop (variable_count s) before)
CaseRoom s reply before (Err e) after = after ≡ before

pub record RepliesInto (limit : ℕ) (s reply : List ℕ) (before : List ℤ) (r : Result Replied Refused) (after : List ℤ) : Type 0 where
  pub answer : Replies limit s reply r
  pub room : CaseRoom s reply before r after
