-- The answers of the C interface as one number each (include/ragwashin.h). `limit` is the most nodes that a sheet may have.
use Rattle.std.specs.Prelude.{ℕ, zero, suc, ◌+◌, ◌-◌, ◌*◌, ◌/◌, ◌%◌, ◌^◌, ◌<◌, ◌≡◌, Bool, cond, ◌&&◌, List, leb, ltb, ℤ, length, Result, Ok, Err}
use Rattle.std.proofs.Math.Option.{Option, none, some}
use Rattle.refusals.specs.declared.Refusal.{Refusal}
use Rattle.meaning.specs.Cases.{first_failure, held, failed}
use Rattle.layout.specs.Limits.{block_bytes, content_bytes, name_start, variable_place}
use Rattle.layout.specs.Checks.{block_right}
use Rattle.layout.specs.Parts.{variable_count, name_size, rule_in}
use Rattle.reading.specs.Cascade.{refusal_of}
use Rattle.cases.specs.Checks.{try_refusal, check_refusal, is_some, room_after}
use Rattle.cases.specs.Tallies.{unless_refused}
use Rattle.wording.specs.Form.{Form}
use Rattle.wording.specs.Script.{script}
use Rattle.refusals.specs.declared.Refused.{Refused}
use Rattle.refusals.specs.Causes.{refusal_of as told_as}
use Rattle.room.specs.Written.{written_room}
use Rattle.texts.specs.Plain.{text_of}
use Rattle.maker.specs.Makes.{Makes}
use Rattle.printer.specs.Prints.{text_refusal}
use Rattle.writer.specs.Writes.{script_refusal}
use Rattle.digits.specs.Hashes.{digits_place, digits_size}
use Rattle.trial.specs.declared.Replied.{Replied}
use Rattle.trial.specs.declared.Replied.TheVariants.{Unsat, Fails}
use Rattle.trial.specs.Replies.{Replies}
use Rattle.trial.specs.Digits.{DigitsGiven}

-- high 16 bits the refusal's number, low 48 bits its place
abbrev pub refusal_code : Refusal → ℕ
refusal_code r = r.number * 2 ^ 48 + r.place

-- the refusal, or the answer of a call that is not refused
abbrev pub code_of : Option Refusal → ℕ → ℕ
code_of none n = n
code_of (some r) n = refusal_code r

-- what a code says, by its high 16 bits and its low 48: none and the answer, or the refusal and 0
abbrev pub said_by : ℕ → ℕ → Option Refusal × ℕ
said_by zero low = (none, low)
said_by (suc n) low = (some (record { number = suc n; place = low }), 0)

abbrev pub code_said : ℕ → Option Refusal × ℕ
code_said c = said_by (c / 2 ^ 48) (c % 2 ^ 48)

-- 0 where the sheet is accepted
abbrev pub read_code : ℕ → List ℕ → ℕ
read_code limit s = code_of (refusal_of limit s) 0

-- the name's offset in the sheet times 65,536 plus its length; 0 where no name is given
abbrev pub name_code : ℕ → List ℕ → ℕ → ℕ
name_code limit s i = unless_refused (refusal_of limit s) (cond (ltb i (variable_count s)) ((variable_place i + name_start) * 65536 + name_size s (variable_place i)) 0)

-- 510, and the part starts at 512 times k; 0 where block k is not wholly inside or its check is wrong
abbrev pub block_code : List ℕ → ℕ → ℕ
block_code s k = cond (leb (block_bytes * k + block_bytes) (length s) && block_right s k) content_bytes 0

-- the check: 0 where the rule holds and 1 where it fails, and the room as `check` leaves it
abbrev pub fails_code : Bool → ℕ
fails_code fails = cond fails 1 0

pub record CheckCodes (limit : ℕ) (s : List ℕ) (before : List ℤ) (r : ℕ) (after : List ℤ) : Type 0 where
  pub code : r ≡ code_of (check_refusal limit s (length before)) (fails_code (is_some (first_failure (rule_in s))))
  pub room : after ≡ room_after (check_refusal limit s (length before)) (first_failure (rule_in s)) before

-- the tally: held times 2^24 plus failed
abbrev pub counts_code : ℕ → ℕ → ℕ
counts_code h f = h * 2 ^ 24 + f

abbrev pub tally_code : ℕ → List ℕ → ℕ
tally_code limit s = code_of (try_refusal limit s) (counts_code (held (rule_in s)) (failed (rule_in s)))

-- a script: the bytes written, and the room as `write_script` leaves it
pub record ScriptCodes (limit : ℕ) (f : Form) (s before : List ℕ) (r : ℕ) (after : List ℕ) : Type 0 where
  pub code : r ≡ code_of (script_refusal limit f s (length before)) (length (script f (rule_in s)))
  pub room : after ≡ written_room (script_refusal limit f s (length before)) (script f (rule_in s)) before

-- a place in a reply that 48 bits don't hold is told as the greatest that they do
abbrev pub tellable : ℕ → ℕ
tellable place = cond (ltb place (2 ^ 48)) place (2 ^ 48 - 1)

-- a reply: 0 where unsat is claimed, 1 where the case fails
abbrev pub told_of : Refused → Refusal
told_of e = record { number = (told_as e).number; place = tellable e.place }

abbrev pub reply_code : Result Replied Refused → ℕ
reply_code (Ok Unsat) = 0
reply_code (Ok Fails) = 1
reply_code (Err e) = refusal_code (told_of e)

pub record ReplyCodes (limit : ℕ) (s reply : List ℕ) (r : ℕ) : Type 0 where
  pub answer : Result Replied Refused
  pub replies : Replies limit s reply answer
  pub code : r ≡ reply_code answer

-- a variable's digits: their offset in the reply times 65,536 plus their number; 0 where none are given or 48 bits don't hold the offset
pub record DigitsCodes (limit : ℕ) (s reply : List ℕ) (i r : ℕ) : Type 0 where
  pub given : DigitsGiven limit s reply i → digits_place i reply < 2 ^ 48 → r ≡ digits_place i reply * 65536 + digits_size i reply
  pub absent : (DigitsGiven limit s reply i → digits_place i reply < 2 ^ 48 → ⊥) → r ≡ 0

-- what `make` and `print` answer, as one number: the bytes written, or the refusal
abbrev pub written_code : Result ℕ Refused → ℕ
written_code (Ok n) = n
written_code (Err e) = refusal_code (told_of e)

pub record MakeCodes (limit : ℕ) (text before : List ℕ) (r : ℕ) (after : List ℕ) : Type 0 where
  pub answer : Result ℕ Refused
  pub makes : Makes limit text before answer after
  pub code : r ≡ written_code answer

pub record TextCodes (limit : ℕ) (s before : List ℕ) (r : ℕ) (after : List ℕ) : Type 0 where
  pub code : r ≡ code_of (text_refusal limit s (length before)) (length (text_of (rule_in s)))
  pub room : after ≡ written_room (text_refusal limit s (length before)) (text_of (rule_in s)) before
