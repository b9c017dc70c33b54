-- What `print` answers and what it leaves in the room (document 02, item 4).
use Rattle.std.specs.Prelude.{ℕ, List, leb, length, Result}
use Rattle.std.proofs.Math.Option.{Option}
use Rattle.lists.specs.First.{◌otherwise◌, first}
use Rattle.refusals.specs.declared.Refusal.{Refusal}
use Rattle.refusals.specs.Said.{unless}
use Rattle.layout.specs.Parts.{variable_count, variable_at, rule_in}
use Rattle.reading.specs.Cascade.{refusal_of}
use Rattle.refusals.specs.declared.Refused.{Refused}
use Rattle.room.specs.Written.{Fills}
use Rattle.texts.specs.Plain.{text_of}
use Rattle.texts.specs.WordKinds.{behind_word, is_none}

-- 19 at variable i
abbrev pub word_refusal : List ℕ → ℕ → Option Refusal
word_refusal s i = unless (is_none (behind_word (variable_at s i).name)) 19 i

-- the sheet's own refusal; then 19 at the lowest variable whose name is a word; then 9 at the text's bytes
unfoldable pub text_refusal : ℕ → List ℕ → ℕ → Option Refusal
text_refusal limit s room =
    refusal_of limit s
    otherwise first (word_refusal s) 0 (variable_count s)
    otherwise unless (leb (length (text_of (rule_in s))) room) 9 (length (text_of (rule_in s)))

-- the longest text of an accepted sheet: a room of so many bytes is always enough
abbrev pub longest_text : ℕ
longest_text = 23183

abbrev pub Prints : ℕ → List ℕ → List ℕ → Result ℕ Refused → List ℕ → Type 0
Prints limit s before r after = Fills (text_refusal limit s (length before)) (text_of (rule_in s)) before r after
