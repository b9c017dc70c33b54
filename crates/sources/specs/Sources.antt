-- What the program says of a text (document 02, item 4): nothing where it makes a sheet, which is then answered for; else the refusal's line, and where it points.
use Rattle.std.specs.Prelude.{ℕ, ◌+◌, ◌≡◌, List, ◌++◌, length, Result, Ok, Err}
use Rattle.std.proofs.Math.Option.{Option, none, some}
use Rattle.lists.specs.Ascii.{ascii}
use Rattle.refusals.specs.declared.Refusal.{Refusal}
use Rattle.refusals.specs.declared.Refused.{Refused}
use Rattle.refusals.specs.Causes.{refusal_of}
use Rattle.grammar.specs.Begins.{Leaves}
use Rattle.room.specs.Room.{Wrote}
use Rattle.texts.specs.Expressions.{Draft}
use Rattle.texts.specs.Texts.{Says, Text}
use Rattle.pointing.specs.Pointing.{pointed_at, line_of, column_of}
use Rattle.maker.specs.Makes.{Makes}
use Rattle.phrases.specs.Phrases.{numbers_text, refusal_line}
use Rattle.phrases.specs.Sizes.{longest_numbers, longest_refusal}

-- where a refusal of the text points: bytes that are no text, at the place where they leave the texts; a text, by what it says
pub record Points (text : List ℕ) (r : Refusal) (o : Option ℕ) : Type 0 where
  pub off : (p : ℕ) → Leaves Text text p → o ≡ some p
  pub said : (d : Draft) → Says text d → o ≡ pointed_at d r

-- the refusal's line, where it points at nothing or at place p
unfoldable pub pointed_line : List ℕ → Refusal → Option ℕ → List ℕ
pointed_line text r none = refusal_line r
pointed_line text r (some p) = numbers_text (ascii "refused ") r.number (ascii " at ") r.place ++ (numbers_text (ascii " (line ") (line_of text p) (ascii " column ") (column_of text p) ++ ascii ")\n")

-- follows the code: how long it can be
abbrev pub longest_pointed : ℕ
longest_pointed = longest_refusal + longest_numbers (length (ascii " (line ")) (length (ascii " column ")) + length (ascii ")\n")

-- such a line at the room's front
pub record WrotePointed (text : List ℕ) (r : Refusal) (before after : List ℕ) (n : ℕ) : Type 0 where
  pub place : Option ℕ
  pub points : Points text r place
  pub wrote : Wrote (pointed_line text r place) before after 0 n

-- the bytes of a sheet, and the line's room as it was; or those of the refusal's line
abbrev pub Told : List ℕ → Result ℕ Refused → List ℕ → Result ℕ ℕ → List ℕ → Type 0
Told text (Ok n) before (Ok k) after = (k ≡ n) × (after ≡ before)
Told text (Ok n) before (Err k) after = ⊥
Told text (Err e) before (Ok k) after = ⊥
Told text (Err e) before (Err k) after = WrotePointed text (refusal_of e) before after k

pub record Sourced (limit : ℕ) (text sheet line : List ℕ) (r : Result ℕ ℕ) (sheet_after line_after : List ℕ) : Type 0 where
  pub answer : Result ℕ Refused
  pub makes : Makes limit text sheet answer sheet_after
  pub told : Told text answer line r line_after
