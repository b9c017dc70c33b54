-- What is promised of plain texts (document 02, item 4). Proved in `proofs/Texts`; the premises are met in `proofs/AppliedTexts`.
use Rattle.refusals.specs.declared.Refused.{Refused}
use Rattle.std.specs.Prelude.{ℕ, ◌≤◌, ◌<◌, ◌≡◌, ◌↔◌, ◌⊎◌, List, length, take, drop, Result, Ok, Err}
use Rattle.std.proofs.Math.Option.{some}
use Rattle.refusals.specs.Rows.{Exactly}
use Rattle.meaning.specs.Rule.{Rule, variable_of}
use Rattle.layout.specs.Limits.{most_variables, most_nodes, most_sheet_bytes}
use Rattle.layout.specs.Parts.{rule_in}
use Rattle.layout.specs.Sheet.{sheet_of}
use Rattle.reading.specs.Lawful.{Allowed}
use Rattle.grammar.specs.Begins.{Leaves}
use Rattle.room.specs.Written.{written_said}
use Rattle.texts.specs.Expressions.{Draft, records_of, draft_of, draft_sheet}
use Rattle.texts.specs.Plain.{text_of}
use Rattle.texts.specs.Texts.{Word, Says, Text}
use Rattle.maker.specs.Rows.{draft_rows}
use Rattle.maker.specs.Makes.{Makes}
use Rattle.printer.specs.Rows.{text_rows}
use Rattle.printer.specs.Prints.{text_refusal, longest_text, Prints}
use Rattle.capi.specs.Codes.{MakeCodes, TextCodes}
use Rattle.agreement.specs.Statements.{Sheet}

-- the names of a rule avoid the words
abbrev pub NoWords : Rule → Type 0
NoWords r = (i : ℕ) → i < length r.variables → Word (variable_of r i).name → ⊥

-- ---- the grammar: whatever the bytes, they are a text and say one draft, or there is one place at which they leave the texts
pub record ReadOneWay (s : List ℕ) : Type 0 where
  pub either : Text s ⊎ ((p : ℕ) × Leaves Text s p)
  pub not-both : (p : ℕ) → Leaves Text s p → Text s → ⊥
  pub one_place : (p q : ℕ) → Leaves Text s p → Leaves Text s q → p ≡ q
  pub one-draft : (d e : Draft) → Says s d → Says s e → d ≡ e

abbrev pub TextsReadOneWay : Type 0
TextsReadOneWay = (s : List ℕ) → ReadOneWay s

-- each rule that is allowed and avoids the words has a text, which says it; and no second such rule has that text
abbrev pub TextOfRule : Type 0
TextOfRule = (r : Rule) → Allowed r → NoWords r → Says (text_of r) (draft_of r)

abbrev pub OneRule : Type 0
OneRule = (q r : Rule) → Allowed q → NoWords q → Allowed r → NoWords r → text_of q ≡ text_of r → q ≡ r

-- ---- refusals, whatever the limit of nodes: 18 exactly where bytes leave the texts; of a text, those of the table
abbrev pub MakeRefusedExactly : Type 0
MakeRefusedExactly =
    (limit : ℕ) (text before after : List ℕ) (r : Result ℕ Refused) → Makes limit text before r after
    → ((p : ℕ) → ((written_said r).0 ≡ some (record { number = 18; place = p })) ↔ Leaves Text text p)
    × ((d : Draft) → Says text d → Exactly (draft_rows limit d (length before)) (written_said r).0)

abbrev pub PrintRefusedExactly : Type 0
PrintRefusedExactly = (limit : ℕ) (s : List ℕ) (room : ℕ) → Exactly (text_rows limit s room) (text_refusal limit s room)

-- ---- what is written, and the room: a refusal changes nothing, and nothing past the bytes written is changed
pub record RoomOf (t before : List ℕ) (r : Result ℕ Refused) (after : List ℕ) : Type 0 where
  pub refused : (e : Refused) → r ≡ Err e → after ≡ before
  pub written : (n : ℕ) → r ≡ Ok n → (take n after ≡ t) × (drop n after ≡ drop n before)
  pub size : length after ≡ length before

-- the sheet that `make` writes is accepted, and its rule is the text's
pub record MadeOf (text before : List ℕ) (n : ℕ) (after : List ℕ) : Type 0 where
  pub sheet : Sheet (take n after)
  pub rule : Says text (draft_of (rule_in (take n after)))
  pub text-of : text ≡ text_of (rule_in (take n after))
  pub past : drop n after ≡ drop n before

abbrev pub MadeSheet : Type 0
MadeSheet = (text before after : List ℕ) (n : ℕ) → Makes most_nodes text before (Ok n) after → MadeOf text before n after

-- bytes that are no text, and refused ones, leave the room as it was
abbrev pub MakeRoom : Type 0
MakeRoom = (text before after : List ℕ) (r : Result ℕ Refused) → Makes most_nodes text before r after → ((e : Refused) → r ≡ Err e → after ≡ before) × (length after ≡ length before)

abbrev pub PrintRoom : Type 0
PrintRoom = (s before after : List ℕ) (r : Result ℕ Refused) → Prints most_nodes s before r after → RoomOf (text_of (rule_in s)) before r after

-- a room of 23,183 bytes is enough for every text, and one of 33,280 for every sheet that a text makes
abbrev pub TextRoomEnough : Type 0
TextRoomEnough = (s : List ℕ) → Sheet s → length (text_of (rule_in s)) ≤ longest_text

abbrev pub MadeRoomEnough : Type 0
MadeRoomEnough =
    (text : List ℕ) (d : Draft) → Says text d → length d.variables ≤ most_variables → length (records_of d.goal 0) ≤ most_nodes → length (draft_sheet d) ≤ most_sheet_bytes

-- ---- round trips of the calls. Text to sheet to text: each text of which a sheet is made is the printed form of that sheet
abbrev pub TextSheetText : Type 0
TextSheetText =
    (text before after : List ℕ) (n : ℕ) → Makes most_nodes text before (Ok n) after
    → (room left : List ℕ) (r : Result ℕ Refused) → length text ≤ length room → Prints most_nodes (take n after) room r left
    → (r ≡ Ok (length text)) × (take (length text) left ≡ text)

-- the printed form of an allowed rule that avoids the words is made into that rule's sheet
abbrev pub PrintedMade : Type 0
PrintedMade =
    (q : Rule) → Allowed q → NoWords q
    → (before after : List ℕ) (r : Result ℕ Refused) → length (sheet_of q) ≤ length before → Makes most_nodes (text_of q) before r after
    → (r ≡ Ok (length (sheet_of q))) × (take (length (sheet_of q)) after ≡ sheet_of q)

-- sheet to text to sheet
abbrev pub SheetTextSheet : Type 0
SheetTextSheet =
    (s : List ℕ) → Sheet s → NoWords (rule_in s)
    → (before after : List ℕ) (r : Result ℕ Refused) → length (text_of (rule_in s)) ≤ length before → Prints most_nodes s before r after
    → (n : ℕ) × (r ≡ Ok n)
    × ((room left : List ℕ) (t : Result ℕ Refused) → length s ≤ length room → Makes most_nodes (take n after) room t left → (t ≡ Ok (length s)) × (take (length s) left ≡ s))

-- ---- each call: no second answer and no second room
pub record OneTextAnswer : Type 0 where
  pub make : (text before x y : List ℕ) (r t : Result ℕ Refused) → Makes most_nodes text before r x → Makes most_nodes text before t y → (r ≡ t) × (x ≡ y)
  pub print : (s before x y : List ℕ) (r t : Result ℕ Refused) → Prints most_nodes s before r x → Prints most_nodes s before t y → (r ≡ t) × (x ≡ y)
  pub ragwashin-make : (text before x y : List ℕ) (r t : ℕ) → MakeCodes most_nodes text before r x → MakeCodes most_nodes text before t y → (r ≡ t) × (x ≡ y)
  pub ragwashin-text : (s before x y : List ℕ) (r t : ℕ) → TextCodes most_nodes s before r x → TextCodes most_nodes s before t y → (r ≡ t) × (x ≡ y)

-- ---- the limit of nodes raised (item 3): texts within the old limit are made as before
abbrev pub MadeAsBefore : Type 0
MadeAsBefore =
    (old new : ℕ) → old ≤ new → (text : List ℕ) → ((d : Draft) → Says text d → length (records_of d.goal 0) ≤ old)
    → (before after : List ℕ) (r : Result ℕ Refused) → Makes old text before r after ↔ Makes new text before r after
