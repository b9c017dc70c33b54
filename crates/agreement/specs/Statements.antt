-- The promises over the whole, a definition each, in the order of the demands. Each is proved under its name in `proofs/Proved`, and its premises are met
-- in `proofs/Applied`. What each call answers stands beside it: `refusal_of`, `NamePart`, `BlockPart`, `Checks`, `Tallies`, `Writes`, `Replies`, `DigitsPart`,
-- `capi/specs/Codes`.
use Rattle.refusals.specs.declared.Refused.{Refused}
use Rattle.std.specs.Prelude.{ℕ, ◌+◌, ◌/◌, ◌≤◌, ◌<◌, ◌≡◌, Bool, true, false, ◌↔◌, ◌⊎◌, ℤ, length, set, take, drop, Result, Ok, Err}
use mathlib.Core.List.{List, map, Memᴰ}
use Rattle.std.proofs.Math.Option.{some}
use Rattle.std.specs.Borrow.{Bor}
use Rattle.lists.specs.Places.{from, NoRepeats}
use Rattle.lists.specs.Part.{SamePart}
use Rattle.refusals.specs.declared.Refusal.{Refusal}
use Rattle.refusals.specs.Rows.{Exactly}
use Rattle.numbers.specs.Two.{enc, dec}
use Rattle.numbers.specs.Bytes.{byte_at, Bytes}
use Rattle.numbers.specs.Ranges.{Narrow}
use Rattle.meaning.specs.declared.Sort.TheVariants.{Integer}
use Rattle.meaning.specs.Tree.{Tree}
use Rattle.meaning.specs.Value.{value}
use Rattle.meaning.specs.Rule.{Rule, Case, value_in}
use Rattle.meaning.specs.Cases.{cases_of, Failing, AllHold, held, failed}
use Rattle.meaning.specs.CaseOrder.{Earlier, Rising, FirstFailing}
use Rattle.kinds.specs.Rows.{PartOf}
use Rattle.layout.specs.Limits.{block_bytes, most_nodes}
use Rattle.layout.specs.Checks.{check_of, content, stored_check, Inside}
use Rattle.layout.specs.WellFormed.{WellFormed}
use Rattle.layout.specs.Parts.{variable_count, rule_in, Nameless}
use Rattle.layout.specs.Sheet.{sheet_of}
use Rattle.refusals.specs.Said.{said_of}
use Rattle.blocks.specs.Block.{BlockPart}
use Rattle.capi.specs.Codes.{CheckCodes, ScriptCodes, ReplyCodes, DigitsCodes}
use Rattle.reading.specs.Rows.{sheet_rows, Accepted}
use Rattle.reading.specs.Cascade.{refusal_of}
use Rattle.reading.specs.Lawful.{Allowed}
use Rattle.reading.specs.Name.{NamePart}
use Rattle.odometer.specs.Limit.{most_cases, case_count}
use Rattle.cases.specs.declared.Verdict.{Verdict}
use Rattle.cases.specs.declared.Verdict.TheVariants.{Holds, Fails}
use Rattle.cases.specs.declared.Tallied.{Tallied}
use Rattle.cases.specs.Checks.{try_refusal, check_refusal, Checks}
use Rattle.cases.specs.Tallies.{Tallies}
use Rattle.cases.specs.Rows.{tally_rows, check_rows}
use Rattle.smtlib.specs.Tokens.{digit_value}
use Rattle.smtlib.specs.Values.{bit_vec}
use Rattle.smtlib.specs.Terms.{number_of}
use Rattle.smtlib.specs.Commands.{Declaration}
use Rattle.smtlib.specs.Satisfaction.{script_of, declared, Satisfies}
use Rattle.wording.specs.Form.{Form, sixteen}
use Rattle.wording.specs.Binary.{in_bits}
use Rattle.wording.specs.Script.{script}
use Rattle.forms.specs.Readable.{Readable}
use Rattle.forms.specs.Width.{WidthHolds}
use Rattle.writer.specs.Writes.{script_refusal, enough_room, Writes}
use Rattle.writer.specs.Rows.{script_rows}
use Rattle.replies.specs.Says.{SpellsSetting, SpellsCase}
use Rattle.digits.specs.Hashes.{digits_base}
use Rattle.trial.specs.declared.Replied.{Replied}
use Rattle.trial.specs.declared.Replied.TheVariants.{Fails as Replied-as-Fails}
use Rattle.trial.specs.Replies.{Replies, RepliesInto}
use Rattle.trial.specs.Digits.{DigitsGiven, DigitsPart, DigitsSpan}

-- an accepted sheet: bytes to which no row of the table of refusals applies
pub record Sheet (s : List ℕ) : Type 0 where
  pub bytes : Bytes s
  pub no_row : Accepted most_nodes s

-- ---- demand 1: any bytes; exactly the number and place of the table, and nothing refused without that cause, whatever the limit of nodes
abbrev pub RefusedExactly : Type 0
RefusedExactly = (limit : ℕ) (s : List ℕ) → Exactly (sheet_rows limit s) (refusal_of limit s)

-- 10 and 9, for the calls that give them: the tally, the check with so many numbers of room, the writer with so many bytes, in any form. What a reply is refused
-- for stands in `Replies`
abbrev pub CallsRefusedExactly : Type 0
CallsRefusedExactly =
    (limit : ℕ) (s : List ℕ) (room : ℕ)
    → Exactly (tally_rows limit s) (try_refusal limit s) × Exactly (check_rows limit s room) (check_refusal limit s room) × ((f : Form) → Exactly (script_rows limit f s room) (script_refusal limit f s room))

-- a name is empty exactly where the sheet is refused or the variable isn't below V; a block's content, where the block isn't wholly inside or its check is wrong
abbrev pub NameEmpty : Type 0
NameEmpty =
    (sheet part : Bor (List ℕ)) (i : ℕ) → NamePart most_nodes sheet i part
    → (length part.now ≡ 0) ↔ (((r : Refusal) × (refusal_of most_nodes sheet.now ≡ some r)) ⊎ (variable_count sheet.now ≤ i))

abbrev pub BlockEmpty : Type 0
BlockEmpty =
    (sheet part : Bor (List ℕ)) (k : ℕ) → BlockPart sheet k part
    → (length part.now ≡ 0) ↔ ((Inside sheet.now k → ⊥) ⊎ (check_of k (content sheet.now k) ≡ stored_check sheet.now k → ⊥))

-- an accepted sheet is what the layout writes of its rule, and each rule that is allowed has such a sheet
abbrev pub SheetOfRule : Type 0
SheetOfRule = (s : List ℕ) → Sheet s → Allowed (rule_in s) × (sheet_of (rule_in s) ≡ s)

abbrev pub RuleOfSheet : Type 0
RuleOfSheet = (r : Rule) → Allowed r → Sheet (sheet_of r) × (rule_in (sheet_of r) ≡ r)

-- whichever one byte of an accepted sheet is altered, the answer is 2 at the block in which it stands
abbrev pub OneByteChanged : Type 0
OneByteChanged =
    (s : List ℕ) → Sheet s → (j b : ℕ) → j < length s → b < 256 → (b ≡ byte_at s j → ⊥)
    → refusal_of most_nodes (set s j b) ≡ some (record { number = 2; place = j / block_bytes })

-- ---- demand 2: the list of cases has exactly the cases, in their order, so each once
abbrev pub CasesListed : Type 0
CasesListed = (r : Rule) → ((c : List ℤ) → Memᴰ c (cases_of r) ↔ Case r c) × Rising Earlier (cases_of r)

-- held and failed are all cases, and these the product of the domain sizes
abbrev pub AllCounted : Type 0
AllCounted = (r : Rule) → (held r + failed r ≡ length (cases_of r)) × (length (cases_of r) ≡ case_count r)

-- up to 1,000,000 cases and with room for V numbers, the check says that the rule holds exactly where every case holds
abbrev pub HoldsExactly : Type 0
HoldsExactly =
    (s : List ℕ) → Sheet s → case_count (rule_in s) ≤ most_cases → (before after : List ℤ) (r : Result Verdict Refused) → variable_count s ≤ length before → Checks most_nodes s before r after
    → (r ≡ Ok Holds) ↔ AllHold (rule_in s)

-- and where it says that the rule fails, the first V numbers of the room are the first failing case
abbrev pub FirstNamed : Type 0
FirstNamed =
    (s : List ℕ) → Sheet s → case_count (rule_in s) ≤ most_cases → (before after : List ℤ) → variable_count s ≤ length before → Checks most_nodes s before (Ok Fails) after
    → FirstFailing (rule_in s) (take (variable_count s) after)

-- any bytes, any room: only a check that fails changes the room, and then nothing past V numbers
pub record CheckRoom (s : List ℕ) (before : List ℤ) (r : Result Verdict Refused) (after : List ℤ) : Type 0 where
  pub refused : (e : Refused) → r ≡ Err e → after ≡ before
  pub holds : r ≡ Ok Holds → after ≡ before
  pub past : drop (variable_count s) after ≡ drop (variable_count s) before
  pub size : length after ≡ length before

-- only a script that is written changes the room: n bytes, which are the script, and nothing past them
pub record ScriptRoom (f : Form) (s before : List ℕ) (r : Result ℕ Refused) (after : List ℕ) : Type 0 where
  pub refused : (e : Refused) → r ≡ Err e → after ≡ before
  pub written : (n : ℕ) → r ≡ Ok n → (take n after ≡ script f (rule_in s)) × (drop n after ≡ drop n before)
  pub size : length after ≡ length before

abbrev pub RoomKept : Type 0
RoomKept =
    (s : List ℕ)
    → ((before after : List ℤ) (r : Result Verdict Refused) → Checks most_nodes s before r after → CheckRoom s before r after)
    × ((f : Form) (before after : List ℕ) (r : Result ℕ Refused) → Writes most_nodes f s before r after → ScriptRoom f s before r after)

-- in no case does an operator leave 16 bits: each integer in the goal has a value in -32,768..32,767
abbrev pub InSixteenBits : Type 0
InSixteenBits = (s : List ℕ) → Sheet s → (c : List ℤ) → Case (rule_in s) c → (t : Tree Integer) → PartOf t (rule_in s).goal → Narrow (value (value_in c) t)

-- a room of 20,480 bytes is enough for every script, with models and without
abbrev pub RoomEnough : Type 0
RoomEnough = (models : Bool) (s : List ℕ) → Sheet s → length (script (sixteen models) (rule_in s)) ≤ enough_room

-- ---- demand 3: each symbol holds its variable's value in two's complement at w bits
abbrev pub setting_of : ℕ → List ℤ → List ℕ
setting_of w c = map (enc w) c

-- a symbol of the form's width for each of n variables, in order
abbrev pub symbols : Form → ℕ → List Declaration
symbols f n = from (λ i. record { name = f.symbol i; sort = bit_vec f.width }) 0 n

-- SMT-LIB accepts the script, which declares these symbols and no others; and the rule's failing cases and the settings that satisfy the script match one to one
pub record Matched (f : Form) (r : Rule) : Type 0 where
  pub declares : declared (script f r) ≡ some (symbols f (length r.variables))
  pub satisfies : (c : List ℤ) → Failing r c → Satisfies (script f r) (setting_of f.width c)
  pub apart : (c d : List ℤ) → Failing r c → Failing r d → setting_of f.width c ≡ setting_of f.width d → c ≡ d
  pub onto : (t : List ℕ) → Satisfies (script f r) t → (c : List ℤ) × Failing r c × (setting_of f.width c ≡ t)

-- for every accepted sheet and both of its scripts, whose symbols are v0 to v(V - 1)
abbrev pub Match : Type 0
Match = (models : Bool) (s : List ℕ) → Sheet s → Matched (sixteen models) (rule_in s)

-- SMT-LIB reads the same in both: what is declared, and what is asserted
abbrev pub ReadAlike : Type 0
ReadAlike = (s : List ℕ) → Sheet s → script_of (script (sixteen true) (rule_in s)) ≡ script_of (script (sixteen false) (rule_in s))

-- over any form that SMT-LIB reads as it is meant, and any width that holds the rule
abbrev pub MatchAtWidth : Type 0
MatchAtWidth = (f : Form) (m : ℕ) → Readable f m → (r : Rule) → length r.variables ≤ m → WellFormed r → WidthHolds f.width r → Matched f r

-- such a form, at every width: a constant is `#b` and so many binary digits
abbrev pub MatchInBits : Type 0
MatchInBits = (models : Bool) (w : ℕ) → 1 ≤ w → (r : Rule) → WellFormed r → WidthHolds w r → Matched (in_bits models w) r

-- up to 1,000,000 cases and with room for V numbers, the check reports a failing case exactly when some setting satisfies the script, and the case gives one
abbrev pub CheckAgrees : Type 0
CheckAgrees =
    (models : Bool) (s : List ℕ) → Sheet s → case_count (rule_in s) ≤ most_cases → (before after : List ℤ) (r : Result Verdict Refused) → variable_count s ≤ length before → Checks most_nodes s before r after
    → ((r ≡ Ok Fails) ↔ ((t : List ℕ) × Satisfies (script (sixteen models) (rule_in s)) t))
    × (r ≡ Ok Fails → Satisfies (script (sixteen models) (rule_in s)) (setting_of 16 (take (variable_count s) after)))

-- the settings that satisfy the script, each once, are as many as the tally's failed count says
pub record SettingsListed (text : List ℕ) (ts : List (List ℕ)) : Type 0 where
  pub once : NoRepeats ts
  pub are : (t : List ℕ) → Memᴰ t ts ↔ Satisfies text t

abbrev pub TallyAgrees : Type 0
TallyAgrees =
    (models : Bool) (s : List ℕ) → Sheet s → case_count (rule_in s) ≤ most_cases → (r : Tallied) → Tallies most_nodes s r
    → (ts : List (List ℕ)) × SettingsListed (script (sixteen models) (rule_in s)) ts × (r.failed ≡ length ts)

-- two accepted sheets with the same script, in one form, have one length, and differ in no byte but name lengths, names and block 0's check
abbrev pub SameScript : Type 0
SameScript =
    (models : Bool) (s t : List ℕ) → Sheet s → Sheet t → script (sixteen models) (rule_in s) ≡ script (sixteen models) (rule_in t)
    → (length s ≡ length t) × ((j : ℕ) → Nameless (variable_count s) j → byte_at s j ≡ byte_at t j)

-- ---- replies (document 02, item 1): what is believed spells a failing case, and every spelling of every failing case is believed, whoever wrote it
abbrev pub RepliesBelieved : Type 0
RepliesBelieved = (s : List ℕ) → Sheet s → (reply : List ℕ) → Replies most_nodes s reply (Ok Replied-as-Fails) ↔ ((c : List ℤ) × Failing (rule_in s) c × SpellsCase (variable_count s) reply c)

-- so, in either form, exactly the spellings of settings that satisfy the script are believed
abbrev pub RepliesSatisfy : Type 0
RepliesSatisfy =
    (models : Bool) (s : List ℕ) → Sheet s → (reply : List ℕ)
    → Replies most_nodes s reply (Ok Replied-as-Fails) ↔ ((t : List ℕ) × Satisfies (script (sixteen models) (rule_in s)) t × SpellsSetting (variable_count s) reply t)

-- each failing case has a spelling
abbrev pub CasesSpelled : Type 0
CasesSpelled = (s : List ℕ) → Sheet s → (c : List ℤ) → Failing (rule_in s) c → (reply : List ℕ) × SpellsCase (variable_count s) reply c

-- the part that `digits` gives, read as a number in two's complement, is the variable's value; the part is empty unless `sat` is accepted and the variable listed
abbrev pub DigitsRead : Type 0
DigitsRead =
    (s : List ℕ) (reply part : Bor (List ℕ)) (i : ℕ) → DigitsPart most_nodes s reply i part
    → ((c : List ℤ) → DigitsGiven most_nodes s reply.now i → SpellsCase (variable_count s) reply.now c
    → dec 16 (number_of (digits_base i reply.now) (map digit_value part.now)) ≡ value_in c i)
    × ((length part.now ≡ 0) ↔ (DigitsGiven most_nodes s reply.now i → ⊥))

-- ---- each call: no second answer and no second room fits the predicate that its `ensures` names; of a returned part, bytes and place in memory are meant
pub record OneAnswer : Type 0 where
  pub read : (s : List ℕ) (r t : Result Unit Refused) → said_of r ≡ refusal_of most_nodes s → said_of t ≡ refusal_of most_nodes s → r ≡ t
  pub name : (sheet : Bor (List ℕ)) (variable : ℕ) (p q : Bor (List ℕ)) → NamePart most_nodes sheet variable p → NamePart most_nodes sheet variable q → SamePart p q
  pub block : (sheet : Bor (List ℕ)) (k : ℕ) (p q : Bor (List ℕ)) → BlockPart sheet k p → BlockPart sheet k q → SamePart p q
  pub check : (s : List ℕ) (before x y : List ℤ) (r t : Result Verdict Refused) → Checks most_nodes s before r x → Checks most_nodes s before t y → (r ≡ t) × (x ≡ y)
  pub tally : (s : List ℕ) (r t : Tallied) → Tallies most_nodes s r → Tallies most_nodes s t → r ≡ t
  pub write-script : (f : Form) (s before x y : List ℕ) (r t : Result ℕ Refused) → Writes most_nodes f s before r x → Writes most_nodes f s before t y → (r ≡ t) × (x ≡ y)
  pub reply : (s reply : List ℕ) (r t : Result Replied Refused) → Replies most_nodes s reply r → Replies most_nodes s reply t → r ≡ t
  pub reply-into : (s reply : List ℕ) (before x y : List ℤ) (r t : Result Replied Refused) → RepliesInto most_nodes s reply before r x → RepliesInto most_nodes s reply before t y → (r ≡ t) × (x ≡ y)
  pub digits : (s : List ℕ) (reply : Bor (List ℕ)) (variable : ℕ) (p q : Bor (List ℕ)) → DigitsPart most_nodes s reply variable p → DigitsPart most_nodes s reply variable q → SamePart p q
  pub digits-span : (s reply : List ℕ) (variable a n b m : ℕ) → DigitsSpan most_nodes s reply variable a n → DigitsSpan most_nodes s reply variable b m → (a ≡ b) × (n ≡ m)
  -- of the C interface; its other answers are equations
  pub ragwashin-check : (s : List ℕ) (before x y : List ℤ) (r t : ℕ) → CheckCodes most_nodes s before r x → CheckCodes most_nodes s before t y → (r ≡ t) × (x ≡ y)
  pub ragwashin-script : (f : Form) (s before x y : List ℕ) (r t : ℕ) → ScriptCodes most_nodes f s before r x → ScriptCodes most_nodes f s before t y → (r ≡ t) × (x ≡ y)
  pub ragwashin-reply : (s reply : List ℕ) (r t : ℕ) → ReplyCodes most_nodes s reply r → ReplyCodes most_nodes s reply t → r ≡ t
  pub ragwashin-digits : (s reply : List ℕ) (variable r t : ℕ) → DigitsCodes most_nodes s reply variable r → DigitsCodes most_nodes s reply variable t → r ≡ t
