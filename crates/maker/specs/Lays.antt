-- Follows the code: a variable's line in a text, and what laying its record and the whole sheet asks and leaves.
use Rattle.std.specs.Prelude.{ℕ, suc, ◌+◌, ◌-◌, ◌≤◌, ◌<◌, ◌≡◌, true, List, ◌++◌, leb, length, take, drop, replicate}
use Rattle.std.proofs.Math.Option.{Option}
use Rattle.lists.specs.Ascii.{ascii}
use Rattle.lists.specs.Joined.{joined}
use Rattle.lists.specs.First.{◌otherwise◌}
use Rattle.numbers.specs.Decimal.{signed}
use Rattle.numbers.specs.Ranges.{◌⋯◌}
use Rattle.meaning.specs.Rule.{Variable}
use Rattle.layout.specs.Limits.{block_bytes, most_name_bytes, most_variables, most_nodes, sheet_bytes}
use Rattle.refusals.specs.declared.Refusal.{Refusal}
use Rattle.refusals.specs.Said.{unless}
use Rattle.reading.specs.Cascade.{refusal_of}
use Rattle.texts.specs.Expressions.{records_of, Draft, draft_sheet}
use Rattle.texts.specs.Plain.{variable_line}
use Rattle.texts.specs.Texts.{Declarable, Says, Text}
use Rattle.texts.specs.Numbers.{is_number, number_of}
use Rattle.sheets.specs.Laying.{with_variable, with_variables}
use Rattle.building.specs.Building.{WordsAt, Declares}

-- the bytes from a place to another, and the variable that a name and two numbers between such places give
abbrev pub between : List ℕ → ℕ → ℕ → List ℕ
between text at end = take (end - at) (drop at text)

abbrev pub variable_between : List ℕ → ℕ → ℕ → ℕ → ℕ → Variable
variable_between text at p q r = record { name = between text at p; domain = number_of (between text (p + 1) q) ⋯ number_of (between text (q + 1) r) }

-- they stand in order, the numbers are such, and the record has room
pub record BetweenReady (text : List ℕ) (at p q r i size : ℕ) : Type 0 where
  pub name : at ≤ p
  pub low : p + 1 ≤ q
  pub high : q + 1 ≤ r
  pub inside : r ≤ length text
  pub short : p ≤ at + most_name_bytes
  pub low-number : is_number (between text (p + 1) q) ≡ true
  pub high-number : is_number (between text (q + 1) r) ≡ true
  pub few : i < most_variables
  pub room : block_bytes ≤ size

-- a variable's words
abbrev pub line_words : Variable → List ℕ
line_words v = ascii "var " ++ (v.name ++ (ascii " " ++ (signed v.domain.low ++ (ascii " " ++ signed v.domain.high))))

-- some variable's line stands at a place, and its record has room
pub record LineReady (text : List ℕ) (at i size : ℕ) : Type 0 where
  pub variable : Variable
  pub declarable : Declarable variable
  pub words : WordsAt text at (line_words variable)
  pub few : i < most_variables
  pub room : block_bytes ≤ size

-- whatever variable's line stands there, the place behind it, and its record in the sheet
pub record LineLaid (v : Variable) (at i : ℕ) (before : List ℕ) (r : ℕ) (after : List ℕ) : Type 0 where
  pub place : r ≡ at + suc (length (line_words v))
  pub sheet : after ≡ with_variable i v before

pub record LinePut (text : List ℕ) (at i : ℕ) (before : List ℕ) (r : ℕ) (after : List ℕ) : Type 0 where
  pub all : (v : Variable) → Declarable v → WordsAt text at (line_words v) → LineLaid v at i before r after

-- the text begins with the lines of some variables, so many, and their records have room
pub record LinesReady (text : List ℕ) (count size : ℕ) : Type 0 where
  pub variables : List Variable
  pub declares : Declares text count variables
  pub few : count ≤ most_variables
  pub room : block_bytes ≤ size

pub record LinesLaid (vs : List Variable) (before : List ℕ) (r : ℕ) (after : List ℕ) : Type 0 where
  pub place : r ≡ length (joined variable_line vs)
  pub sheet : after ≡ with_variables 0 vs before

pub record LinesPut (text : List ℕ) (count : ℕ) (before : List ℕ) (r : ℕ) (after : List ℕ) : Type 0 where
  pub all : (vs : List Variable) → Declares text count vs → LinesLaid vs before r after

-- how many variables and nodes a text has, within the limits, and a sheet of their size
pub record Counts (s : List ℕ) (variables nodes : ℕ) : Type 0 where
  pub text : Text s
  pub variables-are : (d : Draft) → Says s d → length d.variables ≡ variables
  pub nodes-are : (d : Draft) → Says s d → length (records_of d.goal 0) ≡ nodes

pub record SheetReady (text : List ℕ) (variables nodes room : ℕ) : Type 0 where
  pub counts : Counts text variables nodes
  pub few : variables ≤ most_variables
  pub most : nodes ≤ most_nodes
  pub size : room ≡ sheet_bytes nodes

-- a sheet's own refusal, then 9 at its bytes
unfoldable pub sheet_refusal : ℕ → List ℕ → ℕ → Option Refusal
sheet_refusal limit s room = refusal_of limit s otherwise unless (leb (length s) room) 9 (length s)

-- whatever draft the text says, its sheet, where the room was zero
pub record Lays (text before after : List ℕ) : Type 0 where
  pub all : (d : Draft) → Says text d → before ≡ replicate (length before) 0 → after ≡ draft_sheet d
