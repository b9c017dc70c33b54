-- Follows the code: the tests of a case that a reply spells, and what the functions that try it ask.
use Rattle.std.specs.Prelude.{ℕ, ◌≤◌, ◌≡◌, Bool, not, ◌&&◌, List, ℤ, pos, length, get_or}
use Rattle.std.proofs.Math.Option.{Option}
use Rattle.std.specs.Int.Signed.{le_z}
use Rattle.lists.specs.First.{◌otherwise◌, first}
use Rattle.numbers.specs.declared.Range.{Range}
use Rattle.refusals.specs.declared.Refusal.{Refusal}
use Rattle.refusals.specs.Said.{unless}
use Rattle.meaning.specs.Rule.{domain_of, value_in}
use Rattle.meaning.specs.Cases.{holds}
use Rattle.layout.specs.Parts.{variable_count, rule_in}

-- x is in the range
unfoldable pub is_in : Range → ℤ → Bool
is_in d x = le_z d.low x && le_z x d.high

-- 12 at variable i
abbrev pub value_refusal : List ℕ → List ℤ → ℕ → Option Refusal
value_refusal s c i = unless (is_in (domain_of (rule_in s) i) (value_in c i)) 12 i

-- 12 at the lowest variable
unfoldable pub values_refusal : List ℕ → List ℤ → Option Refusal
values_refusal s c = first (value_refusal s c) 0 (variable_count s)

-- then 13
abbrev pub case_refusal : List ℕ → List ℤ → Option Refusal
case_refusal s c = values_refusal s c otherwise unless (not (holds (rule_in s) c)) 13 0

-- the row has a number for each variable and 0 behind them
pub record NumbersReady (s : List ℕ) (numbers : List ℤ) : Type 0 where
  pub present : variable_count s ≤ length numbers
  pub zeros : (i : ℕ) → variable_count s ≤ i → get_or numbers i (pos 0) ≡ pos 0
