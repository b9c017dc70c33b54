-- The printer refuses a sheet exactly as its table of rows says. Assumes nothing.
use Prim.Native.Nat.{ℕ, ◌≤◌, ◌<◌}
use mathlib.Core.Path.{◌≡◌, refl}
use mathlib.Core.Bool.{true, false, true≢false}
use mathlib.Core.List.{List}
use mathlib.Core.Option.{Option, none, some}
use native.Mathlib.Omega.{arith}
use borrow.Author.Tests.{le-leb}
use lib.ListN.{length}
use Rattle.lists.proofs.TestLaws.{and}
use Rattle.lists.proofs.FirstLaws.{neither}
use Rattle.refusals.specs.Rows.{Exactly, row}
use Rattle.refusals.proofs.RowLaws.{exactly-row, exactly-most, exactly-then, exactly-each}
use Rattle.layout.specs.Parts.{variable_count, variable_at, rule_in}
use Rattle.layout.specs.Limits.{most_name_bytes}
use Rattle.blocks.specs.Early.{early}
use Rattle.header.specs.Header.{header}
use Rattle.records.specs.Names.{Name, VariableKept}
use Rattle.records.specs.Variables.{variables}
use Rattle.records.proofs.NameLaws.{name-decided}
use Rattle.records.proofs.VariableLaws.{variables-none}
use Rattle.reading.specs.Cascade.{refusal_of}
use Rattle.reading.proofs.Exact.{sheet-exactly}
use Rattle.texts.specs.Plain.{text_of}
use Rattle.texts.specs.Texts.{Word}
use Rattle.texts.specs.WordKinds.{behind_word, kind_named, is_none}
use Rattle.texts.specs.Places.{is_plain_name}
use Rattle.texts.proofs.SpellingLaws.{named-kind, plain-name-decided}
use Rattle.printer.specs.Rows.{Row19, text_rows}
use Rattle.printer.specs.Prints.{word_refusal, text_refusal}
use Rattle.expressions.proofs.NameLaws.{kept-short}

-- ---- a name is a word where the test says so
no_word : (w : List ℕ) → Name w → length w ≤ most_name_bytes → is_none (behind_word w) ≡ true → Word w → ⊥
unfolding is_plain_name
no_word w n l e = ((plain-name-decided w).0 (and (and ((name-decided w).1 n) (le-leb (length w) most_name_bytes l)) e)).no_word

some_word : (w : List ℕ) → is_none (behind_word w) ≡ false → Word w
some_word w e = by (behind_word w) refl e
  where
    by : (o : Option ℕ) → behind_word w ≡ o → is_none o ≡ false → Word w
    by none h f = absurd (true≢false f)
    by (some n) h f = record { kind = kind_named w; text = (named-kind w h).1 }

-- the variables of a sheet that is not refused
kept : (limit : ℕ) (s : List ℕ) → refusal_of limit s ≡ none → (i : ℕ) → i < variable_count s → VariableKept s i
unfolding refusal_of
kept limit s e = (variables-none s).0 (neither (variables s) _ (neither (header limit s) _ (neither (early limit s) _ e).1).1).0

pub text-exactly : (limit : ℕ) (s : List ℕ) (room : ℕ) → Exactly (text_rows limit s room) (text_refusal limit s room)
unfolding text_refusal
text-exactly limit s room = exactly-then (sheet-exactly limit s) (λ e. exactly-then (exactly-each (variable_count s) 0 (λ i l h earlier. name-exactly e i (omega arith))) (λ free. exactly-most (length (text_of (rule_in s))) room 9 (length (text_of (rule_in s)))))
  where
    name-exactly : refusal_of limit s ≡ none → (i : ℕ) → i < variable_count s → Exactly (row 19 i (Row19 s i)) (word_refusal s i)
    name-exactly e i h =
        let w = (variable_at s i).name in
        let k = kept limit s e i h in
        exactly-row (is_none (behind_word w)) 19 i (no_word w k.0.name (kept-short s i k)) (some_word w)
