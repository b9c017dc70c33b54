-- Document 01's starred cases, by running the definitions: what `read` answers of each sheet, once, and from that what the other calls answer. Assumes nothing.
use Prim.Native.Nat.{ℕ}
use mathlib.Core.Path.{◌≡◌, refl, sym, ap, ◌∙◌}
use mathlib.Core.Bool.{true, false}
use mathlib.Core.List.{List, [], ◌∷◌, map}
use mathlib.Core.Option.{Option, none, some}
use lib.Dec.{leb}
use lib.IntN.{ℤ}
use lib.ListN.{length, get_or}
use Rattle.std.specs.Prelude.{Result, Ok}
use Rattle.refusals.specs.declared.Refused.{Refused}
use Rattle.lists.specs.Places.{all_below}
use Rattle.lists.specs.Course.{below, course}
use Rattle.lists.specs.First.{first}
use Rattle.numbers.specs.Two.{enc, dec}
use Rattle.numbers.specs.Decimal.{decimal_in, decimal}
use Rattle.numbers.specs.Ranges.{is_narrow, has_narrow_ends, least_of, greatest_of}
use Rattle.meaning.specs.Value.{value}
use Rattle.meaning.specs.Cases.{size_of, cases_of, holds, failures, first_failure, held, failed}
use Rattle.kinds.specs.Kinds.{find, kind_of}
use Rattle.layout.specs.Checks.{weighted, check_of, block_right}
use Rattle.layout.specs.Starts.{start_at}
use Rattle.layout.specs.Goal.{tree_at}
use Rattle.layout.specs.Parts.{variable_count, rule_in}
use Rattle.layout.specs.Fold.{of_tree, of_node}
use Rattle.refusals.specs.declared.Refusal.{Refusal}
use Rattle.blocks.specs.Early.{length_right, early}
use Rattle.header.specs.Header.{zeros, counts_right, tail_clear, outside_clear, header}
use Rattle.lists.specs.Names.{same_bytes}
use Rattle.layout.specs.Limits.{most_nodes}
use Rattle.records.specs.Variables.{is_letter, is_name_byte, all_name_bytes, name_right, variable_right, fresh}
use Rattle.findings.specs.Findings.{finding_of}
use Rattle.order.specs.Order.{rightly_placed}
use Rattle.nodes.specs.Nodes.{typed, node_refusal, nodes}
use Rattle.reading.specs.Cascade.{refusal_of}
use Rattle.odometer.specs.Limit.{most_cases, case_count}
use Rattle.cases.specs.declared.Verdict.{Verdict}
use Rattle.cases.specs.Checks.{check_refusal, checked_said, is_some, with_case, Checks}
use Rattle.cases.specs.Tallies.{Tallies}
use Rattle.wording.specs.Sixteen.{hex_digit, hex_text, literal, symbol_text}
use Rattle.wording.specs.Form.{sixteen}
use Rattle.wording.specs.Script.{script}
use Rattle.room.specs.Room.{over}
use Rattle.writer.specs.Writes.{script_refusal, Writes}
use Rattle.agreement.specs.Starred.{StarredCase, EachMet, starred_cases}

-- ---- what `read` answers of each sheet
reads : map (λ (c : StarredCase). refusal_of most_nodes c.sheet) starred_cases
    ≡ some (record { number = 4; place = 0 }) ∷ none ∷ none ∷ none ∷ none ∷ none ∷ none ∷ some (record { number = 8; place = 2 }) ∷ none ∷ some (record { number = 8; place = 1 }) ∷ none ∷ []
unfolding all_below below course first dec is_narrow has_narrow_ends least_of greatest_of find kind_of weighted check_of block_right start_at of_node length_right early zeros counts_right tail_clear outside_clear header is_letter is_name_byte all_name_bytes name_right same_bytes variable_right fresh finding_of rightly_placed typed node_refusal nodes refusal_of
reads = refl

-- in row n
in_row : {a b : List (Option Refusal)} (n : ℕ) → a ≡ b → get_or a n none ≡ get_or b n none
in_row n e = ap (λ (l : List (Option Refusal)). get_or l n none) e

-- ---- what the other calls answer of an accepted sheet
module _ (s : List ℕ) (e : refusal_of most_nodes s ≡ none) where
  writes_as : (room : List ℕ) {t : List ℕ} → script (sixteen false) (rule_in s) ≡ t → leb (length t) (length room) ≡ true → Writes most_nodes (sixteen false) s room (Ok (length t)) (over t room)
  unfolding script_refusal
  writes_as room {t} p enough =
      let d : script_refusal most_nodes (sixteen false) s (length room) ≡ none = rw (e, p, enough) in
      record { answer = rw (d, p); room = rw (d, p) }

  module _ (few : leb (case_count (rule_in s)) most_cases ≡ true) where
    tallies-as : {h f : ℕ} → held (rule_in s) ≡ h → failed (rule_in s) ≡ f → Tallies most_nodes s (record { reading = Ok tt; held = h; failed = f })
    tallies-as p q = record { answer = rw (e, few); held-count = rw (e, few, p); failed-count = rw (e, few, q) }

    checks-as : (room : List ℤ) {f : Option (List ℤ)} {r : Result Verdict Refused} → leb (variable_count s) (length room) ≡ true → first_failure (rule_in s) ≡ f → checked_said r ≡ (none, is_some f) → Checks most_nodes s room r (with_case f room)
    unfolding check_refusal
    checks-as room enough p said =
        let d : check_refusal most_nodes s (length room) ≡ none = rw (e, few, enough) in
        record { answer = said ∙ rw (d, p); room = rw (d, p) }

-- ---- the table: one row behind another, and one claim behind another
◌&◌ : {A B : Type 0} → A → B → A × B
a & b = (a, b)

infixr 20 ◌&◌
pub starred : EachMet starred_cases
unfolding value size_of cases_of holds failures first_failure held failed tree_at below course first enc dec least_of greatest_of find kind_of of_tree of_node finding_of hex_digit decimal_in decimal hex_text literal symbol_text script over
starred =
    (sym (in_row 0 reads) & tt)
    & (sym (in_row 1 reads) & checks-as _ (in_row 1 reads) refl _ refl refl refl & tallies-as _ (in_row 1 reads) refl refl refl & writes_as _ (in_row 1 reads) _ refl refl & tt)
    & (checks-as _ (in_row 2 reads) refl _ refl refl refl & tallies-as _ (in_row 2 reads) refl refl refl & tt)
    & (checks-as _ (in_row 3 reads) refl _ refl refl refl & tallies-as _ (in_row 3 reads) refl refl refl & tt)
    & (writes_as _ (in_row 4 reads) _ refl refl & tt)
    & (writes_as _ (in_row 5 reads) _ refl refl & tt)
    & (sym (in_row 6 reads) & refl & tt)
    & (sym (in_row 7 reads) & tt)
    & (sym (in_row 8 reads) & refl & refl & tt)
    & (sym (in_row 9 reads) & tt)
    & (sym (in_row 10 reads) & refl & tt)
    & tt
