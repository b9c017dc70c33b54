-- Answers worked out by running the definitions: numbers, and each request about small sheets. Assumes nothing.
use Prim.Native.Nat.{ℕ}
use mathlib.Core.Path.{◌≡◌, refl}
use mathlib.Core.List.{List, [], ◌∷◌, ◌++◌, map}
use lib.IntN.{pos, negsuc}
use lib.ListN.{replicate}
use Rattle.lists.specs.Ascii.{ascii}
use Rattle.lists.specs.Places.{all_below}
use Rattle.lists.specs.Course.{below, course}
use Rattle.lists.specs.First.{first}
use Rattle.numbers.specs.Two.{enc, dec}
use Rattle.numbers.specs.Ranges.{is_narrow, has_narrow_ends, least_of, greatest_of}
use Rattle.meaning.specs.Value.{value}
use Rattle.meaning.specs.Cases.{size_of, cases_of, holds, failures, first_failure, held, failed}
use Rattle.kinds.specs.Kinds.{find, kind_of}
use Rattle.layout.specs.Checks.{weighted, check_of, sealed, block_right}
use Rattle.layout.specs.Starts.{start_at}
use Rattle.layout.specs.Goal.{tree_at}
use Rattle.layout.specs.Fold.{of_tree, of_node}
use Rattle.layout.specs.Sheet.{sheet_of}
use Rattle.layout.proofs.Example.{sheet_a}
use Rattle.blocks.specs.Early.{length_right, early}
use Rattle.header.specs.Header.{zeros, counts_right, tail_clear, outside_clear, header}
use Rattle.lists.specs.Names.{same_bytes}
use Rattle.records.specs.Variables.{is_letter, is_name_byte, all_name_bytes, name_right, variable_right, fresh}
use Rattle.findings.specs.Findings.{finding_of}
use Rattle.order.specs.Order.{rightly_placed}
use Rattle.nodes.specs.Nodes.{typed, node_refusal, nodes}
use Rattle.reading.specs.Cascade.{refusal_of}
use Rattle.wording.specs.Sixteen.{hex_digit, hex_text, literal, symbol_text}
use Rattle.wording.specs.Script.{script}
use Rattle.numbers.specs.Decimal.{decimal_in, decimal, signed}
use Rattle.layout.specs.Limits.{most_nodes}
use Rattle.phrases.specs.Phrases.{numbers_text, numbers_line, refusal_line, name_value, name_values}
use Rattle.answers.specs.declared.Request.{Request}
use Rattle.answers.specs.declared.Request.TheVariants.{Read, Script, Ask, Check, Tally}
use Rattle.answers.specs.Answers.{answered, failing, check_line, script_answer, answer_text}

-- ---- numbers
pub numbers : map signed (pos 0 ∷ pos 9 ∷ pos 10 ∷ pos 65535 ∷ negsuc 0 ∷ negsuc 32767 ∷ []) ≡ ascii "0" ∷ ascii "9" ∷ ascii "10" ∷ ascii "65535" ∷ ascii "-1" ∷ ascii "-32768" ∷ []
unfolding decimal_in decimal signed
numbers = refl

pub negative : name_value (ascii "x") (negsuc 32767) ≡ ascii " x=-32768"
unfolding decimal_in decimal signed name_value
negative = refl

-- ---- answers: a request, the sheet and the text
abbrev Row : Type 0
Row = Request × List ℕ × List ℕ

-- no variables and a goal that is true: edition 1, one node of kind 1, and the checks
abbrev always : List ℕ
always = (1 ∷ 0 ∷ 1 ∷ []) ++ (replicate 507 0 ++ (5 ∷ 0 ∷ 1 ∷ (replicate 509 0 ++ (3 ∷ 0 ∷ []))))

abbrev table : List Row
table =
    (Read, sheet_a, ascii "accepted\n")
    ∷ (Script, sheet_a, ascii "(set-logic QF_UFBV)\n(declare-fun v0 () (_ BitVec 16))\n(declare-fun v1 () (_ BitVec 16))\n(assert (and (bvsle #x0000 v0) (bvsle v0 #x0001)))\n(assert (and (bvsle #x0000 v1) (bvsle v1 #x0001)))\n(assert (not (= v0 v1)))\n(check-sat)\n(exit)\n")
    ∷ (Ask, sheet_a, ascii "(set-option :produce-models true)\n(set-logic QF_UFBV)\n(declare-fun v0 () (_ BitVec 16))\n(declare-fun v1 () (_ BitVec 16))\n(assert (and (bvsle #x0000 v0) (bvsle v0 #x0001)))\n(assert (and (bvsle #x0000 v1) (bvsle v1 #x0001)))\n(assert (not (= v0 v1)))\n(check-sat)\n(get-value (v0 v1))\n(exit)\n")
    ∷ (Check, sheet_a, ascii "fails seated=0 trained=1\n")
    ∷ (Check, always, ascii "holds\n")
    ∷ (Tally, sheet_a, ascii "held 2 failed 2\n")
    ∷ (Tally, always, ascii "held 1 failed 0\n")
    ∷ (Read, [], ascii "refused 1 at 0\n")
    ∷ (Script, [], ascii "refused 1 at 0\n")
    ∷ (Ask, [], ascii "refused 1 at 0\n")
    ∷ (Check, [], ascii "refused 1 at 0\n")
    ∷ (Tally, [], ascii "refused 1 at 0\n")
    ∷ []

pub answers : map (λ (r : Row). answer_text most_nodes r.0 r.1) table ≡ map (λ (r : Row). r.2) table
unfolding value size_of cases_of holds failures first_failure held failed tree_at all_below below course first enc dec is_narrow has_narrow_ends least_of greatest_of find kind_of weighted check_of sealed block_right start_at of_tree of_node sheet_of length_right early zeros counts_right tail_clear outside_clear header is_letter is_name_byte all_name_bytes name_right same_bytes variable_right fresh finding_of rightly_placed typed node_refusal nodes refusal_of hex_digit hex_text literal symbol_text script decimal_in decimal signed numbers_text numbers_line refusal_line answered name_value name_values failing check_line script_answer answer_text
answers = refl
