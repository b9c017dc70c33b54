-- The promises about plain texts, applied to sheet A of document 01 and its text, to a text that is refused, and to bytes that are no text. So each premise is
-- seen to be met. Assumes nothing.
use Prim.Native.Nat.{ℕ, zero, suc, ◌≤◌}
use mathlib.Core.Path.{◌≡◌, refl, sym, ap, subst, ◌∙◌}
use mathlib.Core.Bool.{true}
use mathlib.Core.Logic.{◌↔◌}
use mathlib.Core.List.{List, [], ◌∷◌, ◌++◌}
use mathlib.Core.Option.{none, some}
use native.Mathlib.Omega.{arith}
use lib.Dec.{lit≤}
use lib.IntN.{pos}
use lib.Signed.{le_z_yes}
use lib.ListN.{length, take, replicate}
use Rattle.std.specs.Prelude.{Result, Ok, Err}
use Rattle.refusals.specs.declared.Cause.TheVariants.{Sort}
use Rattle.refusals.specs.declared.Refused.{Refused}
use Rattle.refusals.specs.Causes.{refusal_of as told_as}
use Rattle.lists.specs.Ascii.{ascii}
use Rattle.lists.specs.Places.{all_below}
use Rattle.lists.specs.Course.{below, course}
use Rattle.lists.specs.First.{first}
use Rattle.lists.specs.Names.{same_bytes}
use Rattle.numbers.specs.Two.{enc, dec}
use Rattle.numbers.specs.Decimal.{decimal_in, decimal, signed}
use Rattle.numbers.specs.Ranges.{◌⋯◌, is_narrow, has_narrow_ends, least_of, greatest_of}
use Rattle.meaning.specs.Rule.{Variable, Rule}
use Rattle.kinds.specs.declared.Kind.{Kind}
use Rattle.kinds.specs.Kinds.{find, kind_of}
use Rattle.layout.specs.Limits.{most_nodes, most_sheet_bytes}
use Rattle.layout.specs.Checks.{weighted, check_of, block_right, sealed}
use Rattle.layout.specs.Starts.{start_at}
use Rattle.layout.specs.Goal.{tree_at}
use Rattle.layout.specs.Parts.{rule_in}
use Rattle.layout.specs.Sheet.{sheet_with}
use Rattle.layout.specs.Fold.{of_tree, of_node}
use Rattle.refusals.specs.Rows.{Answered}
use Rattle.blocks.specs.Early.{length_right, early}
use Rattle.header.specs.Header.{zeros, counts_right, tail_clear, outside_clear, header}
use Rattle.records.specs.Variables.{is_letter, is_name_byte, all_name_bytes, name_right, variable_right, fresh}
use Rattle.findings.specs.Findings.{finding_of}
use Rattle.order.specs.Order.{rightly_placed}
use Rattle.nodes.specs.Nodes.{typed, node_refusal, nodes}
use Rattle.reading.specs.Cascade.{refusal_of}
use Rattle.reading.specs.Lawful.{Allowed}
use Rattle.grammar.specs.Begins.{Leaves}
use Rattle.grammar.specs.Stops.{stop}
use Rattle.grammar.proofs.BeginLaws.{leaves-as, no_member}
use Rattle.grammar.proofs.WordLaws.{step, behind, accepts as ends, empty}
use Rattle.room.specs.Room.{over}
use Rattle.room.specs.Written.{written_said, Fills}
use Rattle.texts.specs.Expressions.{number, variable, two, records_of, Draft, draft_of, draft_sheet}
use Rattle.texts.specs.Plain.{spelled, printed, text_of}
use Rattle.texts.specs.Texts.{Text, Says}
use Rattle.texts.specs.Numbers.{is_digit, all_digits, is_decimal, is_number}
use Rattle.texts.specs.WordKinds.{kind_in, kind_named}
use Rattle.texts.specs.Places.{separates, is_plain_name, index_in, is_declared, operands_of, allowed, final, beginning, begins_any, begins_number, begins_name, begins}
use Rattle.texts.proofs.SpellingLaws.{plain-name-decided}
use Rattle.texts.proofs.TextLaws.{text-lines}
use Rattle.texts.proofs.PlaceExactly.{place_of, leaves-exactly}
use Rattle.texts.proofs.OneLaws.{one-draft}
use Rattle.maker.specs.Rows.{draft_rows}
use Rattle.maker.specs.Makes.{draft_refusal, Makes}
use Rattle.printer.specs.Prints.{text_refusal, longest_text, Prints}
use Rattle.agreement.specs.Starred.{sheet_a}
use Rattle.agreement.specs.Statements.{Sheet}
use Rattle.agreement.specs.Texts.{NoWords, RoomOf, MadeOf}
use Rattle.capi.proofs.MadeCodes.{draft-passes}
use Rattle.agreement.proofs.Proved.{accepts, sheet-of-rule}
use Rattle.agreement.proofs.TextRefusals.{text-passes}
use Rattle.agreement.proofs.Filled.{refused}
use Rattle.agreement.proofs.Texts.{text-of-rule, one-rule, make-refused-by-row, make-room, print-room, made-sheet, text-room-enough, made-room-enough, text-sheet-text, printed-made, sheet-text-sheet, made-as-before}
use Rattle.agreement.proofs.Applied as applied

-- ---- sheet A's text, and what it says
abbrev pub text_a : List ℕ
text_a = ascii "var seated 0 1\nvar trained 0 1\ngoal eq seated trained\n"

abbrev bit : List ℕ → Variable
bit name = record { name = name; domain = pos 0 ⋯ pos 1 }

abbrev pub draft_a : Draft
draft_a = record { variables = bit (ascii "seated") ∷ bit (ascii "trained") ∷ []; goal = two Kind.Equal (variable 0) (variable 1) }

pub record ComputedA : Type 0 where
  pub text : text_of (rule_in sheet_a) ≡ text_a
  pub draft : draft_of (rule_in sheet_a) ≡ draft_a
  pub sheet : draft_sheet draft_a ≡ sheet_a
  pub names : (is_plain_name (ascii "seated") ≡ true) × (is_plain_name (ascii "trained") ≡ true)

pub computed_a : ComputedA
unfolding below course enc dec decimal_in decimal signed find kind_of weighted check_of sealed tree_at of_tree sheet_with is_letter is_name_byte all_name_bytes name_right same_bytes records_of spelled printed kind_in kind_named is_plain_name
computed_a = record { text = refl; draft = refl; sheet = refl; names = (refl, refl) }

pub sheet-A : Sheet sheet_a
sheet-A = applied.sheet (applied.computed).0 (lit≤ tt)

pub allowed-A : Allowed (rule_in sheet_a)
allowed-A = (sheet-of-rule sheet_a sheet-A).0

pub no-words-A : NoWords (rule_in sheet_a)
no-words-A zero l = ((plain-name-decided (ascii "seated")).0 computed_a.names.0).no_word
no-words-A (suc zero) l = ((plain-name-decided (ascii "trained")).0 computed_a.names.1).no_word
no-words-A (suc (suc i)) l = absurd (omega arith)

pub says-A : Says text_a draft_a
says-A = subst (λ (t : List ℕ). Says t draft_a) computed_a.text (subst (Says (text_of (rule_in sheet_a))) computed_a.draft (text-of-rule (rule_in sheet_a) allowed-A no-words-A))

-- no other rule has this text
pub one-rule-A : (q : Rule) → Allowed q → NoWords q → text_of q ≡ text_a → q ≡ rule_in sheet_a
one-rule-A q a avoid e = one-rule q (rule_in sheet_a) a avoid allowed-A no-words-A (e ∙ sym computed_a.text)

-- ---- made and printed, each with a byte of room to spare
abbrev sheet-room : List ℕ
sheet-room = replicate 1025 0

abbrev text-room : List ℕ
text-room = replicate 55 0

draft-passes-A : draft_refusal most_nodes draft_a 1025 ≡ none
unfolding records_of
draft-passes-A = draft-passes most_nodes draft_a 1025 (record {
  few = lit≤ tt;
  most = lit≤ tt;
  accepted = ap (refusal_of most_nodes) computed_a.sheet ∙ accepts sheet-A;
  fits = subst (λ (s : List ℕ). length s ≤ 1025) (sym computed_a.sheet) (lit≤ tt);
})

text-fits-A : length (text_of (rule_in sheet_a)) ≤ 55
text-fits-A = subst (λ (t : List ℕ). length t ≤ 55) (sym computed_a.text) (lit≤ tt)

text-passes-A : text_refusal most_nodes sheet_a 55 ≡ none
text-passes-A = text-passes most_nodes sheet_a 55 (accepts sheet-A) no-words-A text-fits-A

fills-A : Fills (draft_refusal most_nodes draft_a 1025) (draft_sheet draft_a) sheet-room (Ok 1024) (sheet_a ++ (0 ∷ []))
unfolding over
fills-A = rw (draft-passes-A, computed_a.sheet) (record { answer = refl; room = refl })

pub makes-A : Makes most_nodes text_a sheet-room (Ok 1024) (sheet_a ++ (0 ∷ []))
makes-A = record {
  off = λ p w. absurd (no_member Text w (record { draft = draft_a; says = says-A }));
  said = λ d w. subst (λ (e : Draft). Fills (draft_refusal most_nodes e 1025) (draft_sheet e) sheet-room (Ok 1024) (sheet_a ++ (0 ∷ []))) (one-draft says-A w) fills-A;
}

pub prints-A : Prints most_nodes sheet_a text-room (Ok 54) (text_a ++ (0 ∷ []))
unfolding over
prints-A = rw (text-passes-A, computed_a.text) (record { answer = refl; room = refl })

pub made-sheet-A : MadeOf text_a sheet-room 1024 (sheet_a ++ (0 ∷ []))
made-sheet-A = made-sheet text_a sheet-room _ 1024 makes-A

pub make-room-A : length (sheet_a ++ (0 ∷ [])) ≡ length sheet-room
make-room-A = (make-room text_a sheet-room _ (Ok 1024) makes-A).1

pub print-room-A : RoomOf (text_of (rule_in sheet_a)) text-room (Ok 54) (text_a ++ (0 ∷ []))
print-room-A = print-room sheet_a text-room _ (Ok 54) prints-A

pub text-short-A : length (text_of (rule_in sheet_a)) ≤ longest_text
text-short-A = text-room-enough sheet_a sheet-A

pub made-short-A : length (draft_sheet draft_a) ≤ most_sheet_bytes
unfolding records_of
made-short-A = made-room-enough text_a draft_a says-A (lit≤ tt) (lit≤ tt)

-- ---- there and back
pub text-again-A : (room left : List ℕ) (r : Result ℕ Refused) → 54 ≤ length room → Prints most_nodes (take 1024 (sheet_a ++ (0 ∷ []))) room r left → (r ≡ Ok 54) × (take 54 left ≡ text_a)
text-again-A = text-sheet-text text_a sheet-room _ 1024 makes-A

pub sheet-again-A : (n : ℕ) × (◌≡◌ {A = Result ℕ Refused} (Ok 54) (Ok n)) × ((room left : List ℕ) (t : Result ℕ Refused) → 1024 ≤ length room → Makes most_nodes (take n (text_a ++ (0 ∷ []))) room t left → (t ≡ Ok 1024) × (take 1024 left ≡ sheet_a))
sheet-again-A = sheet-text-sheet sheet_a sheet-A no-words-A text-room _ (Ok 54) text-fits-A prints-A

pub made-A : (before after : List ℕ) (r : Result ℕ Refused) → 1024 ≤ length before → Makes most_nodes text_a before r after → (r ≡ Ok 1024) × (take 1024 after ≡ sheet_a)
made-A before after r l h =
    let e = (sheet-of-rule sheet_a sheet-A).1 in
    subst (λ (s : List ℕ). length s ≤ length before → (r ≡ Ok (length s)) × (take (length s) after ≡ s)) e
    (λ k. printed-made (rule_in sheet_a) allowed-A no-words-A before after r k (subst (λ (t : List ℕ). Makes most_nodes t before r after) (sym computed_a.text) h)) l

-- the limit of 248 nodes made the same
pub as-before-A : (before after : List ℕ) (r : Result ℕ Refused) → Makes 248 text_a before r after ↔ Makes most_nodes text_a before r after
unfolding records_of
as-before-A = made-as-before 248 most_nodes (lit≤ tt) text_a (λ d w. subst (λ (e : Draft). length (records_of e.goal 0) ≤ 248) (one-draft says-A w) (lit≤ tt))

-- ---- a text that is refused: its goal is a number, 7 at node 2
abbrev pub text_b : List ℕ
text_b = ascii "goal add 1 2\n"

abbrev pub draft_b : Draft
draft_b = record { variables = []; goal = two Kind.Sum (number (pos 1)) (number (pos 2)) }

abbrev seventh : Refused
seventh = record { cause = Sort; place = 2 }

pub says-B : Says text_b draft_b
unfolding printed spelled signed decimal decimal_in
says-B = record { variables = tt; goal = (refl, record { low = le_z_yes tt; high = le_z_yes tt }, record { low = le_z_yes tt; high = le_z_yes tt }); text = refl }

refusal-B : (room : ℕ) → draft_refusal most_nodes draft_b room ≡ some (told_as seventh)
unfolding all_below below course first enc dec is_narrow has_narrow_ends least_of greatest_of find kind_of weighted check_of block_right sealed start_at of_node sheet_with length_right early zeros counts_right tail_clear outside_clear header is_letter is_name_byte all_name_bytes name_right same_bytes variable_right fresh finding_of rightly_placed typed node_refusal nodes refusal_of records_of draft_refusal
refusal-B room = refl

pub refused-B : (before after : List ℕ) (r : Result ℕ Refused) → Makes most_nodes text_b before r after → (r ≡ Err seventh) × (after ≡ before)
refused-B before after r h = refused (h.said draft_b says-B) (refusal-B (length before))

pub row-B : (before after : List ℕ) (r : Result ℕ Refused) → Makes most_nodes text_b before r after → Answered (draft_rows most_nodes draft_b (length before)) (told_as seventh)
row-B before after r h = (((make-refused-by-row most_nodes text_b before after r h).1 draft_b says-B).refused (told_as seventh)).0 (ap (λ (x : Result ℕ Refused). (written_said x).0) (refused-B before after r h).0)

-- ---- bytes that are no text: `not` is a word and no name, 18 at the space behind it
abbrev pub text_c : List ℕ
text_c = ascii "var not 0 1\ngoal true\n"

place-C : place_of text_c ≡ some 7
unfolding stop step behind ends empty same_bytes is_letter is_name_byte all_name_bytes name_right is_digit all_digits is_decimal is_number separates kind_in kind_named is_plain_name index_in is_declared operands_of allowed final beginning begins_any begins_number begins_name begins
place-C = refl

pub leaves-C : Leaves Text text_c 7
leaves-C = (leaves-as text-lines text_c 7).1 ((leaves-exactly text_c 7).0 place-C)

pub refused-C : (before after : List ℕ) (r : Result ℕ Refused) → Makes most_nodes text_c before r after → (written_said r).0 ≡ some (record { number = 18; place = 7 })
refused-C before after r h = ((make-refused-by-row most_nodes text_c before after r h).0 7).1 leaves-C
