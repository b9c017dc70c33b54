-- Each promise with a premise, applied to sheet A of document 01, whose rule fails in two of four cases, and to the sheet of edge case 11 (-3..2 times -4..5 is at
-- most 12), whose rule holds in all 60; and to these sheets with other names. So each premise is seen to be met. Assumes nothing.
use Prim.Native.Nat.{ℕ, ◌+◌, ◌/◌, ◌≤◌, ◌<◌}
use mathlib.Core.Path.{◌≡◌, refl, sym, ap, ◌∙◌}
use mathlib.Core.Logic.{inl, ⊎_elim}
use mathlib.Core.Bool.{Bool, true, false}
use mathlib.Core.List.Memᴰ
use mathlib.Core.List.{List, [], ◌∷◌, ◌++◌, map}
use mathlib.Core.Option.{Option, none, some}
use native.Mathlib.Omega.{arith}
use denote.Ref.{Bor}
use lib.Dec.{lit<, lit≤}
use lib.IntN.{ℤ, pos, negsuc}
use lib.ListN.{length, set, take, drop}
use Rattle.std.specs.Prelude.{Ok}
use Rattle.lists.specs.Ascii.{ascii}
use Rattle.lists.specs.Places.{all_below}
use Rattle.lists.specs.Course.{below, course}
use Rattle.lists.specs.First.{first}
use Rattle.numbers.specs.Two.{enc, dec}
use Rattle.numbers.specs.Decimal.{decimal_in, decimal}
use Rattle.numbers.specs.Bytes.{byte_at}
use Rattle.numbers.specs.Ranges.{Narrow, In, ◌⋯◌, is_narrow, has_narrow_ends, least_of, greatest_of}
use Rattle.meaning.specs.Value.{value}
use Rattle.meaning.specs.Tree.{var}
use Rattle.meaning.specs.Rule.{Case, value_in}
use Rattle.meaning.specs.Cases.{size_of, cases_of, holds, AllHold, failures, first_failure, held, failed}
use Rattle.meaning.specs.CaseOrder.{FirstFailing}
use Rattle.meaning.proofs.Failures.{first-fails}
use Rattle.kinds.specs.declared.Kind.{Kind}
use Rattle.kinds.specs.Kinds.{find, kind_of}
use Rattle.kinds.specs.Rows.{itself, operand}
use Rattle.layout.specs.Limits.{block_bytes, most_nodes}
use Rattle.layout.specs.Checks.{weighted, check_of, block_right}
use Rattle.layout.specs.Starts.{start_at}
use Rattle.layout.specs.Goal.{tree_at}
use Rattle.layout.specs.Parts.{node_count, variable_count, rule_in}
use Rattle.layout.specs.Sheet.{sheet_of}
use Rattle.layout.specs.Fold.{of_tree, of_node}
use Rattle.layout.proofs.Agree.{domain-nameless}
use Rattle.layout.proofs.Example.{are_bytes, bytes-by}
use Rattle.refusals.specs.declared.Refusal.{Refusal}
use Rattle.refusals.specs.Rows.{Answered}
use Rattle.blocks.specs.Block.{BlockPart}
use Rattle.blocks.specs.Early.{length_right, early}
use Rattle.header.specs.Header.{zeros, counts_right, tail_clear, outside_clear, header}
use Rattle.lists.specs.Names.{same_bytes}
use Rattle.records.specs.Variables.{is_letter, is_name_byte, all_name_bytes, name_right, variable_right, fresh}
use Rattle.findings.specs.declared.Finding.TheVariants.{Integer}
use Rattle.findings.specs.Findings.{finding_of, finding_at}
use Rattle.order.specs.Order.{rightly_placed}
use Rattle.nodes.specs.Nodes.{typed, node_refusal, nodes}
use Rattle.reading.specs.Rows.{sheet_rows}
use Rattle.reading.specs.Cascade.{refusal_of}
use Rattle.reading.specs.Lawful.{Allowed}
use Rattle.reading.specs.Name.{NamePart}
use Rattle.reading.proofs.Exact.{sheet-exactly}
use Rattle.reading.proofs.Ranges.{node_value, in-range, in-16-bits}
use Rattle.odometer.specs.Limit.{most_cases, case_count}
use Rattle.cases.specs.declared.Verdict.TheVariants.{Holds, Fails}
use Rattle.cases.specs.Checks.{Checks}
use Rattle.cases.specs.Tallies.{Tallies}
use Rattle.smtlib.specs.Tokens.{digit_value}
use Rattle.smtlib.specs.Values.{bit_vec}
use Rattle.smtlib.specs.Terms.{number_of}
use Rattle.smtlib.specs.Commands.{Declaration}
use Rattle.smtlib.specs.Satisfaction.{declared, Satisfies}
use Rattle.wording.specs.Sixteen.{hex_digit, hex_text, literal, symbol_text}
use Rattle.wording.specs.Form.{sixteen}
use Rattle.wording.specs.Binary.{in_bits}
use Rattle.wording.specs.Script.{script}
use Rattle.writer.specs.Writes.{enough_room}
use Rattle.replies.specs.Says.{SpellsSetting, SpellsCase}
use Rattle.replies.proofs.Spelled.{spells-setting}
use Rattle.digits.specs.Hashes.{place_behind}
use Rattle.trial.specs.declared.Replied.TheVariants.{Fails as believed}
use Rattle.trial.specs.Replies.{Replies}
use Rattle.trial.specs.Digits.{DigitsPart}
use Rattle.agreement.specs.Starred.{sheet_from, sheet_a, sheet8, sheet11}
use Rattle.agreement.specs.Statements.{Sheet, setting_of, Matched, SettingsListed}
use Rattle.agreement.specs.Raised.{SameAnswers, OverLimit, nodes as too_many}
use Rattle.agreement.proofs.Rooms.{rooms-kept}
use Rattle.agreement.proofs.Raised.{accepted-kept}
use Rattle.agreement.proofs.Believed.{replies-believed, replies-satisfy, digits-read}
use Rattle.agreement.proofs.Proved.{held as held-in-16}
use Rattle.agreement.proofs.Proved.{tallied, checked, sheet-of-rule, rule-of-sheet, one-byte-changed, holds-where, first-named, in-sixteen, room-enough, name-empty, block-empty, match, match-in-bits, check-agrees, tally-agrees, same-script}

-- ---- what is computed of a sheet, and of one with other names
pub record Facts : Type 0 where
  pub are-bytes : Bool × Bool
  pub refusals : Option Refusal × Option Refusal
  pub at-248 : Option Refusal
  pub variables : ℕ
  pub size : ℕ
  pub cases : ℕ
  pub first : Option (List ℤ)
  pub held-cases : ℕ
  pub failed-cases : ℕ

abbrev pub facts_of : List ℕ → List ℕ → Facts
facts_of s other = record {
  are-bytes = (are_bytes s, are_bytes other);
  refusals = (refusal_of most_nodes s, refusal_of most_nodes other);
  at-248 = refusal_of 248 s;
  variables = variable_count s;
  size = length s;
  cases = case_count (rule_in s);
  first = first_failure (rule_in s);
  held-cases = held (rule_in s);
  failed-cases = failed (rule_in s);
}

-- two variables in two blocks, so many cases that held and failed, and the first that failed
abbrev pub accepting : ℕ → ℕ → Option (List ℤ) → Facts
accepting h f c = record { are-bytes = (true, true); refusals = (none, none); at-248 = none; variables = 2; size = 1024; cases = h + f; first = c; held-cases = h; failed-cases = f }

pub record Computed (s other : List ℕ) (held_cases failed_cases : ℕ) (first_case : Option (List ℤ)) : Type 0 where
  pub facts : facts_of s other ≡ accepting held_cases failed_cases first_case
  pub scripts : (models : Bool) → script (sixteen models) (rule_in s) ≡ script (sixteen models) (rule_in other)

module _ {s other : List ℕ} {held_cases failed_cases : ℕ} {first_case : Option (List ℤ)} (c : Computed s other held_cases failed_cases first_case) (few : held_cases + failed_cases ≤ most_cases) where
  fact : {A : Type 0} (f : Facts → A) → f (facts_of s other) ≡ f (accepting held_cases failed_cases first_case)
  fact f = ap f c.facts

  pub accepts : refusal_of most_nodes s ≡ none
  accepts = fact (λ (x : Facts). x.refusals.0)

  pub first-is : first_failure (rule_in s) ≡ first_case
  first-is = fact (λ (x : Facts). x.first)

  two-variables : variable_count s ≡ 2
  two-variables = fact (λ (x : Facts). x.variables)

  pub sheet : Sheet s
  sheet = record { bytes = bytes-by s (fact (λ (x : Facts). x.are-bytes.0)); no_row = (sheet-exactly most_nodes s).passed.0 accepts }

  pub other-sheet : Sheet other
  other-sheet = record { bytes = bytes-by other (fact (λ (x : Facts). x.are-bytes.1)); no_row = (sheet-exactly most_nodes other).passed.0 (fact (λ (x : Facts). x.refusals.1)) }

  pub few-cases : case_count (rule_in s) ≤ most_cases
  few-cases = rw (fact (λ (x : Facts). x.cases)) few

  enough : (room : List ℤ) → length room ≡ 3 → variable_count s ≤ length room
  enough room l = omega (arith, two-variables)

  pub tally-is : Tallies most_nodes s (record { reading = Ok tt; held = held_cases; failed = failed_cases })
  tally-is = let e = tallied sheet few-cases in record { answer = sym e; held-count = rw (e, fact (λ (x : Facts). x.held-cases)); failed-count = rw (e, fact (λ (x : Facts). x.failed-cases)) }

  -- ---- the promises about a sheet and its script
  pub allowed-sheet : Allowed (rule_in s) × (sheet_of (rule_in s) ≡ s)
  allowed-sheet = sheet-of-rule s sheet

  pub sheet-again : Sheet (sheet_of (rule_in s)) × (rule_in (sheet_of (rule_in s)) ≡ rule_in s)
  sheet-again = rule-of-sheet (rule_in s) allowed-sheet.0

  pub byte-changed : (j b : ℕ) → j < 1024 → b < 256 → (b ≡ byte_at s j → ⊥) → refusal_of most_nodes (set s j b) ≡ some (record { number = 2; place = j / block_bytes })
  byte-changed j b h = one-byte-changed s sheet j b (rw (fact (λ (x : Facts). x.size)) h)

  -- the limit of 248 nodes accepts it too, so its answers there are these
  pub kept : SameAnswers 248 most_nodes s
  kept = (accepted-kept 248 most_nodes (lit≤ tt) s ((sheet-exactly 248 s).passed.0 (fact (λ (x : Facts). x.at-248)))).1

  module _ (models : Bool) where
    pub script-fits : length (script (sixteen models) (rule_in s)) ≤ enough_room
    script-fits = room-enough models s sheet

    pub matches : Matched (sixteen models) (rule_in s)
    matches = match models s sheet

    -- in binary too
    pub matches-in-bits : Matched (in_bits models 16) (rule_in s)
    matches-in-bits = match-in-bits models 16 (lit≤ tt) (rule_in s) allowed-sheet.0.well-formed (held-in-16 sheet)

    pub as_many : (ts : List (List ℕ)) × SettingsListed (script (sixteen models) (rule_in s)) ts × (failed_cases ≡ length ts)
    as_many = tally-agrees models s sheet few-cases _ tally-is

    -- byte 10 is of variable 0's domain
    pub same_size : length s ≡ length other
    same_size = (same-script models s other sheet other-sheet (c.scripts models)).0

    pub same-domain : byte_at s 10 ≡ byte_at other 10
    same-domain = (same-script models s other sheet other-sheet (c.scripts models)).1 10 (domain-nameless (variable_count s) 0 2 (omega arith))

  -- ---- the check, with room for three numbers
  module _ (room : List ℤ) (three : length room ≡ 3) where
    pub fails-as : {first : List ℤ} → first_case ≡ some first → Checks most_nodes s room (Ok Fails) (first ++ drop (length first) room)
    fails-as e =
        let d = checked sheet few-cases (enough room three) in
        let f = first-is ∙ e in
        record { answer = rw (d, f); room = rw (d, f) }

    pub holds_as : first_case ≡ none → Checks most_nodes s room (Ok Holds) room
    holds_as e =
        let d = checked sheet few-cases (enough room three) in
        let f = first-is ∙ e in
        record { answer = rw (d, f); room = rw (d, f) }

    -- a rule that fails: some setting satisfies the script
    pub some-setting : (models : Bool) {first : List ℤ} → first_case ≡ some first → (t : List ℕ) × Satisfies (script (sixteen models) (rule_in s)) t
    some-setting models e = (check-agrees models s sheet few-cases room _ (Ok Fails) (enough room three) (fails-as e)).0.0 refl

    -- and the case that the check names gives one
    pub named-setting : (models : Bool) {first : List ℤ} → (e : first_case ≡ some first) → Satisfies (script (sixteen models) (rule_in s)) (setting_of 16 (take (variable_count s) (first ++ drop (length first) room)))
    named-setting models e = (check-agrees models s sheet few-cases room _ (Ok Fails) (enough room three) (fails-as e)).1 refl

    -- which is the first that fails; the number past it stays
    pub first-named-as : {first : List ℤ} → first_case ≡ some first → FirstFailing (rule_in s) (take (variable_count s) (first ++ drop (length first) room))
    first-named-as e = first-named s sheet few-cases room _ (enough room three) (fails-as e)

    pub past-kept : {first : List ℤ} → first_case ≡ some first → drop (variable_count s) (first ++ drop (length first) room) ≡ drop (variable_count s) room
    past-kept e = ((rooms-kept s).0 room _ (Ok Fails) (fails-as e)).past

    -- a rule that holds: none does
    pub no-setting : (models : Bool) → first_case ≡ none → (t : List ℕ) → Satisfies (script (sixteen models) (rule_in s)) t → ⊥
    no-setting models e t h =
        let d : Ok Holds ≡ Ok Fails = (check-agrees models s sheet few-cases room room (Ok Holds) (enough room three) (holds_as e)).0.1 (t, h) in
        let z : ◌≡◌ {A = ℕ} 0 1 = cc in
        omega arith

    pub all_hold : first_case ≡ none → AllHold (rule_in s)
    all_hold e = (holds-where s sheet few-cases room room (Ok Holds) (enough room three) (holds_as e)).0 refl

-- ---- sheet A, and the same with the names a and b; the sheet of edge case 11, and the same with the names p and q
abbrev pub sheet_b : List ℕ
sheet_b = sheet_from "0100 0300 02" ("0000 0100 01 00 61" ∷ "0000 0100 01 00 62" ∷ []) "1215" ("1100 0000" ∷ "1100 0100" ∷ "0800 0000 0100" ∷ []) "7402"

abbrev pub sheet11-renamed : List ℕ
sheet11-renamed = sheet_from "0100 0500 02" ("fdff 0200 01 00 70" ∷ "fcff 0500 01 00 71" ∷ []) "0e6e" ("1100 0000" ∷ "1100 0100" ∷ "1500 0000 0100" ∷ "1000 0000 0000 0000 0c00" ∷ "0a00 0200 0300" ∷ []) "bc0d"

pub computed : Computed sheet_a sheet_b 2 2 (some (pos 0 ∷ pos 1 ∷ [])) × Computed sheet11 sheet11-renamed 60 0 none
unfolding value size_of cases_of holds failures first_failure held failed tree_at all_below below course first enc dec is_narrow has_narrow_ends least_of greatest_of find kind_of weighted check_of block_right start_at of_tree of_node length_right early zeros counts_right tail_clear outside_clear header is_letter is_name_byte all_name_bytes name_right same_bytes variable_right fresh finding_of rightly_placed typed node_refusal nodes refusal_of hex_digit hex_text literal symbol_text decimal_in decimal script
computed = (record { facts = refl; scripts = λ m. elim m [ true ↦ refl | false ↦ refl ] }, record { facts = refl; scripts = λ m. elim m [ true ↦ refl | false ↦ refl ] })

abbrev computed_a : Computed sheet_a sheet_b 2 2 (some (pos 0 ∷ pos 1 ∷ []))
computed_a = computed.0

abbrev computed11 : Computed sheet11 sheet11-renamed 60 0 none
computed11 = computed.1

-- ---- both, by the module above
abbrev three : List ℤ
three = pos 7 ∷ negsuc 7 ∷ pos 9 ∷ []

pub satisfiable-A : (models : Bool) → (t : List ℕ) × Satisfies (script (sixteen models) (rule_in sheet_a)) t
satisfiable-A models = some-setting computed_a (lit≤ tt) three refl models refl

pub named-A : (models : Bool) → Satisfies (script (sixteen models) (rule_in sheet_a)) (0 ∷ 1 ∷ [])
unfolding enc
named-A models = named-setting computed_a (lit≤ tt) three refl models refl

pub first-A : FirstFailing (rule_in sheet_a) (pos 0 ∷ pos 1 ∷ [])
first-A = first-named-as computed_a (lit≤ tt) three refl refl

pub past-A : drop 2 (pos 0 ∷ pos 1 ∷ pos 9 ∷ []) ≡ drop 2 three
past-A = past-kept computed_a (lit≤ tt) three refl refl

pub two-settings-A : (models : Bool) → (ts : List (List ℕ)) × SettingsListed (script (sixteen models) (rule_in sheet_a)) ts × (2 ≡ length ts)
two-settings-A = as_many computed_a (lit≤ tt)

pub names-alone-A : (models : Bool) → (length sheet_a ≡ length sheet_b) × (byte_at sheet_a 10 ≡ byte_at sheet_b 10)
names-alone-A models = (same_size computed_a (lit≤ tt) models, same-domain computed_a (lit≤ tt) models)

pub kept-A : SameAnswers 248 most_nodes sheet_a
kept-A = kept computed_a (lit≤ tt)

-- its three nodes are too many for a limit of two
pub over-A : OverLimit 2 sheet_a
unfolding all_below below course first dec is_narrow has_narrow_ends least_of greatest_of find kind_of weighted check_of block_right start_at of_node length_right early zeros counts_right tail_clear outside_clear header is_letter is_name_byte all_name_bytes name_right same_bytes variable_right fresh finding_of rightly_placed typed node_refusal nodes refusal_of
over-A = too_many (lit< tt) refl

pub unsatisfiable-11 : (models : Bool) (t : List ℕ) → Satisfies (script (sixteen models) (rule_in sheet11)) t → ⊥
unsatisfiable-11 models = no-setting computed11 (lit≤ tt) three refl models refl

-- no setting satisfies them, but they are accepted, and declare two symbols: in hexadecimal and in binary
abbrev two-symbols : List Declaration
two-symbols = record { name = ascii "v0"; sort = bit_vec 16 } ∷ record { name = ascii "v1"; sort = bit_vec 16 } ∷ []

pub declared-11 : (models : Bool) → declared (script (sixteen models) (rule_in sheet11)) ≡ some two-symbols
unfolding symbol_text
declared-11 models = (matches computed11 (lit≤ tt) models).declares

pub declared-in-bits-11 : (models : Bool) → declared (script (in_bits models 16) (rule_in sheet11)) ≡ some two-symbols
unfolding symbol_text
declared-in-bits-11 models = (matches-in-bits computed11 (lit≤ tt) models).declares

pub holds-11 : AllHold (rule_in sheet11)
holds-11 = all_hold computed11 (lit≤ tt) three refl refl

pub no-settings-11 : (models : Bool) → (ts : List (List ℕ)) × SettingsListed (script (sixteen models) (rule_in sheet11)) ts × (0 ≡ length ts)
no-settings-11 = as_many computed11 (lit≤ tt)

pub names-alone-11 : (models : Bool) → (length sheet11 ≡ length sheet11-renamed) × (byte_at sheet11 10 ≡ byte_at sheet11-renamed 10)
names-alone-11 models = (same_size computed11 (lit≤ tt) models, same-domain computed11 (lit≤ tt) models)

-- ---- a slice that is lent
abbrev lent : List ℕ → Bor (List ℕ)
lent s = record { ref_ptr = (0, 0); now = s }

-- ---- replies: a spelling of that case is believed; to the rule that holds none is
abbrev reply_a : List ℕ
reply_a = ascii "sat((v0 #x0000)(v1 #x0001))"

spelled-A : SpellsCase 2 reply_a (pos 0 ∷ pos 1 ∷ [])
unfolding dec symbol_text hex_text hex_digit
spelled-A = record { setting = 0 ∷ 1 ∷ []; spelled = spells-setting (0 ∷ 1 ∷ []) (refl, (refl, tt)); case = refl }

pub believed-A : Replies most_nodes sheet_a reply_a (Ok believed)
believed-A = (replies-believed sheet_a (sheet computed_a (lit≤ tt)) reply_a).1 (pos 0 ∷ pos 1 ∷ [], first-A.failing, spelled-A)

pub satisfies-A : (models : Bool) → (t : List ℕ) × Satisfies (script (sixteen models) (rule_in sheet_a)) t × SpellsSetting 2 reply_a t
satisfies-A models = (replies-satisfy models sheet_a (sheet computed_a (lit≤ tt)) reply_a).0 believed-A

pub none-believed-11 : (reply : List ℕ) → Replies most_nodes sheet11 reply (Ok believed) → ⊥
none-believed-11 reply h = let w = (replies-satisfy true sheet11 (sheet computed11 (lit≤ tt)) reply).0 h in unsatisfiable-11 true w.0 w.1

-- the digits of its second value
pub digits-A : (part : Bor (List ℕ)) → DigitsPart most_nodes sheet_a (lent reply_a) 1 part → dec 16 (number_of 16 (map digit_value part.now)) ≡ pos 1
unfolding place_behind
digits-A part p = (digits-read sheet_a (lent reply_a) part 1 p).0 (pos 0 ∷ pos 1 ∷ []) (believed-A, lit< tt) spelled-A

-- ---- a node's range, in the case (0, 1) of sheet A
pub finding-A : finding_at sheet_a 0 ≡ Integer (pos 0 ⋯ pos 1)
unfolding below course dec find kind_of of_node finding_of
finding-A = refl

pub range-A : (h : 0 < node_count sheet_a) (k : Case (rule_in sheet_a) (pos 0 ∷ pos 1 ∷ [])) → In (pos 0 ⋯ pos 1) (node_value sheet_a (accepts computed_a (lit≤ tt)) k h finding-A) × Narrow (node_value sheet_a (accepts computed_a (lit≤ tt)) k h finding-A)
range-A h k = (in-range sheet_a (accepts computed_a (lit≤ tt)) k h finding-A, in-16-bits sheet_a (accepts computed_a (lit≤ tt)) k h finding-A)

pub case-A : Case (rule_in sheet_a) (pos 0 ∷ pos 1 ∷ [])
case-A = (first-fails (rule_in sheet_a) (first-is computed_a (lit≤ tt))).0

-- ---- the second operand of its goal, in that case
pub sixteen-A : Narrow (value (value_in (pos 0 ∷ pos 1 ∷ [])) (var 1))
unfolding below course tree_at dec find kind_of
sixteen-A = in-sixteen sheet_a (sheet computed_a (lit≤ tt)) (pos 0 ∷ pos 1 ∷ []) case-A (var 1) (operand Kind.Equal (var 0, var 1) (Memᴰ.tail (Memᴰ.head refl)) itself)

-- ---- a sheet that is refused: 16,384 + 16,384 at node 2
pub refusal-8 : refusal_of most_nodes sheet8 ≡ some (record { number = 8; place = 2 })
unfolding all_below below course first dec is_narrow has_narrow_ends least_of greatest_of find kind_of weighted check_of block_right start_at of_node length_right early zeros counts_right tail_clear outside_clear header is_letter is_name_byte all_name_bytes name_right same_bytes variable_right fresh finding_of rightly_placed typed node_refusal nodes refusal_of
refusal-8 = refl

pub refused-8 : Answered (sheet_rows most_nodes sheet8) (record { number = 8; place = 2 })
refused-8 = ((sheet-exactly most_nodes sheet8).refused (record { number = 8; place = 2 })).0 refusal-8

-- ---- parts of a lent sheet: a name of sheet A, none of the sheet that is refused, and no third block of sheet A
pub name-A : (part : Bor (List ℕ)) → NamePart most_nodes (lent sheet_a) 0 part → length part.now ≡ 0 → ⊥
name-A part p e = ⊎_elim (λ w. let z : ◌≡◌ {A = ℕ} 0 1 = cc (w.1, accepts computed_a (lit≤ tt)) in omega arith) (λ l. omega (arith, two-variables computed_a (lit≤ tt))) ((name-empty (lent sheet_a) part 0 p).0 e)

pub no-name-8 : (part : Bor (List ℕ)) → NamePart most_nodes (lent sheet8) 0 part → length part.now ≡ 0
no-name-8 part p = (name-empty (lent sheet8) part 0 p).1 (inl (record { number = 8; place = 2 }, refusal-8))

pub no-block-A : (part : Bor (List ℕ)) → BlockPart (lent sheet_a) 2 part → length part.now ≡ 0
no-block-A part p = (block-empty (lent sheet_a) part 2 p).1 (inl (λ h. omega (arith, fact computed_a (lit≤ tt) (λ (x : Facts). x.size))))
