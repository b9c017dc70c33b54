-- The worked check and the starred cases of document 01, "Cases at each edge", in its order: one table. A row is a whole sheet's bytes and what the calls
-- answer of it, with their lent rooms before and afterwards; each answer is held to the predicate that the call's contract states.
use Rattle.refusals.specs.declared.Cause.{Cause}
use Rattle.refusals.specs.declared.Cause.TheVariants.{Counts, Range as Range-cause}
use Rattle.refusals.specs.declared.Refused.{Refused}
use Rattle.std.specs.Prelude.{ℕ, ◌+◌, ◌-◌, ◌*◌, ◌≡◌, true, false, cond, List, [], ◌∷◌, ◌++◌, eqb, ltb, ℤ, pos, negsuc, length, replicate, Result, Ok, Err}
use Prim.Native.String.{String}
use Rattle.lists.specs.Ascii.{ascii}
use Rattle.lists.specs.Joined.{joined}
use Rattle.numbers.specs.declared.Range.{Range}
use Rattle.numbers.specs.Ranges.{◌⋯◌}
use Rattle.layout.specs.Limits.{content_bytes, header_bytes, variable_bytes, node_bytes, most_nodes}
use Rattle.refusals.specs.Said.{said_of}
use Rattle.findings.specs.declared.Finding.TheVariants.{Integer}
use Rattle.findings.specs.Findings.{finding_at}
use Rattle.reading.specs.Cascade.{refusal_of}
use Rattle.cases.specs.declared.Verdict.{Verdict}
use Rattle.cases.specs.declared.Verdict.TheVariants.{Holds, Fails}
use Rattle.cases.specs.declared.Tallied.{Tallied}
use Rattle.cases.specs.Checks.{Checks}
use Rattle.cases.specs.Tallies.{Tallies}
use Rattle.wording.specs.Form.{sixteen}
use Rattle.writer.specs.Writes.{Writes}

-- ---- bytes from a text: two hexadecimal digits each, blanks passed over
abbrev pub digits : List ℕ → List ℕ
digits [] = []
digits (c ∷ cs) = elim (eqb c 32) [ true ↦ digits cs | false ↦ cond (ltb c 58) (c - 48) (c - 87) ∷ digits cs ]

abbrev pub pairs : List ℕ → List ℕ
pairs [] = []
pairs (h ∷ []) = []
pairs (h ∷ l ∷ ds) = (16 * h + l) ∷ pairs ds

abbrev pub hex : String → List ℕ
hex t = pairs (digits (ascii t))

-- the bytes, and zeros up to n of them
abbrev pub padded : ℕ → List ℕ → List ℕ
padded n t = t ++ replicate (n - length t) 0

-- block 0 from its first bytes, its variable records and its stored check, and block 1 from its node records and its stored check
abbrev pub sheet_from : String → List String → String → List String → String → List ℕ
sheet_from head variables check nodes check₁ =
    padded content_bytes (padded header_bytes (hex head) ++ joined (λ (t : String). padded variable_bytes (hex t)) variables) ++ hex check
    ++ (padded content_bytes (joined (λ (t : String). padded node_bytes (hex t)) nodes) ++ hex check₁)

-- ---- rows
pub data Claim : Type 0 where
  reads : Result Unit Refused → Claim
  finds : ℕ → Range → Claim
  checks : List ℤ → Result Verdict Refused → List ℤ → Claim
  tallies : Tallied → Claim
  writes : ℕ → Result ℕ Refused → List ℕ → Claim

-- what `read` answers, a node's range, what `check` answers and leaves in its room, what `tally` answers, and what the writer answers and leaves in a room of
-- so many zeros
abbrev pub Met : List ℕ → Claim → Type 0
Met s (reads r) = said_of r ≡ refusal_of most_nodes s
Met s (finds n r) = finding_at s n ≡ Integer r
Met s (checks room r after) = Checks most_nodes s room r after
Met s (tallies r) = Tallies most_nodes s r
Met s (writes size r after) = Writes most_nodes (sixteen false) s (replicate size 0) r after

pub record StarredCase : Type 0 where
  pub sheet : List ℕ
  pub claims : List Claim

abbrev pub AllMet : List ℕ → List Claim → Type 0
AllMet s [] = Unit {0}
AllMet s (c ∷ cs) = Met s c × AllMet s cs

abbrev pub EachMet : List StarredCase → Type 0
EachMet [] = Unit {0}
EachMet (c ∷ cs) = AllMet c.sheet c.claims × EachMet cs

-- ---- the sheets that other promises are tried on too: sheet A, and those of cases 8 and 11
abbrev pub sheet_a : List ℕ
sheet_a = sheet_from "0100 0300 02" ("0000 0100 06 00 736561746564" ∷ "0000 0100 07 00 747261696e6564" ∷ []) "32a6" ("1100 0000" ∷ "1100 0100" ∷ "0800 0000 0100" ∷ []) "7402"

abbrev pub sheet8 : List ℕ
sheet8 = sheet_from "0100 0500" [] "1100" ("1000 0000 0000 0000 0040" ∷ "1000 0000 0000 0000 0040" ∷ "1300 0000 0100" ∷ "1000 0000 0000 0000 ff7f" ∷ "0800 0200 0300" ∷ []) "b468"

abbrev pub sheet11 : List ℕ
sheet11 = sheet_from "0100 0500 02" ("fdff 0200 01 00 78" ∷ "fcff 0500 01 00 79" ∷ []) "be6f" ("1100 0000" ∷ "1100 0100" ∷ "1500 0000 0100" ∷ "1000 0000 0000 0000 0c00" ∷ "0a00 0200 0300" ∷ []) "bc0d"

-- sheet A's script
abbrev pub script_a : List ℕ
script_a = ascii "(set-logic QF_UFBV)\n(declare-fun v0 () (_ BitVec 16))\n(declare-fun v1 () (_ BitVec 16))\n(assert (and (bvsle #x0000 v0) (bvsle v0 #x0001)))\n(assert (and (bvsle #x0000 v1) (bvsle v1 #x0001)))\n(assert (not (= v0 v1)))\n(check-sat)\n(exit)\n"

abbrev pub counts : ℕ → ℕ → Claim
counts h f = tallies (record { reading = Ok tt; held = h; failed = f })

abbrev pub refuses : Cause → ℕ → Claim
refuses c p = reads (Err (record { cause = c; place = p }))

abbrev pub starred_cases : List StarredCase
starred_cases =
    -- the worked check: byte 0 is 1, byte 509 is 255 and the rest zero, stored 13 FC; the check is right, so what is wrong is the node count
    record { sheet = hex "01" ++ (replicate 508 0 ++ hex "ff 13fc"); claims = refuses Counts 0 ∷ [] }
    -- 1: sheet A
    ∷ record { sheet = sheet_a; claims = reads (Ok tt) ∷ checks (pos 7 ∷ pos 8 ∷ pos 9 ∷ []) (Ok Fails) (pos 0 ∷ pos 1 ∷ pos 9 ∷ []) ∷ counts 2 2 ∷ writes 235 (Ok 234) (script_a ++ hex "00") ∷ [] }
    -- 2: no variables, the goal is true
    ∷ record { sheet = sheet_from "0100 0100" [] "0500" ("01" ∷ []) "0300"; claims = checks (pos 7 ∷ []) (Ok Holds) (pos 7 ∷ []) ∷ counts 1 0 ∷ [] }
    -- 3: the goal is false
    ∷ record { sheet = sheet_from "0100 0100" [] "0500" ("02" ∷ []) "0400"; claims = checks (pos 7 ∷ []) (Ok Fails) (pos 7 ∷ []) ∷ counts 0 1 ∷ [] }
    -- 5: the constant -1
    ∷ record { sheet = sheet_from "0100 0300" [] "0b00" ("1000 0000 0000 0000 ffff" ∷ "1000 0000 0000 0000 ffff" ∷ "0800 0000 0100" ∷ []) "0948"; claims = writes 73 (Ok 72) (ascii "(set-logic QF_UFBV)\n(assert (not (= #xffff #xffff)))\n(check-sat)\n(exit)\n" ++ hex "00") ∷ [] }
    -- 6: the constant -32,768
    ∷ record { sheet = sheet_from "0100 0300" [] "0b00" ("1000 0000 0000 0000 0080" ∷ "1000 0000 0000 0000 0080" ∷ "0800 0000 0100" ∷ []) "4f14"; claims = writes 73 (Ok 72) (ascii "(set-logic QF_UFBV)\n(assert (not (= #x8000 #x8000)))\n(check-sat)\n(exit)\n" ++ hex "00") ∷ [] }
    -- 7: 16,384 + 16,383
    ∷ record { sheet = sheet_from "0100 0500" [] "1100" ("1000 0000 0000 0000 0040" ∷ "1000 0000 0000 0000 ff3f" ∷ "1300 0000 0100" ∷ "1000 0000 0000 0000 ff7f" ∷ "0800 0200 0300" ∷ []) "8181"; claims = reads (Ok tt) ∷ finds 2 (pos 32767 ⋯ pos 32767) ∷ [] }
    -- 8: 16,384 + 16,384
    ∷ record { sheet = sheet8; claims = refuses Range-cause 2 ∷ [] }
    -- 9: minus of -32,767..0
    ∷ record { sheet = sheet_from "0100 0400 01" ("0180 0000 01 00 78" ∷ []) "310c" ("1100 0000" ∷ "1200 0000" ∷ "1000" ∷ "0a00 0100 0200" ∷ []) "dc05"; claims = reads (Ok tt) ∷ finds 0 (negsuc 32766 ⋯ pos 0) ∷ finds 1 (pos 0 ⋯ pos 32767) ∷ [] }
    -- 10: minus of -32,768..0
    ∷ record { sheet = sheet_from "0100 0400 01" ("0080 0000 01 00 78" ∷ []) "280c" ("1100 0000" ∷ "1200 0000" ∷ "1000" ∷ "0a00 0100 0200" ∷ []) "dc05"; claims = refuses Range-cause 1 ∷ [] }
    -- 11: -3..2 times -4..5
    ∷ record { sheet = sheet11; claims = reads (Ok tt) ∷ finds 2 (negsuc 14 ⋯ pos 12) ∷ [] }
    ∷ []
