-- Which sheets pass the refusals of `print`, and that a raised limit of nodes changes no refusal of a text within the old one. Assumes nothing.
use Prim.Native.Nat.{ℕ, zero, suc, ◌+◌, ◌*◌, ◌/◌, ◌%◌, ◌≤◌, ◌<◌}
use mathlib.Core.Path.{◌≡◌, refl, ap, ◌∙◌}
use mathlib.Core.Bool.{Bool, true, false, ◌&&◌}
use mathlib.Core.Logic.{⊎_elim}
use mathlib.Core.List.{List, [], ◌∷◌, ◌++◌}
use mathlib.Core.Option.{Option, none}
use native.Mathlib.Nat.{zero-add}
use native.Mathlib.Numerals.{one-add}
use native.Mathlib.Omega.{arith}
use borrow.Author.Tests.{le-leb, leb-true}
use lib.Dec.{leb}
use lib.ListN.{length, take, drop, replicate, length-append, length-take, get_or}
use Rattle.lists.specs.First.{◌otherwise◌, first}
use Rattle.lists.specs.Places.{from}
use Rattle.lists.specs.Joined.{joined}
use Rattle.lists.proofs.FirstLaws.{neither, otherwise-none, none_first}
use Rattle.lists.proofs.RunLaws.{from-same}
use Rattle.refusals.specs.declared.Refusal.{Refusal}
use Rattle.refusals.specs.Said.{unless}
use Rattle.refusals.proofs.SaidLaws.{unless-true}
use Rattle.refusals.proofs.AfterLaws.{passed, passes}
use Rattle.numbers.specs.Bytes.{pair}
use Rattle.meaning.specs.Rule.{Variable, no_variable}
use Rattle.kinds.specs.declared.Record.{Record}
use Rattle.layout.specs.Limits.{content_bytes, header_gap_bytes, variable_bytes, node_bytes, nodes_in_block, most_variables, blocks_for, sheet_bytes}
use Rattle.layout.specs.Checks.{sealed}
use Rattle.layout.specs.Parts.{node_count, variable_count, variable_at, rule_in}
use Rattle.layout.specs.Sheet.{record_bytes, variable_record, first_content, node_content, contents_with, sheet_with}
use Rattle.layout.specs.WellFormed.{FineVariable}
use Rattle.layout.proofs.PartLaws.{variable-total, variable-is}
use Rattle.layout.proofs.Written.{length-filled, length-sealed, length-variable}
use Rattle.reading.specs.Cascade.{refusal_of}
use Rattle.texts.specs.Expressions.{records_of, Draft, draft_sheet}
use Rattle.texts.specs.Plain.{text_of}
use Rattle.texts.specs.WordKinds.{is_none}
use Rattle.texts.specs.Texts.{Word, AllDeclarable}
use Rattle.texts.proofs.SpellingLaws.{no-word-none}
use Rattle.texts.proofs.TextLaws.{unknown-none}
use Rattle.drafts.proofs.Accepted.{name-bytes}
use Rattle.maker.specs.Makes.{draft_refusal}
use Rattle.printer.specs.Prints.{word_refusal, text_refusal}
use Rattle.agreement.specs.Raised.{OverLimit, long, nodes}
use Rattle.agreement.specs.Texts.{NoWords}
use Rattle.agreement.proofs.Raised.{refusal-raised}

-- ---- a sheet passes where it is accepted, no name is a word, and the room is large enough
module _ (limit : ℕ) (s : List ℕ) (room : ℕ) where
  abbrev text : List ℕ
  text = text_of (rule_in s)

  pub text-fits : text_refusal limit s room ≡ none → length text ≤ room
  unfolding text_refusal
  text-fits e =
      let a = neither (refusal_of limit s) _ e in
      (passed (first (word_refusal s) 0 (variable_count s)) (length text) room 9 (length text) a.1).1

  no-word-refused : NoWords (rule_in s) → first (word_refusal s) 0 (variable_count s) ≡ none
  no-word-refused avoid = none_first (word_refusal s) (variable_count s) 0 (λ i l h. none-at i (omega arith))
    where
      none-at : (i : ℕ) → i < variable_count s → word_refusal s i ≡ none
      none-at i l =
          let w : List ℕ = (variable_at s i).name in
          let e : get_or (rule_in s).variables i no_variable ≡ variable_at s i = variable-is s i l in
          let f : Word w → ⊥ = λ x. avoid i (omega (arith, variable-total s)) (rw e x) in
          unless-true 19 i (ap is_none (unknown-none w (no-word-none w f)))

  pub text-passes : refusal_of limit s ≡ none → NoWords (rule_in s) → length text ≤ room → text_refusal limit s room ≡ none
  unfolding text_refusal
  text-passes e avoid l = otherwise-none _ e ∙ passes (length text) room 9 (length text) (no-word-refused avoid) l

-- ---- the limit raised. A sheet of at most 16 variables is as long as its nodes ask, however many they are, and counts them
module _ (vs : List Variable) (rs : List Record) (few : length vs ≤ most_variables) (fine : AllDeclarable vs) where
  variables-long : (us : List Variable) → AllDeclarable us → length (joined variable_record us) ≡ variable_bytes * length us
  variables-long [] h = refl
  variables-long (v ∷ us) h =
      let f : FineVariable v = record { ends = h.0.ends; short = h.0.name.short; bytes = name-bytes v.name h.0.name.name } in
      length-append (variable_record v) (joined variable_record us) ∙ omega (arith, length-variable v f, variables-long us h.1)

  records-long : (qs : List Record) → length (joined record_bytes qs) ≡ node_bytes * length qs
  records-long [] = refl
  records-long (q ∷ qs) = length-append (record_bytes q) (joined record_bytes qs) ∙ omega (arith, records-long qs)

  first-long : length (first_content (length rs) vs) ≡ content_bytes
  first-long =
      let n : ℕ = length rs in
      let e = variables-long vs fine in
      length-filled (pair 1 ++ (pair n ++ ((length vs ∷ replicate header_gap_bytes 0) ++ joined variable_record vs))) (omega arith)

  node-long : (b : ℕ) → length (node_content rs b) ≡ content_bytes
  node-long b =
      let qs : List Record = take nodes_in_block (drop (nodes_in_block * b) rs) in
      length-filled (joined record_bytes qs) (omega (arith, records-long qs, length-take nodes_in_block (drop (nodes_in_block * b) rs)))

  abbrev content-of : ℕ → List ℕ
  content-of zero = first_content (length rs) vs
  content-of (suc b) = node_content rs b

  content-long : (j : ℕ) → length (content-of j) ≡ content_bytes
  content-long zero = first-long
  content-long (suc b) = node-long b

  sheet-long : length (sheet_with vs rs) ≡ sheet_bytes (length rs)
  unfolding sheet_with
  sheet-long =
      let B : ℕ = blocks_for (length rs) in
      let e : contents_with vs rs ≡ from content-of 0 (suc B) = ap (λ (l : List (List ℕ)). first_content (length rs) vs ∷ l) (from-same (node_content rs) content-of B 0 1 (λ b h. rw (zero-add, one-add))) in
      ap (λ (l : List (List ℕ)). length (sealed 0 l)) e ∙ length-sealed content-of content-long (suc B) 0 ∙ omega arith

nodes-counted : (vs : List Variable) (rs : List Record) → node_count (sheet_with vs rs) ≡ length rs
unfolding sheet_with sealed
nodes-counted vs rs = let n : ℕ = length rs in let e : n % 256 + 256 * (n / 256) ≡ n = omega arith in e

-- so a draft within the old limit is refused as before
module _ (old new : ℕ) (l : old ≤ new) (d : Draft) (fine : AllDeclarable d.variables) (within : length (records_of d.goal 0) ≤ old) where
  not-over : length d.variables ≤ most_variables → OverLimit old (draft_sheet d) → ⊥
  not-over few (long g e) = omega (arith, sheet-long d.variables (records_of d.goal 0) few fine)
  not-over few (nodes g e) = omega (arith, nodes-counted d.variables (records_of d.goal 0))

  sheet-raised : length d.variables ≤ most_variables → refusal_of new (draft_sheet d) ≡ refusal_of old (draft_sheet d)
  sheet-raised few = ⊎_elim (λ e. e) (λ w. absurd (not-over few w)) (refusal-raised old new l (draft_sheet d))

  abbrev behind-limits : ℕ → ℕ → Option Refusal
  behind-limits limit room = refusal_of limit (draft_sheet d) otherwise unless (leb (length (draft_sheet d)) room) 9 (length (draft_sheet d))

  by-variables : (room : ℕ) (b : Bool) → leb (length d.variables) most_variables ≡ b → (unless (b && true) 4 0 otherwise behind-limits new room) ≡ (unless (b && true) 4 0 otherwise behind-limits old room)
  by-variables room true e = let q = sheet-raised (leb-true (length d.variables) most_variables e) in rw q
  by-variables room false e = refl

  pub draft-raised : (room : ℕ) → draft_refusal new d room ≡ draft_refusal old d room
  unfolding draft_refusal
  draft-raised room =
      let n : ℕ = length (records_of d.goal 0) in
      let p : leb n old ≡ true = le-leb n old within in
      let q : leb n new ≡ true = le-leb n new (omega arith) in
      rw (p, q) (by-variables room (leb (length d.variables) most_variables) refl)
