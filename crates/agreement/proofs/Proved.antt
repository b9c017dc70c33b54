-- The promises of `specs/Statements`, proved. Assumes nothing.
use Prim.Native.Nat.{ℕ, ◌+◌, ◌*◌, ◌≤◌}
use mathlib.Core.Path.{◌≡◌, refl, sym, subst, ◌∙◌}
use mathlib.Core.Logic.Iff
use mathlib.Core.Logic.{◌↔◌, ◌⊎◌, inl, inr, ⊎_elim}
use mathlib.Core.Bool.{Bool, true, false}
use mathlib.Core.List.Memᴰ
use mathlib.Core.List.{List, map, Memᴰ}
use mathlib.Core.Option.{Option, none, some}
use native.Mathlib.Decide.{dec_lt, dec_le}
use native.Mathlib.Omega.{arith}
use lib.IntN.{ℤ}
use lib.ListN.{length, take, length-map}
use Rattle.std.specs.Prelude.{Ok}
use Rattle.lists.specs.Places.{NoRepeats}
use Rattle.lists.proofs.PartLaws.{empty-where}
use Rattle.numbers.proofs.Bytes16.{narrow_within}
use Rattle.numbers.proofs.NarrowLaws.{in-narrow}
use Rattle.meaning.specs.declared.Sort.TheVariants.{Integer}
use Rattle.meaning.specs.Rule.{domain_of}
use Rattle.meaning.specs.Cases.{Failing, failures}
use Rattle.meaning.proofs.Listed.{listed, in_order, in-every}
use Rattle.meaning.proofs.Counts.{case-count, held-failed}
use Rattle.meaning.proofs.Repeats.{map-no-repeats}
use Rattle.meaning.proofs.Failures.{failures-are, failures-once, failed-is}
use Rattle.layout.specs.Limits.{block_bytes, most_nodes}
use Rattle.layout.specs.Parts.{variable_count, rule_in}
use Rattle.layout.specs.LaidOut.{LaidOut}
use Rattle.layout.specs.Sheet.{sheet_of}
use Rattle.layout.proofs.SheetBack.{sheet-laid-out}
use Rattle.layout.proofs.Agree.{lengths, agrees}
use Rattle.refusals.specs.declared.Refusal.{Refusal}
use Rattle.refusals.proofs.AfterLaws.{passes}
use Rattle.findings.proofs.SoundFindings.{tree-range, value_in_lem}
use Rattle.reading.specs.Cascade.{refusal_of}
use Rattle.reading.specs.Lawful.{Allowed}
use Rattle.reading.specs.Name.{NameGiven}
use Rattle.reading.proofs.Exact.{sheet-exactly}
use Rattle.reading.proofs.NameLaws.{given-name}
use Rattle.reading.proofs.RuleLaws.{accepted-means, rule-some, rule-exactly, rule-to-sheet, rule-allowed, sheet-to-rule}
use Rattle.reading.proofs.Change.{changed-byte}
use Rattle.odometer.specs.Limit.{most_cases, case_count}
use Rattle.cases.specs.declared.Verdict.TheVariants.{Fails}
use Rattle.cases.specs.Checks.{try_refusal, check_refusal}
use Rattle.cases.proofs.Exact.{tally-exactly, check-exactly}
use Rattle.cases.proofs.Agreement.{fails-exactly, holds-exactly, room-fails}
use Rattle.smtlib.specs.Satisfaction.{Satisfies}
use Rattle.wording.specs.Form.{sixteen}
use Rattle.wording.specs.Binary.{in_bits}
use Rattle.wording.specs.Script.{script}
use Rattle.forms.specs.Width.{WidthHolds}
use Rattle.forms.proofs.Injective.{script-injective}
use Rattle.forms.proofs.Forms.{form-read, form-declares}
use Rattle.forms.proofs.Sixteen.{form16}
use Rattle.forms.proofs.Bits.{form-bits}
use Rattle.forms.proofs.MeansMatch.{one-case}
use Rattle.forms.proofs.MeansScript.{form-means, held16}
use Rattle.writer.proofs.ScriptLaws.{script-short}
use Rattle.writer.proofs.Exact.{script-exactly}
use Rattle.agreement.specs.Statements as promise
use Rattle.agreement.specs.Statements.{Sheet, setting_of, Matched, SettingsListed}

-- ---- demand 1
pub refused-by-row : promise.RefusedExactly
refused-by-row = sheet-exactly

pub calls-refused-by-row : promise.CallsRefusedExactly
calls-refused-by-row limit s room = (tally-exactly limit s, check-exactly limit s room, λ f. script-exactly limit f s room)

pub name-empty : promise.NameEmpty
name-empty sheet part i p = Iff.trans (empty-where (λ g. let n = given-name sheet.now i g in (n.some_byte, n.inside)) p) (λ f. go (refusal_of most_nodes sheet.now) refl f, back)
  where
    go : (o : Option Refusal) → refusal_of most_nodes sheet.now ≡ o → (NameGiven most_nodes sheet.now i → ⊥) → ((r : Refusal) × (refusal_of most_nodes sheet.now ≡ some r)) ⊎ (variable_count sheet.now ≤ i)
    go (some r) e f = inl (r, e)
    go none e f = inr (elim (dec_lt i (variable_count sheet.now)) [ yes l ↦ absurd (f (e, l)) | no l ↦ omega arith ])

    back : ((r : Refusal) × (refusal_of most_nodes sheet.now ≡ some r)) ⊎ (variable_count sheet.now ≤ i) → NameGiven most_nodes sheet.now i → ⊥
    back (inl w) g = let z : ◌≡◌ {A = ℕ} 0 1 = cc (w.1, g.0) in omega arith
    back (inr l) g = omega (arith, g.1)

pub block-empty : promise.BlockEmpty
block-empty sheet part k p =
    Iff.trans (empty-where (λ g. (omega arith, omega (arith, g.0))) p)
    (λ f. elim (dec_le (block_bytes * k + block_bytes) (length sheet.now)) [ yes l ↦ inr (λ e. f (l, e)) | no l ↦ inl l ], λ w g. ⊎_elim (λ f. f g.0) (λ f. f g.1) w)

module _ {s : List ℕ} (h : Sheet s) where
  pub accepts : refusal_of most_nodes s ≡ none
  accepts = (sheet-exactly most_nodes s).passed.1 h.no_row

  pub allowed : Allowed (rule_in s)
  allowed = rule-allowed s h.bytes (rule_in s) (rule-some s accepts)

  laid_out : LaidOut s
  laid_out = ((accepted-means s h.bytes).0 accepts).0

pub sheet-of-rule : promise.SheetOfRule
sheet-of-rule s h = (allowed h, rule-to-sheet s h.bytes (rule_in s) (rule-some s (accepts h)))

pub rule-of-sheet : promise.RuleOfSheet
rule-of-sheet r a =
    let w = (rule-exactly (sheet_of r) r).0 (sheet-to-rule r a) in
    (record { bytes = (sheet-laid-out r a.well-formed).bytes; no_row = (sheet-exactly most_nodes (sheet_of r)).passed.0 w.0 }, w.1)

pub one-byte-changed : promise.OneByteChanged
one-byte-changed s h = changed-byte s h.bytes (accepts h)

-- ---- demand 2
pub cases-listed : promise.CasesListed
cases-listed r = (listed r, in_order r)

pub all-counted : promise.AllCounted
all-counted r = (held-failed r, case-count r)

module _ {s : List ℕ} (h : Sheet s) (few : case_count (rule_in s) ≤ most_cases) where
  pub tallied : try_refusal most_nodes s ≡ none
  tallied = passes (case_count (rule_in s)) most_cases 10 0 (accepts h) few

  pub checked : {room : ℕ} → variable_count s ≤ room → check_refusal most_nodes s room ≡ none
  unfolding check_refusal
  checked {room} l = passes (variable_count s) room 9 (variable_count s) tallied l

pub holds-where : promise.HoldsExactly
holds-where s h few before after r l c = holds-exactly s c (checked h few l)

pub first-named : promise.FirstNamed
first-named s h few before after l c = (room-fails s c (checked h few l) refl).0

pub room-enough : promise.RoomEnough
room-enough models s h = script-short models s (accepts h)

-- ---- demand 3: the match, over any form and width
pub match-at-width : promise.MatchAtWidth
match-at-width f m readable r few well h = record {
  declares = form-declares readable r few well;
  satisfies = λ c g. (form-means readable r few well h _).1 (c, g, refl);
  apart = λ c d p q. one-case readable.texts.some_bits h p.0 q.0;
  onto = λ t. (form-means readable r few well h t).0;
}

pub match-in-bits : promise.MatchInBits
match-in-bits models w positive r well = match-at-width (in_bits models w) 100 (form-bits models w positive) r (omega (arith, well.few)) well

-- in a case of an accepted sheet no operator wraps, since each value lies in its range
pub in-sixteen : promise.InSixteenBits
in-sixteen s h c k t p = in-narrow (rw (tree-range (domain_of (rule_in s)) t) at ((allowed h).lawful.ranges Integer t p)) (value_in_lem (in-every k) t)

pub held : {s : List ℕ} → Sheet s → WidthHolds 16 (rule_in s)
held {s} h = held16 (allowed h).well-formed (λ c k t p. narrow_within (in-sixteen s h c k t p))

pub match : promise.Match
match models s h =
    let well = (allowed h).well-formed in
    match-at-width (sixteen models) 100 (form16 models) (rule_in s) (omega (arith, well.few)) well (held h)

pub read_alike : promise.ReadAlike
unfolding form16
read_alike s h =
    let well = (allowed h).well-formed in
    form-read (form16 true) (rule_in s) (omega (arith, well.few)) well ∙ sym (form-read (form16 false) (rule_in s) (omega (arith, well.few)) well)

-- ---- the check and the tally
module _ (models : Bool) (s : List ℕ) (h : Sheet s) where
  abbrev asked : List ℕ
  asked = script (sixteen models) (rule_in s)

  abbrev SomeSetting : Type 0
  SomeSetting = (t : List ℕ) × Satisfies asked t

  matched : Matched (sixteen models) (rule_in s)
  matched = match models s h

  some-setting : ((c : List ℤ) × Failing (rule_in s) c) ↔ SomeSetting
  some-setting = (λ p. (setting_of 16 p.0, matched.satisfies p.0 p.1), λ w. let p = matched.onto w.0 w.1 in (p.0, p.1))

  -- each failing case's setting, in the order of the cases
  abbrev settings : List (List ℕ)
  settings = map (setting_of 16) (failures (rule_in s))

  all_listed : SettingsListed asked settings
  all_listed = record { once = once; are = λ t. (to t, back t) }
    where
      once : NoRepeats settings
      once = map-no-repeats (setting_of 16) (failures (rule_in s)) (λ x y p q. matched.apart x y ((failures-are (rule_in s) x).0 p) ((failures-are (rule_in s) y).0 q)) (failures-once (rule_in s))

      to : (t : List ℕ) → Memᴰ t settings → Satisfies asked t
      to t m =
          let w = Memᴰ.of_map (setting_of 16) (failures (rule_in s)) m in
          subst (Satisfies asked) w.2 (matched.satisfies w.0 ((failures-are (rule_in s) w.0).0 w.1))

      back : (t : List ℕ) → Satisfies asked t → Memᴰ t settings
      back t k =
          let p = matched.onto t k in
          subst (λ (u : List ℕ). Memᴰ u settings) p.2 (Memᴰ.map (setting_of 16) ((failures-are (rule_in s) p.0).1 p.1))

pub check-agrees : promise.CheckAgrees
check-agrees models s h few before after r l c =
    let none-refused = checked h few l in
    (Iff.trans (fails-exactly s c none-refused) (some-setting models s h), named none-refused)
  where
    named : check_refusal most_nodes s (length before) ≡ none → r ≡ Ok Fails → Satisfies (script (sixteen models) (rule_in s)) (setting_of 16 (take (variable_count s) after))
    named e p =
        let first = take (variable_count s) after in
        (matched models s h).satisfies first (room-fails s c e p).0.failing

pub tally-agrees : promise.TallyAgrees
tally-agrees models s h few r c = (settings models s h, all_listed models s h, c.failed-count ∙ rw (tallied h few, length-map) (failed-is (rule_in s)))

-- ---- same script, same sheet
pub same-script : promise.SameScript
same-script models s t h g e =
    let well = (allowed h).well-formed in
    let good = (allowed g).well-formed in
    let alike = script-injective (form16 models) (rule_in s) (rule_in t) (omega (arith, well.few)) (omega (arith, good.few)) well good (held h) (held g) e in
    (lengths s t (laid_out h) (laid_out g) alike, agrees s t (laid_out h) (laid_out g) alike)
