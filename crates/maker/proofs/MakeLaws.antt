-- What `make` answers, way by way: bytes that are no text, too much for a sheet, a sheet that is refused, a room that is too short, and the sheet. Assumes nothing.
use Prim.Native.Nat.{ℕ, ◌≤◌, ◌<◌}
use mathlib.Core.Path.{◌≡◌, refl, ap, subst}
use mathlib.Core.Bool.{false, ◌&&◌, and-false}
use mathlib.Core.List.{List, []}
use mathlib.Core.Option.{none, some}
use native.Mathlib.Omega.{arith}
use borrow.Author.Tests.{le-leb, lt-leb}
use lib.Dec.{leb}
use lib.ListN.{length, replicate}
use Rattle.lists.proofs.FirstLaws.{otherwise-none, otherwise-some}
use Rattle.lists.proofs.TestLaws.{and}
use Rattle.std.specs.Prelude.{Result, Ok, Err}
use Rattle.refusals.specs.declared.Cause.TheVariants.{Counts as counts, Room, Text as no_text}
use Rattle.refusals.specs.declared.Refused.{Refused}
use Rattle.refusals.specs.Causes.{refusal_of as told}
use Rattle.refusals.proofs.SaidLaws.{unless-true, unless-false}
use Rattle.refusals.proofs.AfterLaws.{passes, stops}
use Rattle.layout.specs.Limits.{most_variables, most_nodes}
use Rattle.reading.specs.Cascade.{refusal_of}
use Rattle.grammar.specs.Begins.{Leaves}
use Rattle.grammar.proofs.BeginLaws.{no_member, one_place}
use Rattle.room.specs.Room.{Wrote}
use Rattle.room.proofs.WrittenLaws.{fills-refused, fills-done}
use Rattle.room.specs.Written.{Fills}
use Rattle.texts.specs.Expressions.{records_of, Draft, draft_sheet}
use Rattle.texts.specs.Texts.{Says, Text}
use Rattle.scan.specs.Scanned.{ScanSays}
use Rattle.maker.specs.Makes.{draft_refusal, Makes}
use Rattle.maker.specs.Lays.{Counts, SheetReady, sheet_refusal, Lays}

-- ---- a sheet
pub sheet-refused : (s before : List ℕ) {a : Result ℕ Refused} {e : Refused} → a ≡ Err e → refusal_of most_nodes s ≡ some (told e) → Fills (sheet_refusal most_nodes s (length before)) s before a before
unfolding sheet_refusal
sheet-refused s before p d = fills-refused s before p (otherwise-some _ d)

module _ (s : List ℕ) (ok : refusal_of most_nodes s ≡ none) where
  pub room-short : (before : List ℕ) → length before < length s → Fills (sheet_refusal most_nodes s (length before)) s before (Err (record { cause = Room; place = length s })) before
  unfolding sheet_refusal
  room-short before l = fills-refused s before refl (stops (length s) (length before) 9 _ ok l)

  pub sheet-written : {before after : List ℕ} {n : ℕ} → length s ≤ length before → Wrote s before after 0 n → Fills (sheet_refusal most_nodes s (length before)) s before (Ok n) after
  unfolding sheet_refusal
  sheet-written {before} l w = fills-done (passes (length s) (length before) 9 _ ok l) w

-- ---- a text
no-leaves : {text : List ℕ} → Text text → {p : ℕ} → Leaves Text text p → {A : Type 0} → A
no-leaves t l = absurd (no_member Text l t)

-- within the limits, 4 is silent
module _ (d : Draft) (few : length d.variables ≤ most_variables) (most : length (records_of d.goal 0) ≤ most_nodes) where
  within-limits : (room : ℕ) → draft_refusal most_nodes d room ≡ sheet_refusal most_nodes (draft_sheet d) room
  unfolding draft_refusal sheet_refusal
  within-limits room = otherwise-none _ (unless-true 4 0 (and (le-leb (length d.variables) most_variables few) (le-leb (length (records_of d.goal 0)) most_nodes most)))

pub sheet-makes : {text : List ℕ} {variables nodes size : ℕ} → SheetReady text variables nodes size → {s z before after : List ℕ} {a : Result ℕ Refused} → s ≡ replicate (length s) 0 → Lays text s z
    → Fills (sheet_refusal most_nodes z (length before)) z before a after → Makes most_nodes text before a after
sheet-makes {text} r {s = s} {z = z} {before = before} {after = after} {a = a} e l f = record { off = λ p h. no-leaves r.counts.text h; said = every }
  where
    every : (d : Draft) → Says text d → Fills (draft_refusal most_nodes d (length before)) (draft_sheet d) before a after
    every d h =
        rw (within-limits d (omega (arith, r.few, r.counts.variables-are d h)) (omega (arith, r.most, r.counts.nodes-are d h)) (length before), ← l.all d h e) f

-- too much for a sheet
module _ {text : List ℕ} {variables nodes : ℕ} (c : Counts text variables nodes) (before : List ℕ) where
  over : ((d : Draft) → Says text d → leb (length d.variables) most_variables && leb (length (records_of d.goal 0)) most_nodes ≡ false) → Makes most_nodes text before (Err (record { cause = counts; place = 0 })) before
  unfolding draft_refusal
  over f = record { off = λ p h. no-leaves c.text h; said = λ d h. fills-refused (draft_sheet d) before refl (otherwise-some _ (unless-false 4 0 (f d h))) }

  pub many-variables : most_variables < variables → Makes most_nodes text before (Err (record { cause = counts; place = 0 })) before
  many-variables l = over (λ d h. rw (lt-leb (length d.variables) most_variables (omega (arith, c.variables-are d h))))

  pub many-nodes : most_nodes < nodes → Makes most_nodes text before (Err (record { cause = counts; place = 0 })) before
  many-nodes l = over (λ d h. rw (lt-leb (length (records_of d.goal 0)) most_nodes (omega (arith, c.nodes-are d h)), and-false))

-- bytes that are no text
pub text-refused : {text : List ℕ} (before : List ℕ) {p : ℕ} {a : Result ℕ Refused} → a ≡ Err (record { cause = no_text; place = p }) → Leaves Text text p → Makes most_nodes text before a before
text-refused {text} before {p} e l = record {
  off = λ q h. fills-refused [] before e (ap (λ (n : ℕ). some (record { number = 18; place = n })) (one_place Text h l));
  said = λ d h. absurd (no_member Text l (record { draft = d; says = h }));
}

-- by what the scan says
pub scan-stopped : {text : List ℕ} {r : Result Unit ℕ} {p : ℕ} → ScanSays text r → r ≡ Err p → Leaves Text text p
scan-stopped {text} h e = subst (ScanSays text) e h

pub scan-whole : {text : List ℕ} {r : Result Unit ℕ} → ScanSays text r → r ≡ Ok tt → Text text
scan-whole {text} h e = subst (ScanSays text) e h
