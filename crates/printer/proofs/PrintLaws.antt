-- What `print` answers, way by way: a refused sheet, a name that is a word, a room that is too short, and the text; and no second answer. Assumes nothing.
use Prim.Native.Nat.{ℕ, ◌≤◌, ◌<◌}
use mathlib.Core.Path.{◌≡◌, refl, sym, ap, ◌∙◌}
use mathlib.Core.Bool.{Bool}
use mathlib.Core.List.{List}
use mathlib.Core.Option.{none, some}
use native.Mathlib.Omega.{arith}
use borrow.Author.Tests.{le-leb}
use lib.ListN.{length}
use Rattle.lists.specs.First.{first}
use Rattle.lists.proofs.FirstLaws.{otherwise-none, otherwise-some}
use Rattle.refusals.specs.declared.Cause.TheVariants.{Room}
use Rattle.refusals.specs.Causes.{refusal_of as told}
use Rattle.refusals.proofs.AfterLaws.{passes, stops}
use Rattle.layout.specs.Limits.{most_nodes}
use Rattle.layout.specs.Parts.{variable_count, variable_at, rule_in}
use Rattle.records.proofs.NameLaws.{name-decided}
use Rattle.reading.specs.Cascade.{refusal_of}
use Rattle.reading.proofs.RuleLaws.{accepted-kept}
use Rattle.room.specs.Room.{Wrote}
use Rattle.std.specs.Prelude.{Result, Ok, Err}
use Rattle.refusals.specs.declared.Refused.{Refused}
use Rattle.room.proofs.WrittenLaws.{fills-once, fills-refused, fills-done}
use Rattle.texts.specs.Plain.{text_of}
use Rattle.texts.specs.WordKinds.{behind_word, is_none}
use Rattle.texts.specs.Places.{is_plain_name}
use Rattle.printer.specs.Prints.{word_refusal, text_refusal, Prints}
use Rattle.expressions.proofs.NameLaws.{kept-short}

-- the name of an accepted sheet's variable is plain where it is no word
pub plain-is : (s : List ℕ) (i : ℕ) → refusal_of most_nodes s ≡ none → i < variable_count s → {t : List ℕ} {b : Bool} → t ≡ (variable_at s i).name → b ≡ is_plain_name t → b ≡ is_none (behind_word (variable_at s i).name)
unfolding is_plain_name
plain-is s i e l n q =
    let k = accepted-kept s e i l in
    let right = (name-decided (variable_at s i).name).1 k.0.name in
    q ∙ rw (n, right, le-leb _ _ (kept-short s i k))

module _ (s : List ℕ) where
  pub sheet-refused : (before : List ℕ) {a : Result ℕ Refused} {e : Refused} → a ≡ Err e → some (told e) ≡ refusal_of most_nodes s → Prints most_nodes s before a before
  unfolding text_refusal
  sheet-refused before p d = fills-refused (text_of (rule_in s)) before p (otherwise-some _ (sym d))

  module _ (ok : refusal_of most_nodes s ≡ none) where
    pub name-refused : (before : List ℕ) {a : Result ℕ Refused} {e : Refused} → a ≡ Err e → some (told e) ≡ first (word_refusal s) 0 (variable_count s) → Prints most_nodes s before a before
    unfolding text_refusal
    name-refused before p d = fills-refused (text_of (rule_in s)) before p (otherwise-none _ ok ∙ otherwise-some _ (sym d))

    module _ (free : first (word_refusal s) 0 (variable_count s) ≡ none) where
      pub room-short : (before : List ℕ) {n : ℕ} → n ≡ length (text_of (rule_in s)) → length before < n → Prints most_nodes s before (Err (record { cause = Room; place = n })) before
      unfolding text_refusal
      room-short before e l =
          fills-refused (text_of (rule_in s)) before refl
          (otherwise-none _ ok ∙ stops (length (text_of (rule_in s))) (length before) 9 _ free (omega arith) ∙ ap (λ (n : ℕ). some (record { number = 9; place = n })) (sym e))

      pub text-written : {before after : List ℕ} {n : ℕ} → length (text_of (rule_in s)) ≤ length before → Wrote (text_of (rule_in s)) before after 0 n → Prints most_nodes s before (Ok n) after
      unfolding text_refusal
      text-written {before} l w = fills-done (otherwise-none _ ok ∙ passes (length (text_of (rule_in s))) (length before) 9 _ free l) w

-- ---- one answer
pub print-once : (limit : ℕ) (s : List ℕ) {before x y : List ℕ} {r t : Result ℕ Refused} → Prints limit s before r x → Prints limit s before t y → (r ≡ t) × (x ≡ y)
print-once limit s h g = fills-once h g
