-- What `write_script` answers, way by way: a refused sheet, a room that is too short, and the script; and a script that is written lies inside its room. Assumes nothing.
use Prim.Native.Nat.{ℕ, ◌≤◌, ◌<◌}
use mathlib.Core.Path.{◌≡◌, refl, sym, ap, ◌∙◌}
use mathlib.Core.List.{List}
use mathlib.Core.Option.{Option, none, some}
use native.Mathlib.Omega.{arith}
use lib.ListN.{length, take, drop, length-append}
use lib.Seq.{length-take-le}
use Rattle.lists.proofs.FirstLaws.{otherwise-some}
use Rattle.refusals.specs.declared.Refusal.{Refusal}
use Rattle.layout.specs.Parts.{rule_in}
use Rattle.std.specs.Prelude.{Result, Ok, Err}
use Rattle.refusals.specs.declared.Cause.TheVariants.{Room}
use Rattle.refusals.specs.declared.Refused.{Refused}
use Rattle.refusals.specs.Causes.{refusal_of as told}
use Rattle.refusals.proofs.AfterLaws.{passes, stops}
use Rattle.layout.specs.Limits.{most_nodes}
use Rattle.reading.specs.Cascade.{refusal_of}
use Rattle.wording.specs.Form.{Form}
use Rattle.wording.specs.Script.{script}
use Rattle.room.specs.Room.{over, Wrote}
use Rattle.room.proofs.WrittenLaws.{fills-refused, fills-done}
use Rattle.room.specs.Written.{written_said, written_verdict, written_room}
use Rattle.writer.specs.Writes.{script_refusal, Writes}

module _ (f : Form) (s : List ℕ) where
  -- what the refusal makes of the answer and of the room
  refused-with : (before : List ℕ) {a : Result ℕ Refused} {e : Refused} → a ≡ Err e → script_refusal most_nodes f s (length before) ≡ some (told e) → Writes most_nodes f s before a before
  refused-with before p d = let w = fills-refused (script f (rule_in s)) before p d in record { answer = w.answer; room = w.room }

  pub sheet-refused : (before : List ℕ) {a : Result ℕ Refused} {e : Refused} → a ≡ Err e → refusal_of most_nodes s ≡ some (told e) → Writes most_nodes f s before a before
  unfolding script_refusal
  sheet-refused before p d = refused-with before p (otherwise-some _ d)

  module _ (ok : refusal_of most_nodes s ≡ none) where
    pub room-short : (before : List ℕ) {n : ℕ} → n ≡ length (script f (rule_in s)) → length before < n → Writes most_nodes f s before (Err (record { cause = Room; place = n })) before
    unfolding script_refusal
    room-short before e l = refused-with before refl (stops (length (script f (rule_in s))) (length before) 9 _ ok (omega arith) ∙ ap (λ (n : ℕ). some (record { number = 9; place = n })) (sym e))

    pub script-written : {before after : List ℕ} {n : ℕ} → length (script f (rule_in s)) ≤ length before → Wrote (script f (rule_in s)) before after 0 n → Writes most_nodes f s before (Ok n) after
    unfolding script_refusal
    script-written {before} l w =
        let v = fills-done (passes (length (script f (rule_in s))) (length before) 9 _ ok l) w in
        record { answer = v.answer; room = v.room }

-- ---- a script that is written
over-length : (t room : List ℕ) → length t ≤ length (over t room)
unfolding over
over-length t room = omega (arith, length-append t (drop (length t) room))

module _ {f : Form} (s : List ℕ) {before after : List ℕ} {a : Result ℕ Refused} (c : Writes most_nodes f s before a after) {n : ℕ} (d : a ≡ Ok n) where
  pub script-fits : n ≤ length after
  script-fits = go (script_refusal most_nodes f s (length before)) (sym c.answer ∙ ap written_said d) c.room
    where
      go : (o : Option Refusal) → written_verdict o (script f (rule_in s)) ≡ (none, n) → after ≡ written_room o (script f (rule_in s)) before → n ≤ length after
      go none w e = omega (arith, over-length (script f (rule_in s)) before, ap length e, ap (λ (p : Option Refusal × ℕ). p.1) w)
      go (some t) w e = absurd (let z : ◌≡◌ {A = ℕ} 0 1 = cc (ap (λ (p : Option Refusal × ℕ). p.0) w) in omega arith)

  -- the room's front of n bytes has n bytes
  pub front_length : n ≡ length (take n after)
  front_length = sym (length-take-le n after script-fits)
