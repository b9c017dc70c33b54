-- No second place fits where a refusal of a text points, and no second answer and no second room the statements of `sheet_of` and `text_answer`. Assumes nothing.
use Prim.Native.Nat.{ℕ}
use mathlib.Core.Path.{◌≡◌, sym, ap, subst, ◌∙◌}
use mathlib.Core.Logic.{⊎_elim}
use mathlib.Core.List.{List}
use mathlib.Core.Option.{Option}
use Rattle.std.specs.Prelude.{Result, Ok, Err}
use Rattle.refusals.specs.declared.Refusal.{Refusal}
use Rattle.refusals.specs.declared.Refused.{Refused}
use Rattle.refusals.specs.Causes.{refusal_of}
use Rattle.layout.specs.Limits.{most_nodes}
use Rattle.room.specs.Room.{Wrote}
use Rattle.room.proofs.RoomLaws.{wrote_as}
use Rattle.maker.proofs.Exact.{text-or-leaves}
use Rattle.maker.proofs.Unique.{make-once}
use Rattle.sources.specs.Sources.{Points, pointed_line, Told, Sourced}
use Rattle.sources.specs.Texts.{text_answer}

pub points-once : {text : List ℕ} {r : Refusal} {o p : Option ℕ} → Points text r o → Points text r p → o ≡ p
points-once {text} w v = ⊎_elim (λ t. w.said t.draft t.says ∙ sym (v.said t.draft t.says)) (λ l. w.off l.0 l.1 ∙ sym (v.off l.0 l.1)) (text-or-leaves text)

told-once : (text : List ℕ) (a : Result ℕ Refused) (line : List ℕ) {x y : List ℕ} (r t : Result ℕ ℕ) → Told text a line r x → Told text a line t y → (r ≡ t) × (x ≡ y)
told-once text (Ok n) line (Ok j) (Ok k) w v = (ap Ok (w.0 ∙ sym v.0), w.1 ∙ sym v.1)
told-once text (Ok n) line (Ok j) (Err k) w v = absurd v
told-once text (Ok n) line (Err j) t w v = absurd w
told-once text (Err q) line (Ok j) t w v = absurd w
told-once text (Err q) line (Err j) (Ok k) w v = absurd v
told-once text (Err q) line (Err j) (Err k) w v =
    let g = wrote_as w.wrote (ap (pointed_line text (refusal_of q)) (points-once w.points v.points)) in
    let h = v.wrote in
    (ap Err (g.place ∙ sym h.place), g.room ∙ sym h.room)

pub source-once : {limit : ℕ} {text sheet line x y u v : List ℕ} {r t : Result ℕ ℕ} → Sourced limit text sheet line r x u → Sourced limit text sheet line t y v → (r ≡ t) × (x ≡ y) × (u ≡ v)
source-once {text = text} {line = line} {u = u} {r = r} {t = t} w k =
    let m = make-once w.makes k.makes in
    let g = told-once text k.answer line r t (subst (λ (a : Result ℕ Refused). Told text a line r u) m.0 w.told) k.told in
    (g.0, m.1, g.1)

pub text-answer-once : (s before : List ℕ) {x y : List ℕ} {r t : ℕ} → Wrote (text_answer most_nodes s) before x 0 r → Wrote (text_answer most_nodes s) before y 0 t → (r ≡ t) × (x ≡ y)
text-answer-once s before w v = (w.place ∙ sym v.place, w.room ∙ sym v.room)
