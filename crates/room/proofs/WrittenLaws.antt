-- What a call that writes bytes answers: a refusal, the bytes, and no second answer. Assumes nothing.
use Prim.Native.Nat.{ℕ}
use mathlib.Core.Path.{◌≡◌, sym, ap, ◌∙◌}
use mathlib.Core.List.{List}
use mathlib.Core.Option.{Option, none, some}
use native.Mathlib.Nat.{zero-add}
use Rattle.refusals.specs.declared.Refusal.{Refusal}
use Rattle.std.specs.Prelude.{Result, Ok, Err}
use native.Mathlib.Omega.{arith}
use Rattle.refusals.specs.declared.Refused.{Refused}
use Rattle.refusals.specs.Causes.{refusal_of}
use Rattle.refusals.proofs.SaidLaws.{same-refused}
use Rattle.room.specs.Room.{Wrote}
use Rattle.room.specs.Written.{written_said, written_verdict, written_room, Fills}
use Rattle.room.proofs.RoomLaws.{wrote-over}

abbrev first_of : Option Refusal × ℕ → Option Refusal
first_of x = x.0

-- written_said is injective
pub written-injective : (r t : Result ℕ Refused) → written_said r ≡ written_said t → r ≡ t
written-injective (Ok m) (Ok n) e = ap Ok (ap (λ (x : Option Refusal × ℕ). x.1) e)
written-injective (Ok m) (Err d) e = absurd (let o = ap first_of e in let z : ◌≡◌ {A = ℕ} 0 1 = cc in omega arith)
written-injective (Err c) (Ok n) e = absurd (let o = ap first_of e in let z : ◌≡◌ {A = ℕ} 0 1 = cc in omega arith)
written-injective (Err c) (Err d) e = ap Err (same-refused c d (let o = ap first_of e in cc))

-- one answer, and one room
pub fills-once : {o : Option Refusal} {u before x y : List ℕ} {r t : Result ℕ Refused} → Fills o u before r x → Fills o u before t y → (r ≡ t) × (x ≡ y)
fills-once {o} {u} {before} {x} {y} {r} {t} h g = (written-injective r t (h.answer ∙ sym g.answer), h.room ∙ sym g.room)

-- a refusal, and the text at the front
pub fills-refused : {o : Option Refusal} {a : Result ℕ Refused} {e : Refused} (t before : List ℕ) → a ≡ Err e → o ≡ some (refusal_of e) → Fills o t before a before
fills-refused t before p d = rw p record { answer = ap (λ (q : Option Refusal). written_verdict q t) (sym d); room = ap (λ (q : Option Refusal). written_room q t before) (sym d) }

pub fills-done : {o : Option Refusal} {t before after : List ℕ} {n : ℕ} → o ≡ none → Wrote t before after 0 n → Fills o t before (Ok n) after
fills-done {o} {t} {before} {after} {n} d w = record {
  answer = ap (λ (k : ℕ). (none, k)) (w.place ∙ zero-add _) ∙ ap (λ (q : Option Refusal). written_verdict q t) (sym d);
  room = wrote-over w ∙ ap (λ (q : Option Refusal). written_room q t before) (sym d);
}
