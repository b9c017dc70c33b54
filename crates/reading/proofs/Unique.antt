-- No second answer fits the statement of `read`, that of `accept` or that of `name`. Assumes nothing.
use Prim.Native.Nat.{ℕ}
use mathlib.Core.Path.{◌≡◌, sym, ap, ◌∙◌}
use mathlib.Core.List.{List}
use denote.Ref.{Bor}
use Rattle.lists.specs.Part.{SamePart}
use Rattle.lists.proofs.PartLaws.{where-once}
use native.Mathlib.Omega.{arith}
use Rattle.std.specs.Prelude.{Result, Ok, Err}
use Rattle.refusals.specs.declared.Refused.{Refused}
use Rattle.refusals.specs.Said.{said_of}
use Rattle.refusals.proofs.SaidLaws.{same-refused, said-once}
use Rattle.layout.specs.Limits.{most_nodes}
use Rattle.reading.specs.Cascade.{refusal_of}
use Rattle.reading.specs.Name.{NamePart}
use Rattle.reading.specs.Accepts.{Accepts}
use Rattle.reading.proofs.NameLaws.{name-decided}

pub read-once : (s : List ℕ) (r t : Result Unit Refused) → said_of r ≡ refusal_of most_nodes s → said_of t ≡ refusal_of most_nodes s → r ≡ t
read-once s r t = said-once r t

pub accept-once : (s : List ℕ) (r t : Result (List ℕ) Refused) → Accepts most_nodes s r → Accepts most_nodes s t → r ≡ t
accept-once s (Ok x) (Ok y) h g = ap Ok (h.0 ∙ sym g.0)
accept-once s (Ok x) (Err d) h g = absurd (let e = h.1 in let z : ◌≡◌ {A = ℕ} 0 1 = cc in omega arith)
accept-once s (Err c) (Ok y) h g = absurd (let e = g.1 in let z : ◌≡◌ {A = ℕ} 0 1 = cc in omega arith)
accept-once s (Err c) (Err d) h g = ap Err (same-refused c d cc)

pub name-once : (sheet : Bor (List ℕ)) (i : ℕ) (p q : Bor (List ℕ)) → NamePart most_nodes sheet i p → NamePart most_nodes sheet i q → SamePart p q
name-once sheet i p q h g = where-once (name-decided sheet.now i) h g
