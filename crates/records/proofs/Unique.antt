-- No second answer fits the statement of `name_in` or that of `read_variables`. Assumes nothing.
use mathlib.Core.Path.{◌≡◌}
use mathlib.Core.List.{List}
use Prim.Native.Nat.{ℕ, ◌+◌}
use denote.Ref.{Bor}
use Rattle.lists.specs.Part.{PartAt, SamePart}
use Rattle.lists.proofs.PartLaws.{part-once}
use Rattle.layout.specs.Limits.{name_start}
use Rattle.layout.specs.Parts.{name_size}
use Rattle.std.specs.Prelude.{Result}
use Rattle.refusals.specs.declared.Refused.{Refused}
use Rattle.refusals.specs.Said.{said_of}
use Rattle.refusals.proofs.SaidLaws.{said-once}
use Rattle.records.specs.Variables.{variables}

pub name-once : {sheet p q : Bor (List ℕ)} (at : ℕ) → PartAt sheet p (at + name_start) (name_size sheet.now at) → PartAt sheet q (at + name_start) (name_size sheet.now at) → SamePart p q
name-once at h g = part-once h g

pub read-variables-once : (s : List ℕ) (r t : Result Unit Refused) → said_of r ≡ variables s → said_of t ≡ variables s → r ≡ t
read-variables-once s r t = said-once r t
