-- What an answer of `point` says: a place, or nothing.
use Rattle.std.specs.Prelude.{ℕ, Some, None}
use Rattle.std.specs.Prelude as prelude
use Rattle.std.proofs.Math.Option.{Option, none, some}

abbrev pub pointed_said : prelude.Option ℕ → Option ℕ
pointed_said None = none
pointed_said (Some p) = some p
