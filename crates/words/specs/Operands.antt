-- Follows the code: how many operands stand behind a word, as it answers it; and one more, 0 where it is no word.
use Rattle.std.specs.Prelude.{ℕ, suc, Some, None}
use Rattle.std.specs.Prelude as prelude
use Rattle.std.proofs.Math.Option.{Option, none, some}

abbrev pub behind_said : prelude.Option ℕ → Option ℕ
behind_said None = none
behind_said (Some n) = some n

abbrev pub counted : Option ℕ → ℕ
counted none = 0
counted (some n) = suc n
