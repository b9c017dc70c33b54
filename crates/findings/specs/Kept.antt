-- Follows the code: a finding as it is kept, its range by two ends of 16 bits.
use Rattle.std.specs.Prelude.{ℕ, List, get_or}
use Rattle.numbers.specs.Ranges.{◌⋯◌}
use Rattle.findings.specs.declared.Finding.{Finding}
use Rattle.findings.specs.declared.Finding.TheVariants.{Truth, Integer}
use Rattle.findings.specs.declared.kept.Kept.{Kept}

-- a truth value is kept as one, a range by its ends
abbrev pub packed_of : Finding → Kept
packed_of Truth = Kept.Truth
packed_of (Integer r) = Kept.Integer r.low r.high

abbrev pub unpacked_of : Kept → Finding
unpacked_of Kept.Truth = Truth
unpacked_of (Kept.Integer a b) = Integer (a ⋯ b)

-- what the nodes were found to be; past the end of the list it is a truth value
abbrev pub findings_in : List Kept → ℕ → Finding
findings_in l n = unpacked_of (get_or l n Kept.Truth)
