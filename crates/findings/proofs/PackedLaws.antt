-- What is kept of a node is what it was found to be. Assumes nothing.
use mathlib.Core.Path.{◌≡◌, refl}
use Rattle.findings.specs.declared.Finding.{Finding}
use Rattle.findings.specs.declared.Finding.TheVariants.{Truth, Integer}
use Rattle.findings.specs.Findings.{FindingFits}
use Rattle.findings.specs.Kept.{packed_of, unpacked_of}

-- ---- what is packed is unpacked
pub unpack-packed : (f : Finding) → FindingFits f → unpacked_of (packed_of f) ≡ f
unpack-packed Truth h = refl
unpack-packed (Integer r) h = refl
