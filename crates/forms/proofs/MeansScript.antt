-- In any form whose width holds the rule, the script's bytes are satisfied by the failing cases in two's complement alone; which rules 16 bits hold. Assumes
-- nothing.
use mathlib.Core.Path.{◌≡◌}
use mathlib.Core.Logic.Iff
use mathlib.Core.Logic.{◌↔◌}
use mathlib.Core.List.{List, map}
use Prim.Native.Nat.{ℕ, ◌≤◌}
use lib.ListN.{length}
use lib.IntN.{ℤ}
use Rattle.numbers.specs.Two.{enc, Within}
use Rattle.numbers.proofs.Bytes16.{narrow_within}
use Rattle.meaning.specs.declared.Sort.TheVariants.{Integer}
use Rattle.meaning.specs.Tree.{Tree}
use Rattle.meaning.specs.Value.{value}
use Rattle.meaning.specs.Rule.{Rule, Case, value_in}
use Rattle.meaning.specs.Cases.{Failing}
use Rattle.kinds.specs.Rows.{PartOf}
use Rattle.layout.specs.WellFormed.{WellFormed}
use Rattle.smtlib.specs.Satisfaction.{Satisfies}
use Rattle.wording.specs.Form.{Form}
use Rattle.wording.specs.Script.{script}
use Rattle.forms.specs.Readable.{Readable}
use Rattle.forms.specs.Width.{WidthHolds}
use Rattle.forms.proofs.Forms.{form-satisfied}
use Rattle.forms.proofs.MeansMatch.{meets-exactly}

-- a setting satisfies the script exactly where it is a failing case's
pub form-means : {f : Form} {m : ℕ} → Readable f m → (r : Rule) → length r.variables ≤ m → WellFormed r → WidthHolds f.width r
    → (t : List ℕ) → Satisfies (script f r) t ↔ ((c : List ℤ) × Failing r c × (map (enc f.width) c ≡ t))
form-means form r few well h t = Iff.trans (form-satisfied form r few well t) (meets-exactly form few h t)

-- 16 bits hold a rule that has a sheet, if in its cases no operator wraps
pub held16 : {r : Rule} → WellFormed r → ((c : List ℤ) → Case r c → (t : Tree Integer) → PartOf t r.goal → Within 16 (value (value_in c) t)) → WidthHolds 16 r
held16 well values = record {
  low = λ i l. narrow_within (well.variables i l).ends.low;
  high = λ i l. narrow_within (well.variables i l).ends.high;
  constants = λ z p. narrow_within (well.goal.constants z p);
  variables = well.goal.variables;
  values = values;
}
