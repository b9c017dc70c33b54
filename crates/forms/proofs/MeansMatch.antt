-- The settings that meet the script are the failing cases in two's complement, one to one, at any width that holds the rule. Assumes nothing.
use mathlib.Core.Path.{◌≡◌, refl, subst}
use mathlib.Core.Logic.{◌↔◌}
use mathlib.Core.List.{List, map}
use Prim.Native.Nat.{ℕ, ◌≤◌}
use native.Mathlib.Omega.{arith}
use lib.ListN.{length}
use lib.IntN.{ℤ}
use Rattle.numbers.specs.declared.Range.{Range}
use Rattle.numbers.specs.Two.{enc, Within}
use Rattle.numbers.specs.Ranges.{In}
use Rattle.numbers.proofs.Zed.{zed}
use Rattle.meaning.specs.Rule.{Rule, Case}
use Rattle.meaning.specs.Cases.{Failing}
use Rattle.smtlib.specs.Satisfaction.{Meets}
use Rattle.wording.specs.Form.{Form}
use Rattle.forms.specs.Readable.{Readable}
use Rattle.forms.specs.Width.{WidthHolds}
use Rattle.forms.proofs.Sexps.{asked}
use Rattle.forms.proofs.MeansSettings.{Integers, encs-inj, fits-exactly, holding}
use Rattle.forms.proofs.MeansClaims.{claims-exactly}

in_within : {w : ℕ} {d : Range} {x : ℤ} → Within w d.low → Within w d.high → In d x → Within w x
in_within f g m = omega zed

-- a case's values are integers of w bits
pub case-integers : {w : ℕ} {r : Rule} {c : List ℤ} → WidthHolds w r → Case r c → Integers w (length r.variables) c
case-integers h k = record { all = k.all; each = λ i l. in_within (h.low i (omega (arith, k.all))) (h.high i (omega (arith, k.all))) (k.each i l) }

-- no two cases have the same setting
pub one-case : {w : ℕ} {r : Rule} {b c : List ℤ} → 1 ≤ w → WidthHolds w r → Case r b → Case r c → map (enc w) b ≡ map (enc w) c → b ≡ c
one-case one h p q e = encs-inj one (case-integers h p) (case-integers h q) e

module _ {f : Form} {m : ℕ} (form : Readable f m) {r : Rule} (few : length r.variables ≤ m) (h : WidthHolds f.width r) where
  -- the width
  abbrev w : ℕ
  w = f.width

  -- integers of w bits meet the script exactly where they are a failing case
  pub integers-meet : {c : List ℤ} → Integers w (length r.variables) c → Meets (asked form r) (map (enc w) c) ↔ Failing r c
  integers-meet {c} k =
      let claims = claims-exactly form h k (holding form r.variables few c k.all) in
      (λ m. claims.0 m.holds, λ b. record { assigns = (fits-exactly form r.variables _).1 (c, k, refl); holds = claims.1 b })

  -- a setting meets the script exactly where it is a failing case's
  pub meets-exactly : (s : List ℕ) → Meets (asked form r) s ↔ ((c : List ℤ) × Failing r c × (map (enc w) c ≡ s))
  meets-exactly s = (to, from)
    where
      to : Meets (asked form r) s → (c : List ℤ) × Failing r c × (map (enc w) c ≡ s)
      to m =
          let p = (fits-exactly form r.variables s).0 m.assigns in
          (p.0, (integers-meet p.1).0 (rw p.2 m), p.2)

      from : (c : List ℤ) × Failing r c × (map (enc w) c ≡ s) → Meets (asked form r) s
      from p = subst (Meets (asked form r)) p.2 ((integers-meet (case-integers h p.1.0)).1 p.1)
