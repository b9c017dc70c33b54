-- The settings of the script's symbols are the lists of integers of w bits, one to one, and in them each symbol holds its variable's value. Assumes nothing.
use mathlib.Core.Path.{◌≡◌, refl, sym, ap, ap₂, subst, ◌∙◌}
use mathlib.Core.Logic.{◌↔◌}
use mathlib.Core.List.{List, [], ◌∷◌, map}
use Prim.Native.Nat.{ℕ, zero, suc, ◌≤◌, ◌<◌}
use native.Mathlib.Omega.{arith}
use lib.ListN.{length, get_or, length-map}
use lib.IntN.{ℤ}
use Rattle.numbers.specs.Two.{enc, dec, Within}
use Rattle.numbers.proofs.Coding.{enc-lt, dec-within, enc-dec, decs-encs}
use Rattle.meaning.specs.Rule.{Variable, value_in}
use Rattle.smtlib.specs.Values.{bits}
use Rattle.smtlib.specs.Settings.{Assigns, environment}
use Rattle.wording.specs.Form.{Form}
use Rattle.forms.specs.Readable.{Readable}
use Rattle.forms.proofs.Sexps.{declares}
use Rattle.forms.proofs.Read.{symbol-stands}
use Rattle.forms.proofs.Means.{Holding}

-- v integers of w bits
pub record Integers (w v : ℕ) (c : List ℤ) : Type 0 where
  pub all : length c ≡ v
  pub each : (i : ℕ) → i < length c → Within w (value_in c i)

integers-first : {w v : ℕ} {z : ℤ} {c : List ℤ} → Within w z → Integers w v c → Integers w (suc v) (z ∷ c)
integers-first {w} {v} {z} {c} h k = record { all = ap suc k.all; each = by }
  where
    by : (i : ℕ) → i < length (z ∷ c) → Within w (value_in (z ∷ c) i)
    by zero l = h
    by (suc i) l = k.each i (omega arith)

-- ---- no two such lists have the same setting
module _ {w : ℕ} (one : 1 ≤ w) where
  pub encs-inj : {v : ℕ} {b c : List ℤ} → Integers w v b → Integers w v c → map (enc w) b ≡ map (enc w) c → b ≡ c
  encs-inj {v} {b} {c} h k e = sym (decs-encs one b h.each) ∙ ap (map (dec w)) e ∙ decs-encs one c k.each

module _ {f : Form} {m : ℕ} (form : Readable f m) where
  -- the width, at least 1
  abbrev w : ℕ
  w = f.width

  abbrev one : 1 ≤ w
  one = form.texts.some_bits

  -- ---- the settings that fit the declarations are those of such lists
  fits-encs : (i : ℕ) (vs : List Variable) (c : List ℤ) → length c ≡ length vs → Assigns (declares form i vs) (map (enc w) c)
  fits-encs i [] [] e = tt
  fits-encs i [] (z ∷ c) e = absurd (omega arith)
  fits-encs i (x ∷ vs) [] e = absurd (omega arith)
  fits-encs i (x ∷ vs) (z ∷ c) e = (enc-lt w z, fits-encs (suc i) vs c (omega arith))

  -- the integers that a setting stands for
  fits-decs : (i : ℕ) (vs : List Variable) (s : List ℕ) → Assigns (declares form i vs) s
      → Integers w (length vs) (map (dec w) s) × (map (enc w) (map (dec w) s) ≡ s)
  fits-decs i [] [] a = (record { all = refl; each = λ j l. absurd (omega arith) }, refl)
  fits-decs i [] (n ∷ s) a = absurd a
  fits-decs i (x ∷ vs) [] a = absurd a
  fits-decs i (x ∷ vs) (n ∷ s) a =
      let k = fits-decs (suc i) vs s a.1 in
      (integers-first (dec-within w one n a.0) k.0, ap₂ ◌∷◌ (enc-dec w one n a.0) k.1)

  pub fits-exactly : (vs : List Variable) (s : List ℕ) → Assigns (declares form 0 vs) s ↔ ((c : List ℤ) × Integers w (length vs) c × (map (enc w) c ≡ s))
  fits-exactly vs s = (
    λ a. let k = fits-decs 0 vs s a in (map (dec w) s, k.0, k.1),
    λ p. subst (Assigns (declares form 0 vs)) p.2 (fits-encs 0 vs p.0 p.1.all),
  )

-- ---- in them each symbol holds its variable's value
encs-at : (w : ℕ) (c : List ℤ) (i : ℕ) → i < length c → get_or (map (enc w) c) i 0 ≡ enc w (value_in c i)
encs-at w [] i l = absurd (omega arith)
encs-at w (z ∷ c) zero l = refl
encs-at w (z ∷ c) (suc i) l = encs-at w c i (omega arith)

pub holding : {f : Form} {m : ℕ} (form : Readable f m) (vs : List Variable) → length vs ≤ m → (c : List ℤ) → length c ≡ length vs
    → Holding f.width (length vs) form.constant f.symbol (value_in c) (environment (declares form 0 vs) (map (enc f.width) c))
holding {f} form vs few c e =
    let w : ℕ = f.width in
    record {
      constants = λ z k. form.texts.constants _ z;
      symbols = λ i l. symbol-stands form vs few (map (enc w) c) (length-map c (enc w) ∙ e) i l ∙ ap (bits w) (encs-at w c i (omega (arith, e)));
    }
