-- A name is given or not, and one that is given has a byte and lies inside the sheet. Assumes nothing.
use Prim.Native.Nat.{ℕ, ◌+◌, ◌≤◌, ◌<◌}
use mathlib.Core.Path.{◌≡◌, refl}
use mathlib.Core.List.{List}
use mathlib.Core.Option.{Option, none, some}
use native.Mathlib.Decide.{dec_lt}
use native.Mathlib.Omega.{arith}
use lib.ListN.{length}
use Rattle.refusals.specs.declared.Refusal.{Refusal}
use Rattle.layout.specs.Limits.{most_name_bytes, name_start, variable_place, most_nodes}
use Rattle.layout.specs.Parts.{variable_count, name_size}
use Rattle.reading.specs.Cascade.{refusal_of}
use Rattle.reading.specs.Name.{NameGiven}
use Rattle.reading.proofs.RuleLaws.{accepted-counted, accepted-kept}

-- how long a name that is given can be, and where it ends
pub record NameInside (s : List ℕ) (i : ℕ) : Type 0 where
  pub some_byte : 1 ≤ name_size s (variable_place i)
  pub short : name_size s (variable_place i) ≤ most_name_bytes
  pub inside : variable_place i + name_start + name_size s (variable_place i) ≤ length s

module _ (s : List ℕ) (i : ℕ) where
  pub name-decided : Dec (NameGiven most_nodes s i)
  name-decided = go (refusal_of most_nodes s) refl (dec_lt i (variable_count s))
    where
      go : (o : Option Refusal) → refusal_of most_nodes s ≡ o → Dec (i < variable_count s) → Dec (NameGiven most_nodes s i)
      go none e (yes l) = yes (e, l)
      go none e (no f) = no (λ g. f g.1)
      go (some r) e d = no (λ g. let z : ◌≡◌ {A = ℕ} 0 1 = cc (e, g.0) in omega arith)

  pub given-name : NameGiven most_nodes s i → NameInside s i
  given-name g =
      let k = (accepted-kept s g.0 i g.1).0 in
      let c = accepted-counted s g.0 in
      let z = c.size in
      let l = g.1 in
      record { some_byte = k.long; short = k.short; inside = omega (arith, k.short) }
