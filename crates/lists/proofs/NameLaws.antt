-- Two names are the same exactly if their bytes are. Assumes nothing.
use Prim.Native.Nat.{ℕ}
use mathlib.Core.Path.{◌≡◌, refl, ap, ap₂}
use mathlib.Core.Bool.{false≢true}
use mathlib.Core.List.{List, [], ◌∷◌}
use native.Mathlib.Omega.{arith}
use lib.ListN.{length}
use Rattle.lists.specs.Names.{same_bytes}
use Rattle.lists.proofs.Decided.{Decides, decides-as, decides_and, decides_eq}

pub same-decided : (k l : List ℕ) → Decides (same_bytes k l) (k ≡ l)
unfolding same_bytes
same-decided [] [] = (λ e. refl, λ e. refl)
same-decided [] (c ∷ l) = (λ e. absurd (false≢true e), λ e. absurd (omega (arith, ap length e)))
same-decided (b ∷ k) [] = (λ e. absurd (false≢true e), λ e. absurd (omega (arith, ap length e)))
same-decided (b ∷ k) (c ∷ l) = decides-as (decides_and (decides_eq b c) (same-decided k l)) (λ w. ap₂ ◌∷◌ w.0 w.1) (λ e. (cc, cc))
