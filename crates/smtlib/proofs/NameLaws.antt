-- A name that no theory has is no function, and a declared name stands for its number. Assumes nothing.
use mathlib.Core.Path.{◌≡◌, refl}
use mathlib.Core.Bool.{Bool, true, false, true≢false}
use mathlib.Core.List.{List, [], ◌∷◌, ◌++◌, map}
use mathlib.Core.Option.{Option, none, some}
use Prim.Native.Nat.{ℕ}
use Rattle.lists.specs.Names.{same_bytes, listed, entry}
use Rattle.smtlib.specs.Theory.{functions, other_names, function, theory_name}
use Rattle.smtlib.specs.Commands.{Declaration}
use Rattle.smtlib.specs.Settings.{value_at, environment}

unlisted : {A : Type 0} (rs : List (List ℕ × A)) (ns : List (List ℕ)) (n : List ℕ) → listed (map (λ r. r.0) rs ++ ns) n ≡ false → entry rs n ≡ none
unlisted [] ns n e = refl
unlisted {A} (r ∷ rs) ns n e = by (same_bytes r.0 n) e (unlisted rs ns n)
  where
    by : (q : Bool) → elim q as (λ _. Bool) [ true ↦ true | false ↦ listed (map (λ r. r.0) rs ++ ns) n ] ≡ false → (listed (map (λ r. r.0) rs ++ ns) n ≡ false → entry rs n ≡ none)
        → ◌≡◌ {A = Option A} (elim q [ true ↦ some r.1 | false ↦ entry rs n ]) none
    by true d more = absurd (true≢false d)
    by false d more = more d

pub no-function : (n : List ℕ) → theory_name n ≡ false → function n ≡ none
unfolding function theory_name
no-function n e = unlisted functions other_names n e

module _ (d : Declaration) (ds : List Declaration) (k : ℕ) (s n : List ℕ) where
  pub stands_here : same_bytes d.name n ≡ true → environment (d ∷ ds) (k ∷ s) n ≡ value_at d.sort k
  unfolding environment
  stands_here e = rw (e, environment)

  pub stands-later : same_bytes d.name n ≡ false → environment (d ∷ ds) (k ∷ s) n ≡ environment ds s n
  unfolding environment
  stands-later e = rw (e, environment)
