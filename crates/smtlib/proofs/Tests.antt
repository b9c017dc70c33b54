-- Acceptance and satisfaction as tests, for what is computed. Assumes nothing.
use Prim.Native.Nat.{ℕ}
use mathlib.Core.Bool.{Bool, true, false, ◌&&◌}
use mathlib.Core.List.{List, [], ◌∷◌}
use mathlib.Core.Option.{Option, none, some}
use lib.Dec.{ltb}
use Rattle.smtlib.specs.Commands.{Declaration}
use Rattle.smtlib.specs.Settings.{sort_size, environment}
use Rattle.smtlib.specs.Scripts.{Script}
use Rattle.smtlib.specs.Satisfaction.{script_of, all_true}

abbrev pub accepted : Option Script → Bool
accepted none = false
accepted (some p) = true

-- the bytes are accepted
unfoldable pub well_formed : List ℕ → Bool
well_formed bytes = accepted (script_of bytes)

abbrev pub assigning : List Declaration → List ℕ → Bool
assigning [] [] = true
assigning [] (n ∷ s) = false
assigning (d ∷ ds) [] = false
assigning (d ∷ ds) (n ∷ s) = ltb n (sort_size d.sort) && assigning ds s

abbrev pub meeting : Script → List ℕ → Bool
meeting p setting = assigning p.declares setting && all_true (environment p.declares setting) p.asserts

abbrev pub met_by : Option Script → List ℕ → Bool
met_by none setting = false
met_by (some p) setting = meeting p setting

unfoldable pub satisfied_by : List ℕ → List ℕ → Bool
satisfied_by bytes setting = met_by (script_of bytes) setting
