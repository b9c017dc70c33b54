-- The reading of a script's bytes: whether SMT-LIB accepts them, what they declare, and which settings satisfy them.
use Rattle.std.specs.Prelude.{ℕ, ◌≡◌, Bool, true, false, ◌&&◌, List, [], ◌∷◌}
use Rattle.std.proofs.Math.Option.{Option, some}
use Rattle.lists.specs.First.{and_then}
use Rattle.smtlib.specs.Sexps.{Sexp, sexps_of}
use Rattle.smtlib.specs.Values.{Value, truth, bits, rejected}
use Rattle.smtlib.specs.Terms.{Environment, value}
use Rattle.smtlib.specs.Commands.{Declaration}
use Rattle.smtlib.specs.Settings.{Assigns, environment}
use Rattle.smtlib.specs.Scripts.{Script, script_in}

-- the script that the bytes are, or none where they are rejected
unfoldable pub script_of : List ℕ → Option Script
script_of bytes = and_then (sexps_of bytes) script_in

-- the symbols that the bytes declare, with their sorts, in order; none where they are rejected
unfoldable pub declared : List ℕ → Option (List Declaration)
declared bytes = and_then (script_of bytes) (λ p. some p.declares)

-- ---- satisfaction

abbrev pub is_true : Value → Bool
is_true (truth b) = b
is_true (bits m n) = false
is_true rejected = false

-- every one of these terms is true
unfoldable pub all_true : Environment → List Sexp → Bool
all_true env [] = true
all_true env (e ∷ es) = is_true (value env e) && all_true env es

-- the setting assigns a value to each symbol that is declared, and makes true all that is asserted
pub record Meets (p : Script) (setting : List ℕ) : Type 0 where
  pub assigns : Assigns p.declares setting
  pub holds : all_true (environment p.declares setting) p.asserts ≡ true

-- the bytes are accepted, and the setting satisfies the script that they are
pub record Satisfies (bytes setting : List ℕ) : Type 0 where
  pub script : Script
  pub is_read : script_of bytes ≡ some script
  pub meets : Meets script setting
