-- The reading agrees with z3 and cvc5 on every recorded term and script. Each fact is computed. Assumes nothing.
use mathlib.Core.Path.{◌≡◌, refl}
use mathlib.Core.List.{map}
use mathlib.Core.Option.{none, some}
use Rattle.smtlib.proofs.Tests.{met_by}
use Rattle.smtlib.proofs.Running.{term_value, script_read, answers}
use Rattle.smtlib.proofs.TermData.{terms}
use Rattle.smtlib.proofs.ScriptData.{satisfied, tried, refused}

pub closed-terms : map (λ r. term_value r.0) terms ≡ map (λ r. r.1) terms
unfolding term_value
closed-terms = refl

pub satisfied-scripts : map (λ r. answers (script_read r.0)) satisfied ≡ map (λ r. some r.1) satisfied
unfolding script_read
satisfied-scripts = refl

pub tried-scripts : map (λ r. map (λ s. met_by (script_read r.0) s.0) r.1) tried ≡ map (λ r. map (λ s. s.1) r.1) tried
unfolding script_read
tried-scripts = refl

pub refused-scripts : map script_read refused ≡ map (λ t. none) refused
unfolding script_read
refused-scripts = refl
