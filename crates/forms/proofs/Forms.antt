-- SMT-LIB reads the script of a well-formed rule, in any form, as its declarations, its ranges and its negated goal; whether models are asked for changes
-- nothing of this. Assumes nothing.
use Prim.Native.Nat.{ℕ, suc, ◌≤◌}
use mathlib.Core.Path.{◌≡◌, refl, ap, ◌∙◌}
use mathlib.Core.Logic.{◌↔◌}
use mathlib.Core.List.{List, [], ◌∷◌}
use mathlib.Core.Option.{Option, some}
use lib.ListN.{length}
use Rattle.lists.specs.First.{and_then}
use Rattle.lists.specs.Places.{from}
use Rattle.meaning.specs.Rule.{Variable, Rule}
use Rattle.layout.specs.WellFormed.{WellFormed}
use Rattle.smtlib.specs.Sexps.{sexps_of}
use Rattle.smtlib.specs.Values.{bit_vec}
use Rattle.smtlib.specs.Commands.{Declaration}
use Rattle.smtlib.specs.Scripts.{Script, script_in}
use Rattle.smtlib.specs.Satisfaction.{script_of, declared, Meets, Satisfies}
use Rattle.smtlib.proofs.Printing.{lines-sexps}
use Rattle.smtlib.proofs.SatisfactionLaws.{satisfies-read}
use Rattle.wording.specs.Form.{Form}
use Rattle.wording.specs.Script.{script}
use Rattle.forms.specs.Readable.{Readable}
use Rattle.forms.proofs.Sexps.{chain_of, declared_at, declares, asked}
use Rattle.forms.proofs.Spelt.{lines-printed, chain-listing}
use Rattle.forms.proofs.Read.{chain-read}

module _ {f : Form} {m : ℕ} (form : Readable f m) where
  -- the declarations, by the variables' numbers
  declares-from : (i : ℕ) (vs : List Variable) → declares form i vs ≡ from (declared_at form) i (length vs)
  declares-from i [] = refl
  declares-from i (v ∷ vs) = ap (λ (l : List Declaration). declared_at form i ∷ l) (declares-from (suc i) vs)

  module _ (r : Rule) (few : length r.variables ≤ m) (g : WellFormed r) where
    pub form-read : script_of (script f r) ≡ some (asked form r)
    unfolding script_of script
    form-read =
        let listed = lines-sexps (chain_of form r) (chain-listing form r) in
        ap (λ o. and_then o script_in) (ap sexps_of (lines-printed form r) ∙ listed) ∙ chain-read form r few g

    -- so it declares a symbol for each variable
    pub form-declares : declared (script f r) ≡ some (from (λ i. record { name = f.symbol i; sort = bit_vec f.width }) 0 (length r.variables))
    unfolding declared
    form-declares = ap (λ (o : Option Script). and_then o (λ p. some p.declares)) form-read ∙ ap some (declares-from 0 r.variables)

    -- and a setting satisfies it exactly if it meets what is said
    pub form-satisfied : (setting : List ℕ) → Satisfies (script f r) setting ↔ Meets (asked form r) setting
    form-satisfied setting = satisfies-read (script f r) setting form-read
