-- In any form, a rule but for its names is known from its script. Assumes nothing.
use Prim.Native.Nat.{ℕ, zero, suc, ◌≤◌}
use mathlib.Core.Path.{◌≡◌, refl, sym, ap, ap₂, ◌∙◌}
use mathlib.Core.List.{List, [], ◌∷◌, map}
use mathlib.Core.Option.{Option, none, some}
use native.Mathlib.Omega.{arith}
use lib.ListN.{length, get_or}
use Rattle.meaning.specs.declared.Sort.TheVariants.{Truth}
use Rattle.meaning.specs.Tree.{Tree}
use Rattle.meaning.specs.Rule.{Variable, Rule, no_variable}
use Rattle.layout.specs.Goal.{of_sort}
use Rattle.layout.specs.WellFormed.{WellFormed}
use Rattle.layout.proofs.Agree.{Alike}
use Rattle.smtlib.specs.Sexps.{Sexp}
use Rattle.smtlib.specs.Scripts.{Script}
use Rattle.smtlib.specs.Satisfaction.{script_of}
use Rattle.wording.specs.Form.{Form}
use Rattle.wording.specs.Script.{claims, script}
use Rattle.forms.specs.Readable.{Readable}
use Rattle.forms.specs.Width.{WidthHolds}
use Rattle.forms.proofs.Sexps.{term, asked}
use Rattle.forms.proofs.Read.{Every}
use Rattle.forms.proofs.Forms.{form-read}
use Rattle.forms.proofs.Held.{Held, claims-held}
use Rattle.forms.proofs.Back.{term-injective}

-- the claims tell the domains and the goal
same-claims : (i : ℕ) (vs us : List Variable) (g h : Tree Truth) → claims i vs g ≡ claims i us h → Alike (record { variables = vs; goal = g }) (record { variables = us; goal = h })
same-claims i [] [] g h e = record { goal = cc; count = refl; domains = λ j. refl }
same-claims i [] (u ∷ us) g h e = absurd (let z : ◌≡◌ {A = ℕ} 0 1 = cc in omega arith)
same-claims i (v ∷ vs) [] g h e = absurd (let z : ◌≡◌ {A = ℕ} 0 1 = cc in omega arith)
same-claims i (v ∷ vs) (u ∷ us) g h e =
    let low : v.domain.low ≡ u.domain.low = cc in
    let high : v.domain.high ≡ u.domain.high = cc in
    let more = same-claims (suc i) vs us g h (cc) in
    record { goal = more.goal; count = ap suc more.count; domains = by low high more.domains }
  where
    by : v.domain.low ≡ u.domain.low → v.domain.high ≡ u.domain.high → ((j : ℕ) → (get_or vs j no_variable).domain ≡ (get_or us j no_variable).domain)
        → (j : ℕ) → (get_or (v ∷ vs) j no_variable).domain ≡ (get_or (u ∷ us) j no_variable).domain
    by low high more zero = λ i. record { low = low i; high = high i }
    by low high more (suc j) = more j

-- ---- the terms tell the claims, and the script tells the terms
abbrev asserts_of : Option Script → List Sexp
asserts_of none = []
asserts_of (some p) = p.asserts

module _ {f : Form} {m : ℕ} (form : Readable f m) where
  same-trees : (ts us : List (Tree Truth)) → Every (λ t. Held f.width m t) ts → Every (λ t. Held f.width m t) us
      → map (λ (t : Tree Truth). term form t) ts ≡ map (λ (t : Tree Truth). term form t) us → ts ≡ us
  same-trees [] [] g h e = refl
  same-trees [] (u ∷ us) g h e = cc
  same-trees (t ∷ ts) [] g h e = cc
  same-trees (t ∷ ts) (u ∷ us) g h e =
      let d : term form t ≡ term form u = cc in
      ap₂ ◌∷◌ (ap (of_sort Truth) (term-injective form g.0 h.0 d)) (same-trees ts us g.1 h.1 (cc))

  -- two well-formed rules that the width holds, with the same script, differ in names alone
  pub script-injective : (r q : Rule) → length r.variables ≤ m → length q.variables ≤ m → WellFormed r → WellFormed q → WidthHolds f.width r → WidthHolds f.width q
      → script f r ≡ script f q → Alike r q
  script-injective r q few few' well well' h h' e =
      same-claims 0 r.variables q.variables r.goal q.goal (same-trees _ _ (claims-held f.width m r few h) (claims-held f.width m q few' h') same-asserts)
    where
      same-script : some (asked form r) ≡ some (asked form q)
      same-script = sym (form-read form r few well) ∙ ap script_of e ∙ form-read form q few' well'

      same-asserts : (asked form r).asserts ≡ (asked form q).asserts
      same-asserts = ap asserts_of same-script
