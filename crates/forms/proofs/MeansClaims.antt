-- Where each symbol holds its variable's value, all that the script asserts is true exactly in the failing cases. Assumes nothing.
use mathlib.Core.Path.{◌≡◌, refl, sym, ap, ◌∙◌}
use mathlib.Core.Bool.{Bool, true, not, ◌&&◌}
use mathlib.Core.Logic.{◌↔◌}
use mathlib.Core.List.{List, [], ◌∷◌, map}
use Prim.Native.Nat.{ℕ, zero, suc, ◌+◌, ◌≤◌, ◌<◌}
use native.Mathlib.Omega.{arith}
use lib.ListN.{length, get_or}
use lib.IntN.{ℤ}
use lib.Signed.{le_z}
use borrow.Author.Tests.{not-true}
use Rattle.lists.proofs.TestLaws.{both, and}
use Rattle.lists.proofs.Decided.{Decides, decides-as, decides_and}
use Rattle.numbers.specs.declared.Range.{Range}
use Rattle.numbers.specs.Two.{Within}
use Rattle.numbers.specs.Ranges.{In}
use Rattle.numbers.proofs.OrderTests.{decides-le_z}
use Rattle.meaning.specs.declared.Sort.TheVariants.{Truth, Integer}
use Rattle.meaning.specs.Tree.{Tree, neg, const, var}
use Rattle.meaning.specs.Value.{value as meant}
use Rattle.meaning.specs.Rule.{Variable, Rule, no_variable, Case, value_in}
use Rattle.meaning.specs.Cases.{Failing}
use Rattle.meaning.specs.Cases.{holds as Cases·holds}
use Rattle.kinds.proofs.RowLaws.{by_rows}
use Rattle.kinds.proofs.ClaimLaws.{Throughout}
use Rattle.smtlib.specs.Tokens.{Atom}
use Rattle.smtlib.specs.Values.{truth}
use Rattle.smtlib.specs.Terms.{Environment, value}
use Rattle.smtlib.specs.Satisfaction.{is_true, all_true}
use Rattle.wording.specs.Form.{Form}
use Rattle.wording.specs.Script.{in_domain, claims}
use Rattle.forms.specs.Readable.{Readable}
use Rattle.forms.specs.Width.{WidthHolds}
use Rattle.forms.proofs.Sexps.{sexp, asked}
use Rattle.forms.proofs.MeansTrees.{NoWrap, Below, all-below, all-within}
use Rattle.forms.proofs.Means.{Holding, means}
use Rattle.forms.proofs.MeansSettings.{Integers}

const-below : {v : ℕ} (z : ℤ) → Below v Integer (const z)
const-below z i e = absurd (let q : ◌≡◌ {A = ℕ} 0 1 = cc in omega arith)

var-below : {v i : ℕ} → i < v → Below v Integer (var i)
var-below {v} {i} l j e = let q : i ≡ j = cc in omega arith

module _ {w v : ℕ} {constant : ℤ → Atom} {name : ℕ → List ℕ} {ρ : ℕ → ℤ} {env : Environment} (one : 1 ≤ w) (h : Holding w v constant name ρ env) where
  -- the claim is true
  abbrev holds : Tree Truth → Bool
  holds t = is_true (value env (sexp constant name t))

  -- a range's claim is true exactly where the variable has a value of the domain
  module _ (i : ℕ) (l : i < v) (k : Within w (ρ i)) (d : Range) (low : Within w d.low) (high : Within w d.high) where
    pub domain-value : value env (sexp constant name (in_domain i d)) ≡ truth (le_z d.low (ρ i) && le_z (ρ i) d.high)
    unfolding Throughout by_rows meant
    domain-value =
        means one h (in_domain i d) (tt, ((tt, ((low, tt), (k, tt))), (tt, ((k, tt), (high, tt)))))
        (tt, ((tt, ((const-below d.low, tt), (var-below l, tt))), (tt, ((var-below l, tt), (const-below d.high, tt)))))

    pub domain-claim : Decides (is_true (value env (sexp constant name (in_domain i d)))) (In d (ρ i))
    domain-claim = rw domain-value (decides-as (decides_and (decides-le_z d.low (ρ i)) (decides-le_z (ρ i) d.high)) (λ p. record { low = p.0; high = p.1 }) (λ p. (p.low, p.high)))

  -- the last claim is true exactly where the goal is false
  pub goal-claim : (g : Tree Truth) → Throughout (NoWrap w ρ) g → Throughout (Below v) g → is_true (value env (sexp constant name (neg g))) ≡ not (meant ρ g)
  unfolding Throughout by_rows meant
  goal-claim g k l = ap is_true (means one h (neg g) (tt, k) (tt, l))

  -- the variables from number i on have values of their domains: variable n is number j of these
  abbrev InDomains : ℕ → List Variable → Type 0
  InDomains i vs = (j n : ℕ) → j < length vs → n ≡ i + j → In (get_or vs j no_variable).domain (ρ n)

  -- all claims are true exactly where the ranges' claims and the last one are
  module _ (k : (n : ℕ) → n < v → Within w (ρ n)) (g : Tree Truth) where
    claims-true : (i : ℕ) (vs : List Variable) → i + length vs ≤ v
        → ((j : ℕ) → j < length vs → Within w (get_or vs j no_variable).domain.low) → ((j : ℕ) → j < length vs → Within w (get_or vs j no_variable).domain.high)
        → Decides (all_true env (map (λ (t : Tree Truth). sexp constant name t) (claims i vs g))) (InDomains i vs × (holds (neg g) ≡ true))
    unfolding all_true
    claims-true i [] b low high = (λ e. (λ j n l q. absurd (omega arith), (both (holds (neg g)) true e).0), λ p. and p.1 refl)
    claims-true i (x ∷ vs) b low high =
        decides-as
        (decides_and (domain-claim i (omega arith) (k i (omega arith)) x.domain (low 0 (omega arith)) (high 0 (omega arith)))
        (claims-true (suc i) vs (omega arith) (λ j l. low (suc j) (omega arith)) (λ j l. high (suc j) (omega arith))))
        (λ p. (first p.0 p.1.0, p.1.1))
        (λ p. (p.0 0 i (omega arith) (omega arith), (λ j n l q. p.0 (suc j) n (omega arith) (omega arith), p.1)))
      where
        first : In x.domain (ρ i) → InDomains (suc i) vs → InDomains i (x ∷ vs)
        first d ds zero n l q =
            let e : n ≡ i = omega arith in
            rw e d
        first d ds (suc j) n l q = ds j n (omega arith) (omega arith)

-- the symbols may hold any integers of w bits
pub claims-exactly : {f : Form} {m : ℕ} (form : Readable f m) {r : Rule} {c : List ℤ} {env : Environment} → WidthHolds f.width r
    → Integers f.width (length r.variables) c → Holding f.width (length r.variables) form.constant f.symbol (value_in c) env → (all_true env (asked form r).asserts ≡ true) ↔ Failing r c
unfolding Cases·holds
claims-exactly form {r} {c} {env} m k h = (to, from)
  where
    all : Decides (all_true env (asked form r).asserts) (InDomains form.texts.some_bits h 0 r.variables × (holds form.texts.some_bits h (neg r.goal) ≡ true))
    all = claims-true form.texts.some_bits h (λ n l. k.each n (omega (arith, k.all))) r.goal 0 r.variables (omega arith) m.low m.high

    goal-is : Case r c → holds form.texts.some_bits h (neg r.goal) ≡ not (meant (value_in c) r.goal)
    goal-is a = goal-claim form.texts.some_bits h r.goal (all-within m a) (all-below m)

    to : all_true env (asked form r).asserts ≡ true → Failing r c
    to e =
        let p = all.0 e in
        let a : Case r c = record { all = k.all; each = λ i l. p.0 i i (omega (arith, k.all)) (omega arith) } in
        (a, not-true (meant (value_in c) r.goal) (sym (goal-is a) ∙ p.1))

    from : Failing r c → all_true env (asked form r).asserts ≡ true
    from b = all.1 (λ j n l q. let e : n ≡ j = omega arith in rw e (b.0.each j (omega (arith, k.all))), goal-is b.0 ∙ ap not b.1)
