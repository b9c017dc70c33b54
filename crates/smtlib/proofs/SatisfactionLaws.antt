-- Satisfaction and its test; what is rejected is satisfied by no setting. Assumes nothing.
use mathlib.Core.Path.{◌≡◌, refl, sym, ap, subst, ◌∙◌}
use mathlib.Core.Bool.{true, false, false≢true}
use mathlib.Core.Logic.{◌↔◌}
use mathlib.Core.List.{List, [], ◌∷◌}
use mathlib.Core.Option.{Option, none, some}
use Prim.Native.Nat.{ℕ}
use lib.Dec.{ltb}
use borrow.Author.Tests.{ltb-true, lt-ltb}
use Rattle.lists.proofs.TestLaws.{both, and}
use Rattle.lists.specs.First.{and_then}
use Rattle.smtlib.specs.Commands.{Declaration}
use Rattle.smtlib.specs.Settings.{sort_size, Assigns, environment}
use Rattle.smtlib.specs.Scripts.{Script}
use Rattle.smtlib.specs.Satisfaction.{script_of, declared, all_true, Meets, Satisfies}
use Rattle.smtlib.proofs.Tests.{accepted, well_formed, assigning, meeting, met_by, satisfied_by}

-- ---- the tests
assigns-tested : (ds : List Declaration) (s : List ℕ) → Assigns ds s → assigning ds s ≡ true
assigns-tested [] [] f = refl
assigns-tested [] (n ∷ s) f = absurd f
assigns-tested (d ∷ ds) [] f = absurd f
assigns-tested (d ∷ ds) (n ∷ s) f = and (lt-ltb n (sort_size d.sort) f.0) (assigns-tested ds s f.1)

tested-assigns : (ds : List Declaration) (s : List ℕ) → assigning ds s ≡ true → Assigns ds s
tested-assigns [] [] h = tt
tested-assigns [] (n ∷ s) h = absurd (false≢true h)
tested-assigns (d ∷ ds) [] h = absurd (false≢true h)
tested-assigns (d ∷ ds) (n ∷ s) h =
    let w = both (ltb n (sort_size d.sort)) (assigning ds s) h in
    (ltb-true n (sort_size d.sort) w.0, tested-assigns ds s w.1)

pub assigns-test : (ds : List Declaration) (s : List ℕ) → Assigns ds s ↔ (assigning ds s ≡ true)
assigns-test ds s = (assigns-tested ds s, tested-assigns ds s)

pub meets-test : (p : Script) (s : List ℕ) → Meets p s ↔ (meeting p s ≡ true)
meets-test p s = (to, from)
  where
    to : Meets p s → meeting p s ≡ true
    to m = and (assigns-tested p.declares s m.assigns) m.holds

    from : meeting p s ≡ true → Meets p s
    from h =
        let w = both (assigning p.declares s) (all_true (environment p.declares s) p.asserts) h in
        record { assigns = tested-assigns p.declares s w.0; holds = w.1 }

-- ---- the script that the bytes are, if its reading is known
pub satisfies-read : (bytes s : List ℕ) {p : Script} → script_of bytes ≡ some p → Satisfies bytes s ↔ Meets p s
satisfies-read bytes s {p} e = (to, λ m. record { script = p; is_read = e; meets = m })
  where
    to : Satisfies bytes s → Meets p s
    to k =
        let q : k.script ≡ p = cc (k.is_read, e) in
        subst (λ (x : Script). Meets x s) q k.meets

pub satisfies-test : (bytes s : List ℕ) → Satisfies bytes s ↔ (satisfied_by bytes s ≡ true)
unfolding satisfied_by
satisfies-test bytes s = (to, from (script_of bytes) refl)
  where
    to : Satisfies bytes s → met_by (script_of bytes) s ≡ true
    to k = rw k.is_read ((meets-test k.script s).0 k.meets)

    from : (o : Option Script) → script_of bytes ≡ o → met_by o s ≡ true → Satisfies bytes s
    from none e h = absurd (false≢true h)
    from (some p) e h = record { script = p; is_read = e; meets = (meets-test p s).1 h }

-- ---- rejected bytes
pub satisfied-accepted : (bytes s : List ℕ) → Satisfies bytes s → well_formed bytes ≡ true
unfolding well_formed
satisfied-accepted bytes s k = ap accepted k.is_read

pub rejected-never : (bytes s : List ℕ) → well_formed bytes ≡ false → Satisfies bytes s → ⊥
rejected-never bytes s e k = false≢true (sym e ∙ satisfied-accepted bytes s k)

-- a setting that satisfies the bytes assigns a value to each symbol that they declare
pub satisfied-assigns : (bytes s : List ℕ) {ds : List Declaration} → declared bytes ≡ some ds → Satisfies bytes s → Assigns ds s
unfolding declared
satisfied-assigns bytes s {ds} e k =
    let q : k.script.declares ≡ ds = cc (ap (λ (o : Option Script). and_then o (λ p. some p.declares)) k.is_read, e) in
    subst (λ (x : List Declaration). Assigns x s) q k.meets.assigns
