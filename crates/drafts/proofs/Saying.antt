-- An allowed rule whose names avoid the words has a text, which says its draft. Assumes nothing.
use Prim.Native.Nat.{ℕ, suc, ◌<◌}
use mathlib.Core.Path.{◌≡◌, refl, ap, subst, sym}
use mathlib.Core.List.{List, [], ◌∷◌}
use native.Mathlib.Omega.{arith}
use lib.ListN.{length}
use Rattle.lists.specs.Places.{at}
use Rattle.meaning.specs.declared.Sort.{Sort}
use Rattle.meaning.specs.Tree.{Tree}
use Rattle.meaning.specs.Rule.{Variable, Rule, no_variable, variable_of}
use Rattle.kinds.specs.declared.Kind.{Kind}
use Rattle.kinds.specs.declared.Shape.{Shape}
use Rattle.kinds.specs.declared.Shape.TheVariants.{Wrong, Bare, Valued, Named, One, Two, Three}
use Rattle.kinds.specs.Kinds.{Args, row}
use Rattle.kinds.specs.Rows.{make, Known}
use Rattle.kinds.proofs.RowLaws.{Each, by_rows}
use Rattle.layout.specs.WellFormed.{Fine}
use Rattle.layout.proofs.Made.{found_made, found-make, FineMade, fine-parts}
use Rattle.reading.specs.Lawful.{Allowed}
use Rattle.texts.specs.Expressions.{expression_by, expression_step, expression_of, draft_of}
use Rattle.texts.specs.Plain.{name_of, text_of}
use Rattle.texts.specs.Texts.{Word, Declarable, AllDeclarable, operands_behind, Writable, Says}

all-declarable : (vs : List Variable) → ((j : ℕ) → j < length vs → Declarable (at no_variable vs j)) → AllDeclarable vs
all-declarable [] h = tt
all-declarable (v ∷ vs) h = (h 0 (omega arith), all-declarable vs (λ j l. h (suc j) (omega arith)))

-- ---- the expression of a fine tree over variables with names of their own
module _ (vs : List Variable) (distinct : (i j : ℕ) → i < j → j < length vs → name_of vs i ≡ name_of vs j → ⊥) where
  abbrev Claim : (s : Sort) → Tree s → Type 0
  Claim s t = Fine (length vs) t → Writable vs (expression_of t)

  by_shape : (k : Kind) (h : Shape) → (row k).shape ≡ h → Known h → (x : Args h) → Each Claim h x → FineMade (length vs) h x → Writable vs (expression_by h k (found_made expression_step h x))
  by_shape k Wrong e q x y f = absurd q
  by_shape k Bare e q x y f = ap operands_behind e
  by_shape k Valued e q x y f = f
  by_shape k Named e q x y f = record { declared = f; first = λ j l. distinct j x l f }
  by_shape k (One s) e q x y f = (ap operands_behind e, y f)
  by_shape k (Two s t) e q x y f = (ap operands_behind e, y.0 f.0, y.1 f.1)
  by_shape k (Three s t u) e q x y f = (ap operands_behind e, y.0 f.0, y.1 f.1, y.2 f.2)

  made : (k : Kind) → Known (row k).shape → (x : Args (row k).shape) → Each Claim (row k).shape x → Claim (row k).gives (make k x)
  made k q x y f = subst (Writable vs) (sym (found-make k q x expression_step)) (by_shape k (row k).shape refl q x y (fine-parts (length vs) k x f))

  pub tree-writable : {s : Sort} (t : Tree s) → Fine (length vs) t → Writable vs (expression_of t)
  tree-writable t = by_rows Claim made t

-- ---- a rule
pub draft-says : (r : Rule) → Allowed r → ((i : ℕ) → i < length r.variables → Word (variable_of r i).name → ⊥) → Says (text_of r) (draft_of r)
draft-says r a avoid =
    let w = a.well-formed in
    record {
      variables = all-declarable r.variables (λ j l. record { name = record { name = a.lawful.names j l; short = (w.variables j l).short; no_word = avoid j l }; ends = (w.variables j l).ends });
      goal = tree-writable r.variables a.lawful.distinct r.goal w.goal;
      text = refl;
    }
