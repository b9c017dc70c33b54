-- What a form tells apart in a tree: constants of w bits, and the first m variables; and that it tells all in the claims of a rule that w bits hold. Assumes
-- nothing.
use Prim.Native.Nat.{ℕ, ◌≤◌, ◌<◌}
use mathlib.Core.Path.{◌≡◌, refl, sym, subst}
use native.Mathlib.Nat.{lt_of_lt_of_le}
use lib.ListN.{length}
use Rattle.numbers.specs.Two.{Within}
use Rattle.meaning.specs.declared.Sort.{Sort}
use Rattle.meaning.specs.Tree.{Tree}
use Rattle.meaning.specs.Rule.{Rule, domain_of}
use Rattle.kinds.specs.declared.Kind.{Kind}
use Rattle.kinds.specs.declared.Shape.{Shape}
use Rattle.kinds.specs.declared.Shape.TheVariants.{Wrong, Bare, Valued, Named, One, Two, Three}
use Rattle.kinds.specs.Kinds.{Args, row}
use Rattle.kinds.specs.Rows.{make, PartOf}
use Rattle.kinds.proofs.KindLaws.{valued-is, named-is}
use Rattle.kinds.proofs.RowLaws.{by_rows}
use Rattle.kinds.proofs.ClaimLaws.{Throughout, throughout-parts}
use Rattle.layout.specs.Fold.{of_tree}
use Rattle.layout.proofs.Made.{Leaf, constant, variable, neither, leaf_by, leaf_step, found_made, found-make}
use Rattle.wording.specs.Script.{in_domain, claims}
use Rattle.forms.specs.Width.{WidthHolds}
use Rattle.forms.proofs.Read.{Every, claims-every}

module _ (w m : ℕ) where
  abbrev pub HeldLeaf : Leaf → Type 0
  HeldLeaf (constant z) = Within w z
  HeldLeaf (variable i) = i < m
  HeldLeaf neither = Unit {0}

  -- of a node of a shape, made of x
  abbrev pub HeldMade : (h : Shape) → Args h → Type 0
  HeldMade h x = HeldLeaf (leaf_by h (found_made leaf_step h x))

  abbrev pub HeldHere : (s : Sort) → Tree s → Type 0
  HeldHere s t = HeldLeaf (of_tree leaf_step t)

  -- throughout a tree
  abbrev pub Held : {s : Sort} → Tree s → Type 0
  Held t = Throughout HeldHere t

  module _ (r : Rule) (few : length r.variables ≤ m) (h : WidthHolds w r) where
    abbrev HeldPart : Kind → Type 0
    HeldPart k = (x : Args (row k).shape) → PartOf (make k x) r.goal → HeldMade (row k).shape x

    abbrev HeldInner : Shape → Type 0
    HeldInner g = (x : Args g) → HeldMade g x

    part_held : (k : Kind) (g : Shape) → (row k).shape ≡ g → HeldPart k
    part_held k Wrong e = λ x p. subst HeldInner (sym e) (λ x. tt) x
    part_held k Bare e = λ x p. subst HeldInner (sym e) (λ x. tt) x
    part_held k Valued e = subst HeldPart (sym (valued-is k e)) (λ x p. h.constants x p)
    part_held k Named e = subst HeldPart (sym (named-is k e)) (λ x p. lt_of_lt_of_le (h.variables x p) few)
    part_held k (One s) e = λ x p. subst HeldInner (sym e) (λ x. tt) x
    part_held k (Two s t) e = λ x p. subst HeldInner (sym e) (λ x. tt) x
    part_held k (Three s t u) e = λ x p. subst HeldInner (sym e) (λ x. tt) x

    goal-held : Held r.goal
    goal-held = (throughout-parts HeldHere r.goal).1 (λ s t. by_rows (λ s t. PartOf t r.goal → HeldHere s t) (λ k q x y p. rw (found-make k q x leaf_step) (part_held k (row k).shape refl x p)) t)

    pub claims-held : Every (λ t. Held t) (claims 0 r.variables r.goal)
    unfolding Throughout by_rows of_tree
    claims-held = claims-every (λ t. Held t) r range (tt, goal-held)
      where
        range : (i : ℕ) → i < length r.variables → Held (in_domain i (domain_of r i))
        range i b =
            let l = lt_of_lt_of_le b few in
            (tt, ((tt, ((h.low i b, tt), (l, tt))), (tt, ((l, tt), (h.high i b, tt)))))
