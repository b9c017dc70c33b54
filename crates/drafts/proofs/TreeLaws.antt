-- A tree's expression has the tree's records; so the sheet of what a rule's text says is the rule's sheet. Assumes nothing.
use Prim.Native.Nat.{ℕ}
use mathlib.Core.Path.{◌≡◌, refl, ap, sym, ◌∙◌}
use Rattle.numbers.specs.Two.{enc}
use Rattle.meaning.specs.declared.Sort.{Sort}
use Rattle.meaning.specs.Tree.{Tree}
use Rattle.meaning.specs.Rule.{Rule}
use Rattle.kinds.specs.declared.Kind.{Kind}
use Rattle.kinds.specs.declared.Shape.{Shape}
use Rattle.kinds.specs.declared.Shape.TheVariants.{Wrong, Bare, Valued, Named, One, Two, Three}
use Rattle.kinds.specs.Kinds.{Args, row}
use Rattle.kinds.specs.Rows.{make, Known}
use Rattle.kinds.proofs.RowLaws.{Each, by_rows}
use Rattle.kinds.proofs.KindLaws.{valued-is, named-is}
use Rattle.layout.specs.Nodes.{node, Listing, leaf, one_of, two_of, three_of, listing, nodes_of}
use Rattle.layout.specs.Sheet.{sheet_with, sheet_of}
use Rattle.layout.proofs.Made.{found_made, found-make, list_made, listing-make}
use Rattle.texts.specs.Expressions.{expression_by, expression_step, expression_of, records_of, draft_of, draft_sheet}

abbrev Same : (s : Sort) → Tree s → Type 0
Same s t = records_of (expression_of t) ≡ listing t

by_shape : (k : Kind) (h : Shape) → (row k).shape ≡ h → (x : Args h) → Each Same h x → records_of (expression_by h k (found_made expression_step h x)) ≡ list_made h k x
unfolding records_of
by_shape k Wrong e x y = refl
by_shape k Bare e x y = refl
by_shape k Valued e x y = ap (λ (j : Kind). leaf (node j 0 0 0 (enc 16 x))) (sym (valued-is k e))
by_shape k Named e x y = ap (λ (j : Kind). leaf (node j x 0 0 0)) (sym (named-is k e))
by_shape k (One s) e x y = ap (one_of k) y
by_shape k (Two s t) e x y = λ i. two_of k (y.0 i) (y.1 i)
by_shape k (Three s t u) e x y = λ i. three_of k (y.0 i) (y.1 i) (y.2 i)

made : (k : Kind) → Known (row k).shape → (x : Args (row k).shape) → Each Same (row k).shape x → Same (row k).gives (make k x)
made k q x y = ap records_of (found-make k q x expression_step) ∙ by_shape k (row k).shape refl x y ∙ sym (listing-make k q x)

pub records-tree : {s : Sort} (t : Tree s) (i : ℕ) → records_of (expression_of t) i ≡ nodes_of i t
records-tree t i = ap (λ (l : Listing). l i) (by_rows Same made t)

pub draft-sheet : (r : Rule) → draft_sheet (draft_of r) ≡ sheet_of r
unfolding sheet_of
draft-sheet r = ap (sheet_with r.variables) (records-tree r.goal 0)
