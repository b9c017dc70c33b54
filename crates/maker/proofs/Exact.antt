-- A text that says a draft is refused exactly as the draft's table of rows says; and bytes are a text, or leave the texts at one place. Assumes nothing.
use Prim.Native.Nat.{ℕ}
use mathlib.Core.Path.{◌≡◌, refl}
use mathlib.Core.Bool.{true, false, ◌&&◌}
use mathlib.Core.List.{List}
use mathlib.Core.Logic.{◌⊎◌, inl, inr, ⊎_elim}
use mathlib.Core.Option.{Option, none, some}
use native.Mathlib.Omega.{arith}
use borrow.Author.Tests.{leb-true, leb-false}
use lib.Dec.{leb}
use lib.ListN.{length}
use Rattle.lists.proofs.TestLaws.{both}
use Rattle.lists.proofs.BelowLaws.{not-both}
use Rattle.refusals.specs.Rows.{Exactly}
use Rattle.refusals.proofs.RowLaws.{exactly-row, exactly-most, exactly-then}
use Rattle.layout.specs.Limits.{most_variables}
use Rattle.reading.proofs.Exact.{sheet-exactly}
use Rattle.grammar.specs.Begins.{Leaves}
use Rattle.grammar.proofs.BeginLaws.{leaves-as}
use Rattle.texts.specs.Expressions.{records_of, Draft, draft_sheet}
use Rattle.texts.specs.Texts.{Text}
use Rattle.texts.proofs.TextLaws.{text-lines}
use Rattle.texts.proofs.PlaceExactly.{place_of, lines-exactly, leaves-exactly}
use Rattle.maker.specs.Rows.{Row4, variables, nodes, draft_rows}
use Rattle.maker.specs.Makes.{draft_refusal}

module _ (limit : ℕ) (d : Draft) where
  over-limits : leb (length d.variables) most_variables && leb (length (records_of d.goal 0)) limit ≡ false → Row4 limit d
  over-limits e =
      ⊎_elim (λ f. variables (leb-false _ _ f)) (λ f. nodes (leb-false _ _ f.1)) (not-both (leb (length d.variables) most_variables) (leb (length (records_of d.goal 0)) limit) e)

  within-limits : leb (length d.variables) most_variables && leb (length (records_of d.goal 0)) limit ≡ true → Row4 limit d → ⊥
  within-limits e (variables h) = omega (arith, leb-true (length d.variables) most_variables (both (leb (length d.variables) most_variables) (leb (length (records_of d.goal 0)) limit) e).0)
  within-limits e (nodes h) = omega (arith, leb-true (length (records_of d.goal 0)) limit (both (leb (length d.variables) most_variables) (leb (length (records_of d.goal 0)) limit) e).1)

pub draft-exactly : (limit : ℕ) (d : Draft) (room : ℕ) → Exactly (draft_rows limit d room) (draft_refusal limit d room)
unfolding draft_refusal
draft-exactly limit d room =
    exactly-then (exactly-row (leb (length d.variables) most_variables && leb (length (records_of d.goal 0)) limit) 4 0 (within-limits limit d) (over-limits limit d))
    (λ e. exactly-then (sheet-exactly limit (draft_sheet d)) (λ f. exactly-most (length (draft_sheet d)) room 9 (length (draft_sheet d))))

-- the place where the machine stops says which
pub text-or-leaves : (s : List ℕ) → Text s ⊎ ((p : ℕ) × Leaves Text s p)
text-or-leaves s = go (place_of s) refl
  where
    go : (o : Option ℕ) → place_of s ≡ o → Text s ⊎ ((p : ℕ) × Leaves Text s p)
    go none e = inl ((text-lines s).1 ((lines-exactly s).0 e))
    go (some p) e = inr (p, (leaves-as text-lines s p).1 ((leaves-exactly s p).0 e))
