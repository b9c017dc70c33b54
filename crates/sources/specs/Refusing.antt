-- Follows the code: what a refusal of a text tells about the text, and where it can point.
use Rattle.std.specs.Prelude.{ℕ, ◌≤◌, ◌≡◌, List, length}
use Rattle.std.proofs.Math.Option.{Option, some}
use Rattle.refusals.specs.declared.Refusal.{Refusal}
use Rattle.grammar.specs.Begins.{Leaves}
use Rattle.texts.specs.Texts.{Text}
use Rattle.sources.specs.Sources.{Points}

-- 18 at the place where the bytes leave the texts, or another refusal, of a text
pub data Refuses (text : List ℕ) (r : Refusal) : Type 0 where
  off : r.number ≡ 18 → Leaves Text text r.place → Refuses text r
  said : (r.number ≡ 18 → ⊥) → Text text → Refuses text r

-- it points there, and a place that it points at is one of the text's, or the one behind its last byte
pub record PointsInside (text : List ℕ) (r : Refusal) (o : Option ℕ) : Type 0 where
  pub points : Points text r o
  pub inside : (p : ℕ) → o ≡ some p → p ≤ length text
