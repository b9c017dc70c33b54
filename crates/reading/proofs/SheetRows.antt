-- Rows 1 to 5 say what the reading's tests say. Assumes nothing.
use Prim.Native.Nat.{ℕ, ◌/◌, ◌<◌}
use mathlib.Core.Path.{◌≡◌, refl, sym, ◌∙◌}
use mathlib.Core.Logic.{⊎_elim}
use mathlib.Core.Bool.{Bool, true, false, true≢false, ◌&&◌}
use mathlib.Core.List.{List}
use native.Mathlib.Decide.{dec_lt}
use native.Mathlib.Omega.{arith}
use lib.ListN.{length}
use Rattle.lists.proofs.TestLaws.{both}
use Rattle.lists.proofs.Decided.{decides_eq}
use Rattle.layout.specs.Limits.{block_bytes, most_variables}
use Rattle.layout.specs.Parts.{edition, node_count, variable_count}
use Rattle.refusals.specs.Rows.{row, ◌then◌, each_of, Exactly}
use Rattle.refusals.proofs.RowLaws.{exactly-row, exactly-unless, exactly-then, exactly-each}
use Rattle.blocks.specs.Early.{length_right, early}
use Rattle.blocks.proofs.BlockLaws.{check-decided}
use Rattle.blocks.proofs.EarlyLaws.{right-length, wrong-length}
use Rattle.header.specs.Header.{counts_right, outside_clear, header}
use Rattle.header.proofs.HeaderLaws.{counts_of, counts-at, outside-at}
use Rattle.header.proofs.Spare.{listed-zero, spoilt-of}
use Rattle.records.specs.Variables.{variables}
use Rattle.records.proofs.VariableLaws.{kept-decided}
use Rattle.reading.specs.Rows.{Row1, empty, ragged, long, Row2, Row3, Row4, no_node, nodes, variables as many, size, byte, Row5}

module _ (limit : ℕ) (s : List ℕ) where
  -- ---- 1: the length
  row1-of : length_right limit (length s) ≡ false → Row1 limit s
  row1-of e = ⊎_elim empty (⊎_elim ragged long) (wrong-length limit (length s) e)

  row1-not : length_right limit (length s) ≡ true → Row1 limit s → ⊥
  row1-not e (empty h) = (right-length limit (length s) e).0 h
  row1-not e (ragged h) = h (right-length limit (length s) e).1
  row1-not e (long h) = let w = (right-length limit (length s) e).2 in omega arith

  -- ---- 1, then 2
  pub early-rows : Exactly (row 1 0 (Row1 limit s) then each_of (λ k. row 2 k (Row2 s k)) 0 (length s / block_bytes)) (early limit s)
  unfolding early
  early-rows = exactly-then (exactly-row (length_right limit (length s)) 1 0 row1-not row1-of) (λ e. exactly-each (length s / block_bytes) 0 (λ k l h w. exactly-unless 2 k (check-decided s k)))

  -- ---- 4: counts, length and the bytes outside the records
  counts-wrong : counts_right limit s ≡ false → Row4 limit s
  counts-wrong e = go (dec_lt (node_count s) 1) (dec_lt limit (node_count s)) (dec_lt most_variables (variable_count s))
    where
      go : Dec (node_count s < 1) → Dec (limit < node_count s) → Dec (most_variables < variable_count s) → Row4 limit s
      go (yes a) b c = no_node a
      go (no a) (yes b) c = nodes b
      go (no a) (no b) (yes c) = many c
      go (no a) (no b) (no c) = size (λ z. true≢false (sym (counts_of limit s (record { some-node = omega arith; most = omega arith; few = omega arith; size = z })) ∙ e))

  row4-of : counts_right limit s && outside_clear s ≡ false → Row4 limit s
  row4-of e = go (counts_right limit s) refl e
    where
      go : (b : Bool) → counts_right limit s ≡ b → b && outside_clear s ≡ false → Row4 limit s
      go true q d = let w = spoilt-of s d in byte w.place w.listed w.not-zero
      go false q d = counts-wrong q

  row4-not : counts_right limit s && outside_clear s ≡ true → Row4 limit s → ⊥
  row4-not e h = go (both (counts_right limit s) (outside_clear s) e) h
    where
      go : (counts_right limit s ≡ true) × (outside_clear s ≡ true) → Row4 limit s → ⊥
      go w (no_node a) = let c = counts-at limit s w.0 in omega arith
      go w (nodes a) = let c = counts-at limit s w.0 in omega arith
      go w (many a) = let c = counts-at limit s w.0 in omega arith
      go w (size a) = a (counts-at limit s w.0).size
      go w (byte j m a) = a (listed-zero s (counts-at limit s w.0).few (outside-at s w.1) j m)

  -- ---- 3, then 4
  pub header-rows : Exactly (row 3 0 (Row3 s) then row 4 0 (Row4 limit s)) (header limit s)
  unfolding header
  header-rows = exactly-then (exactly-unless 3 0 (decides_eq (edition s) 1)) (λ e. exactly-row (counts_right limit s && outside_clear s) 4 0 row4-not row4-of)

-- ---- 5: variable records
module _ (s : List ℕ) where
  pub variables-rows : Exactly (each_of (λ i. row 5 i (Row5 s i)) 0 (variable_count s)) (variables s)
  variables-rows = exactly-each (variable_count s) 0 (λ i l h w. exactly-unless 5 i (kept-decided s i))
