-- The bytes that document 01 lists as zero are those that refusal 4 looks at. Assumes nothing.
use Prim.Native.Nat.{ℕ, zero, suc, ◌+◌, ◌-◌, ◌*◌, ◌/◌, ◌%◌, ◌≤◌, ◌<◌, min}
use mathlib.Core.Path.{◌≡◌, sym, subst, ◌∙◌}
use mathlib.Core.Logic.{⊎_elim}
use mathlib.Core.Bool.{false}
use mathlib.Core.List.{List}
use native.Mathlib.Decide.{dec_lt}
use native.Mathlib.Omega.{arith}
use Rattle.numbers.specs.Bytes.{byte_at}
use Rattle.layout.specs.Limits.{block_bytes, content_bytes, header_gap, header_gap_bytes, variable_bytes, most_variables, node_bytes, nodes_in_block, blocks_for, variable_place, node_place}
use Rattle.layout.specs.Parts.{node_count, variable_count}
use Rattle.layout.specs.LaidOut.{Zeros, used_in_node_block}
use Rattle.header.specs.Header.{zeros, tail_clear, outside_clear}
use Rattle.header.specs.MustBeZero.{MustBeZero, header-bytes, variable-record, past-variables, node-record, past-nodes}
use Rattle.lists.proofs.BelowLaws.{not-both, Lowest, lowest-of}
use Rattle.header.proofs.ZeroLaws.{zero-within, not-zero-of}
use Rattle.header.proofs.HeaderLaws.{Tail, Tails, tail-first, tail-later}

-- ---- each byte of the gap and of a tail is listed
module _ (v n : ℕ) where
  abbrev used_of : ℕ → ℕ
  used_of b = node_bytes * min nodes_in_block (n - nodes_in_block * b)

  pub gap-listed : (j : ℕ) → j < header_gap_bytes → MustBeZero v n (header_gap + j)
  gap-listed j h = header-bytes (header_gap + j) (omega arith) (omega arith)

  pub tail-listed : (j : ℕ) → j < content_bytes - variable_place v → MustBeZero v n (variable_place v + j)
  tail-listed j h = go (dec_lt (variable_place v + j) (variable_place most_variables))
    where
      go : Dec (variable_place v + j < variable_place most_variables) → MustBeZero v n (variable_place v + j)
      go (yes l) =
          let p : variable_place (v + j / variable_bytes) + j % variable_bytes ≡ variable_place v + j = omega arith in
          subst (MustBeZero v n) p (variable-record (v + j / variable_bytes) (j % variable_bytes) (omega arith) (omega arith) (omega arith))
      go (no l) = past-variables (variable_place v + j) (omega arith) (omega arith)

  pub tails-listed : (b j : ℕ) → b < blocks_for n → j < content_bytes - used_of b → MustBeZero v n (block_bytes * (b + 1) + used_of b + j)
  tails-listed b j l h = go (dec_lt (used_of b + j) (node_bytes * nodes_in_block))
    where
      go : Dec (used_of b + j < node_bytes * nodes_in_block) → MustBeZero v n (block_bytes * (b + 1) + used_of b + j)
      go (yes w) =
          let q : ℕ = used_of b + j in
          let m : ℕ = nodes_in_block * b + q / node_bytes in
          let p : node_place m + q % node_bytes ≡ block_bytes * (b + 1) + used_of b + j = omega arith in
          subst (MustBeZero v n) p (node-record m (q % node_bytes) (omega arith) (omega arith) (omega arith))
      go (no w) =
          let p : block_bytes * (b + 1) + (used_of b + j) ≡ block_bytes * (b + 1) + used_of b + j = omega arith in
          subst (MustBeZero v n) p (past-nodes (b + 1) (used_of b + j) (omega arith) (omega arith) (omega arith) (omega arith))

-- ---- and each listed byte is of the gap or a tail: only bytes 392..509 need the bound on V
module _ (s : List ℕ) where
  abbrev pub ListedZero : Type 0
  ListedZero = (j : ℕ) → MustBeZero (variable_count s) (node_count s) j → byte_at s j ≡ 0

  pub listed-zero : variable_count s ≤ most_variables → Zeros s header_gap header_gap_bytes × Tail s × Tails s → ListedZero
  listed-zero few h p (header-bytes j a b) = zero-within s _ _ h.0 p (omega arith) (omega arith)
  listed-zero few h p (variable-record i b u l r) = zero-within s _ _ h.1 p (omega arith) (omega arith)
  listed-zero few h p (past-variables j a b) = zero-within s _ _ h.1 p (omega arith) (omega arith)
  listed-zero few h p (node-record m b u l r) = zero-within s _ _ (h.2 (m / nodes_in_block) (omega arith)) p (omega arith) (omega arith)
  listed-zero few h p (past-nodes k b u l r o) = zero-within s _ _ (h.2 (k - 1) (omega arith)) p (omega arith) (omega arith)

  -- a listed byte that is not zero
  pub record Spoilt : Type 0 where
    pub place : ℕ
    pub listed : MustBeZero (variable_count s) (node_count s) place
    pub not-zero : byte_at s place ≡ 0 → ⊥

  pub spoilt-of : outside_clear s ≡ false → Spoilt
  unfolding outside_clear
  spoilt-of e = ⊎_elim in-gap (λ d. in_tail (lowest-of (tail_clear s) _ d.1)) (not-both _ _ e)
    where
      in-gap : zeros s header_gap header_gap_bytes ≡ false → Spoilt
      in-gap d =
          let w = not-zero-of s header_gap header_gap_bytes d in
          record { place = header_gap + w.number; listed = gap-listed _ _ _ w.below; not-zero = w.not-zero }

      at_block : (k : ℕ) → k < blocks_for (node_count s) + 1 → tail_clear s k ≡ false → Spoilt
      at_block zero h d =
          let w = not-zero-of s _ _ (sym (tail-first s) ∙ d) in
          record { place = variable_place (variable_count s) + w.number; listed = tail-listed _ _ _ w.below; not-zero = w.not-zero }
      at_block (suc b) h d =
          let w = not-zero-of s _ _ (sym (tail-later s b) ∙ d) in
          record { place = block_bytes * (b + 1) + used_in_node_block s b + w.number; listed = tails-listed _ _ b _ (omega arith) w.below; not-zero = w.not-zero }

      in_tail : Lowest (tail_clear s) (blocks_for (node_count s) + 1) → Spoilt
      in_tail w = at_block w.number w.below w.fails
