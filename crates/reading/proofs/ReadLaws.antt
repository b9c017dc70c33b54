-- The reading step by step: what each step's answer makes of the whole, and what it leaves for the next. Assumes nothing.
use Prim.Native.Nat.{ℕ, ◌+◌, ◌*◌, ◌%◌, ◌^◌, ◌≤◌, ◌<◌}
use mathlib.Core.Path.{◌≡◌, sym}
use mathlib.Core.List.{List}
use mathlib.Core.Option.{none}
use native.Mathlib.Omega.{arith}
use lib.ListN.{length}
use Rattle.numbers.specs.Bytes.{most_byte}
use Rattle.layout.specs.Limits.{block_bytes, name_start, most_variables, variable_place, most_nodes}
use Rattle.layout.specs.Parts.{node_count, variable_count}
use Rattle.blocks.specs.Early.{early}
use Rattle.blocks.proofs.EarlyLaws.{early-none, right-length}
use Rattle.header.specs.Header.{header, Counted}
use Rattle.header.proofs.HeaderLaws.{block_inside, blocks-inside, right-of-none, right-counts}
use Rattle.reading.specs.Cascade.{refusal_of}
use Rattle.reading.proofs.RuleLaws.{accepted-counted}

-- ---- what each step leaves to the next
module _ (s : List ℕ) where
  pub one_block : none ≡ early most_nodes s → block_bytes ≤ length s
  one_block e =
      let w = right-length most_nodes (length s) (early-none most_nodes s (sym e)).0 in
      long (length s) w.0 w.1
    where
      long : (n : ℕ) → (n ≡ 0 → ⊥) → n % block_bytes ≡ 0 → block_bytes ≤ n
      long n f g = omega arith

  pub read_counted : none ≡ header most_nodes s → Counted most_nodes s
  read_counted e = right-counts most_nodes s (right-of-none most_nodes s (sym e))

  pub records_inside : none ≡ header most_nodes s → (2 * block_bytes ≤ length s) × (variable_count s ≤ most_variables)
  records_inside e = let c = read_counted e in (blocks-inside c, c.few)

  -- ---- what an accepted sheet has
  pub accepted_long : none ≡ refusal_of most_nodes s → block_bytes ≤ length s
  accepted_long e = block_inside (accepted-counted s (sym e))

  pub accepted_block : refusal_of most_nodes s ≡ none → block_bytes ≤ length s
  accepted_block e = accepted_long (sym e)

  pub some_nodes : refusal_of most_nodes s ≡ none → (1 ≤ node_count s) × (node_count s < 2 ^ 16)
  some_nodes e = let c = accepted-counted s e in (c.some-node, omega (arith, c.most))

  -- the name of variable i, and the record of node n
  pub name_inside : {i : ℕ} → none ≡ refusal_of most_nodes s → i < variable_count s → variable_place i + name_start + most_byte ≤ length s
  name_inside e h =
      let c = accepted-counted s (sym e) in
      omega (arith, c.size, c.some-node, c.few)
