-- Document 01's worked check, and `one_byte` applied to a right block, by computation. Assumes nothing.
use mathlib.Core.Path.{◌≡◌, refl}
use mathlib.Core.List.{List, [], ◌∷◌, ◌++◌}
use mathlib.Core.Option.{none, some}
use Prim.Native.Nat.{ℕ, ◌-◌, ◌/◌, ◌≤◌, ◌<◌}
use native.Mathlib.Decide.{dec_lt}
use native.Mathlib.Omega.{arith}
use borrow.Author.Tests.{ltb-true}
use lib.Dec.{ltb}
use lib.ListN.{length, set, replicate, get_or-eq_default}
use Rattle.lists.specs.Places.{all_below}
use Rattle.lists.specs.First.{first}
use Rattle.lists.proofs.TestLaws.{all_true}
use Rattle.numbers.specs.Bytes.{byte_limit, most_byte, byte_at, pair, Bytes}
use Rattle.layout.specs.Limits.{block_bytes, content_bytes, most_nodes}
use Rattle.layout.specs.Checks.{weighted, check_of, block_right}
use Rattle.blocks.specs.Early.{length_right, early}
use Rattle.blocks.proofs.Change.{one_byte}

-- 1 first, 255 last and zeros between
abbrev pub worked_content : List ℕ
worked_content = 1 ∷ replicate (content_bytes - 2) 0 ++ most_byte ∷ []

pub worked-check : check_of 0 worked_content ≡ 64531
unfolding check_of weighted
worked-check = refl

pub worked-stored : pair (check_of 0 worked_content) ≡ 0x13 ∷ 0xfc ∷ []
unfolding check_of weighted
worked-stored = refl

-- as a sheet of one block, with its check
abbrev pub worked_sheet : List ℕ
worked_sheet = worked_content ++ 0x13 ∷ 0xfc ∷ []

worked-bytes : Bytes worked_sheet
unfolding all_below
worked-bytes j = go (dec_lt j block_bytes)
  where
    go : Dec (j < block_bytes) → byte_at worked_sheet j < byte_limit
    go (yes h) = ltb-true _ _ (all_true (λ (i : ℕ). ltb (byte_at worked_sheet i) byte_limit) block_bytes refl j h)
    go (no h) =
        let l : length worked_sheet ≤ j = omega arith in
        rw (get_or-eq_default worked_sheet 0 l) (omega arith)

pub worked-passes : early most_nodes worked_sheet ≡ none
unfolding early length_right first block_right check_of weighted
worked-passes = refl

pub worked-changed : (j b : ℕ) → j < block_bytes → b < byte_limit → (b ≡ byte_at worked_sheet j → ⊥) → early most_nodes (set worked_sheet j b) ≡ some (record { number = 2; place = 0 })
worked-changed j b h hb new =
    let z : j / block_bytes ≡ 0 = omega arith in
    rw z at (one_byte worked_sheet worked-bytes worked-passes j b h hb new)

pub worked-changed-0 : early most_nodes (set worked_sheet 0 2) ≡ some (record { number = 2; place = 0 })
worked-changed-0 = worked-changed 0 2 (omega arith) (omega arith) (λ e. omega arith)
