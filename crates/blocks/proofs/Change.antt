-- One changed byte of a sheet whose length and checks are right gives refusal 2 at that byte's block. Assumes nothing.
use mathlib.Core.Path.{◌≡◌, sym, ◌∙◌, ap, subst}
use mathlib.Core.Bool.{true, false}
use mathlib.Core.List.{List}
use mathlib.Core.Option.{none, some}
use Prim.Native.Nat.{ℕ, ◌+◌, ◌-◌, ◌*◌, ◌/◌, ◌%◌, ◌≤◌, ◌<◌}
use native.Mathlib.Nat.{div-add-mod}
use native.Mathlib.Decide.{dec_lt, ℕ_discrete}
use native.Mathlib.Omega.{arith}
use borrow.Author.Tests.{eqb-true, ne_eqb}
use lib.ListN.{length, set, length-take, length-drop, length-set}
use lib.Seq.{drop-set-lt, drop-set-add, take-set-le, take-set-lt, get_or-set_same, get_or-set_other, get_or-take, get_or-drop}
use Rattle.numbers.specs.Bytes.{byte_limit, byte_at, Bytes}
use Rattle.layout.specs.Limits.{block_bytes, content_bytes, most_nodes}
use Rattle.layout.specs.Checks.{weighted, check_of, content, stored_check, block_right}
use Rattle.blocks.specs.Early.{early}
use Rattle.blocks.proofs.CheckLaws.{weighted-set}
use Rattle.blocks.proofs.Divisors.{rests-differ}
use Rattle.blocks.proofs.EarlyLaws.{right-length, early-none, early-lowest}

-- a changed content byte changes the check
check-differs : (k : ℕ) (l : List ℕ) (i b : ℕ) → i < length l → i < content_bytes → b < byte_limit → byte_at l i < byte_limit → (b ≡ byte_at l i → ⊥) → check_of k (set l i b) ≡ check_of k l → ⊥
unfolding check_of
check-differs k l i b h hi hb ha ne e = go (dec_lt (byte_at l i) b)
  where
    old : ℕ
    old = k + 1 + weighted 1 l

    new : ℕ
    new = k + 1 + weighted 1 (set l i b)

    terms : new + (1 + i) * byte_at l i ≡ old + (1 + i) * b
    terms = omega (arith, weighted-set 1 l i b h)

    go : Dec (byte_at l i < b) → ⊥
    go (yes lt) = rests-differ new old (1 + i) (byte_at l i) b (omega arith) (omega arith) lt hb terms e
    go (no nl) = rests-differ old new (1 + i) b (byte_at l i) (omega arith) (omega arith) (omega arith) ha (sym terms) (sym e)

-- byte i of block k, changed to b
module _ (s : List ℕ) (k i b : ℕ) where
  abbrev changed : List ℕ
  changed = set s (block_bytes * k + i) b

  content-in : i < content_bytes → content changed k ≡ set (content s k) i b
  content-in h = rw (drop-set-add, take-set-lt)

  content-out : content_bytes ≤ i → content changed k ≡ content s k
  content-out h = rw (drop-set-add, take-set-le)

  same_byte : (j : ℕ) → (j ≡ block_bytes * k + i → ⊥) → byte_at changed j ≡ byte_at s j
  same_byte j ne = get_or-set_other s (block_bytes * k + i) j b 0 ne

  same-stored : (m : ℕ) → (block_bytes * m + content_bytes ≡ block_bytes * k + i → ⊥) → (block_bytes * m + content_bytes + 1 ≡ block_bytes * k + i → ⊥) → stored_check changed m ≡ stored_check s m
  same-stored m n₀ n₁ = rw (same_byte (block_bytes * m + content_bytes) n₀, same_byte (block_bytes * m + content_bytes + 1) n₁)

  -- another block is as it was
  other-same : i < block_bytes → (m : ℕ) → (m ≡ k → ⊥) → block_right changed m ≡ block_right s m
  unfolding block_right
  other-same h m ne = rw (same (dec_lt m k), same-stored m (λ e. omega arith) (λ e. omega arith))
    where
      same : Dec (m < k) → content changed m ≡ content s m
      same (yes l) =
          let e : block_bytes * k + i ≡ block_bytes * m + (block_bytes * k + i - block_bytes * m) = omega arith in
          let le : content_bytes ≤ block_bytes * k + i - block_bytes * m = omega arith in
          subst (λ (j : ℕ). content (set s j b) m ≡ content s m) (sym e) (rw (drop-set-add, take-set-le))
      same (no l) =
          let lt : block_bytes * k + i < block_bytes * m = omega arith in
          rw drop-set-lt

  -- the block itself is wrong
  module _ (bytes : Bytes s) (inside : block_bytes * k + i < length s) (byte : b < byte_limit) (new : b ≡ byte_at s (block_bytes * k + i) → ⊥) where
    here : i < content_bytes → byte_at (content s k) i ≡ byte_at s (block_bytes * k + i)
    here h = rw (get_or-take, get_or-drop)

    at : (p : ℕ) → block_bytes * k + i ≡ p → (byte_at changed p ≡ b) × (byte_at s (block_bytes * k + i) ≡ byte_at s p)
    at p e = (subst (λ (q : ℕ). byte_at changed q ≡ b) e (get_or-set_same s (block_bytes * k + i) b 0 inside), ap (byte_at s) e)

    stored-differs : content_bytes ≤ i → i < block_bytes → stored_check changed k ≡ stored_check s k → ⊥
    stored-differs l h e = go (ℕ_discrete i content_bytes)
      where
        low : ℕ
        low = block_bytes * k + content_bytes

        go : Dec (i ≡ content_bytes) → ⊥
        go (yes q) = new (omega (arith, same_byte (low + 1) (λ z. omega arith), at low (omega arith)))
        go (no q) = new (omega (arith, same_byte low (λ z. omega arith), at (low + 1) (omega arith)))

    itself-wrong : i < block_bytes → block_right s k ≡ true → block_right changed k ≡ false
    unfolding block_right
    itself-wrong h right = ne_eqb _ _ (go (dec_lt i content_bytes))
      where
        was : check_of k (content s k) ≡ stored_check s k
        was = eqb-true _ _ right

        go : Dec (i < content_bytes) → check_of k (content changed k) ≡ stored_check changed k → ⊥
        go (yes l) e =
            check-differs k (content s k) i b (simp (length-take, length-drop) (omega arith)) l byte
            (rw here (bytes _)) (λ q. new (q ∙ here l))
            (ap (check_of k) (sym (content-in l)) ∙ e ∙ same-stored k (λ z. omega arith) (λ z. omega arith) ∙ sym was)
        go (no l) e =
            let le : content_bytes ≤ i = omega arith in
            stored-differs le h (sym e ∙ ap (check_of k) (content-out le) ∙ was)

pub one_byte : (s : List ℕ) → Bytes s → early most_nodes s ≡ none → (j b : ℕ) → j < length s → b < byte_limit → (b ≡ byte_at s j → ⊥) → early most_nodes (set s j b) ≡ some (record { number = 2; place = j / block_bytes })
one_byte s bytes passed j b inside byte new =
    let k : ℕ = j / block_bytes in
    let i : ℕ = j % block_bytes in
    let there : block_bytes * k + i ≡ j = div-add-mod j block_bytes in
    let right = early-none most_nodes s passed in
    let whole = right-length most_nodes (length s) right.0 in
    early-lowest most_nodes (set s j b) (rw length-set right.0)
    (record {
      inside = rw length-set (omega arith);
      wrong =
          subst (λ (p : ℕ). block_right (set s p b) k ≡ false) there
          (itself-wrong s k i b bytes (rw there inside) byte (rw there new) (omega arith) (right.1 k (omega arith)));
      lower = λ m l.
          subst (λ (p : ℕ). block_right (set s p b) m ≡ block_right s m) there (other-same s k i b (omega arith) m (λ e. omega arith)) ∙ right.1 m (omega arith);
    })
