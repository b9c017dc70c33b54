-- Laws of refusals 3 and 4: what the tests say, what the answer says, and what then lies inside the sheet. Assumes nothing.
use Prim.Native.Nat.{ℕ, zero, suc, ◌+◌, ◌-◌, ◌*◌, ◌≤◌, ◌<◌}
use mathlib.Core.Path.{◌≡◌, refl, sym, ap, ◌∙◌}
use mathlib.Core.Bool.{Bool, true, false, ◌&&◌, and-false}
use mathlib.Core.List.{List}
use mathlib.Core.Option.{none, some, none-ne-some}
use native.Mathlib.Nat.{zero-add}
use native.Mathlib.Decide.{ℕ_discrete}
use native.Mathlib.Numerals.{add-one}
use native.Mathlib.Omega.{arith}
use borrow.Author.Tests.{eq-eqb, ne_eqb, eqb-true, le-leb, lt-leb, leb-true}
use lib.Dec.{eqb}
use lib.ListN.{length}
use Rattle.lists.specs.Places.{all_below}
use Rattle.lists.proofs.TestLaws.{both, and, all_true, all_of}
use Rattle.refusals.specs.declared.Refusal.{Refusal}
use Rattle.layout.specs.Limits.{block_bytes, content_bytes, header_gap, header_gap_bytes, most_variables, node_bytes, blocks_for, sheet_bytes, variable_place, node_place}
use Rattle.layout.specs.Parts.{edition, node_count, variable_count}
use Rattle.layout.specs.LaidOut.{Zeros, used_in_node_block}
use Rattle.header.specs.Header.{zeros, counts_right, used_in, tail_clear, outside_clear, header, Counted}
use Rattle.lists.proofs.BelowLaws.{all-stop}
use Rattle.header.proofs.ZeroLaws.{zeros-at, zeros_of}

-- ---- the counts and the length
module _ (limit : ℕ) (s : List ℕ) where
  pub counts-none : node_count s < 1 → counts_right limit s ≡ false
  unfolding counts_right
  counts-none h = rw (lt-leb 1 (node_count s) h)

  pub counts-many : limit < node_count s → counts_right limit s ≡ false
  unfolding counts_right
  counts-many h = rw (lt-leb (node_count s) limit h, and-false)

  pub counts-variables : most_variables < variable_count s → counts_right limit s ≡ false
  unfolding counts_right
  counts-variables h = rw (lt-leb (variable_count s) most_variables h, and-false)

  pub counts-size : 1 ≤ node_count s → node_count s ≤ limit → variable_count s ≤ most_variables → counts_right limit s ≡ eqb (length s) (sheet_bytes (node_count s))
  unfolding counts_right
  counts-size a b c = rw (le-leb 1 (node_count s) a, le-leb (node_count s) limit b, le-leb (variable_count s) most_variables c)

  pub counts-at : counts_right limit s ≡ true → Counted limit s
  unfolding counts_right
  counts-at e =
      let w = both _ _ e in
      let v = both _ _ w.0 in
      let u = both _ _ v.0 in
      record { some-node = leb-true _ _ u.0; most = leb-true _ _ u.1; few = leb-true _ _ v.1; size = eqb-true _ _ w.1 }

  pub counts_of : Counted limit s → counts_right limit s ≡ true
  counts_of h = counts-size h.some-node h.most h.few ∙ eq-eqb _ _ h.size

-- ---- the bytes outside the records: block 0's tail and those of the node blocks
abbrev pub Tail : List ℕ → Type 0
Tail s = Zeros s (variable_place (variable_count s)) (content_bytes - variable_place (variable_count s))

abbrev pub Tails : List ℕ → Type 0
Tails s = (b : ℕ) → b < blocks_for (node_count s) → Zeros s (block_bytes * (b + 1) + used_in_node_block s b) (content_bytes - used_in_node_block s b)

module _ (s : List ℕ) where
  pub used-first : {k : ℕ} → k ≡ 0 → used_in s k ≡ variable_place (variable_count s)
  used-first e = rw e

  pub used-later : (k : ℕ) → (k ≡ 0 → ⊥) → used_in s k ≡ used_in_node_block s (k - 1)
  used-later zero h = absurd (h refl)
  used-later (suc b) h = let e : suc b - 1 ≡ b = omega arith in rw e

  pub outside-gap : zeros s header_gap header_gap_bytes ≡ false → outside_clear s ≡ false
  unfolding outside_clear
  outside-gap e = rw e

  pub outside-tail : {k : ℕ} → k < blocks_for (node_count s) + 1 → tail_clear s k ≡ false → outside_clear s ≡ false
  unfolding outside_clear
  outside-tail h e = rw (all-stop (tail_clear s) (blocks_for (node_count s) + 1) h e, and-false)

  pub outside-all : zeros s header_gap header_gap_bytes ≡ true → {n : ℕ} → all_below (tail_clear s) n ≡ true → n ≡ blocks_for (node_count s) + 1 → outside_clear s ≡ true
  unfolding outside_clear
  outside-all e d p = and e (ap (all_below (tail_clear s)) (sym p) ∙ d)

  -- the tail of block 0, and that of node block b
  pub tail-first : tail_clear s 0 ≡ zeros s (variable_place (variable_count s)) (content_bytes - variable_place (variable_count s))
  unfolding tail_clear
  tail-first = rw (zero-add (variable_place (variable_count s)))

  pub tail-later : (b : ℕ) → tail_clear s (suc b) ≡ zeros s (block_bytes * (b + 1) + used_in_node_block s b) (content_bytes - used_in_node_block s b)
  unfolding tail_clear
  tail-later b = rw (add-one b)

  pub outside-at : outside_clear s ≡ true → Zeros s header_gap header_gap_bytes × Tail s × Tails s
  unfolding outside_clear
  outside-at e =
      let w = both _ _ e in
      let t = all_true (tail_clear s) _ w.1 in
      (zeros-at _ _ _ w.0, zeros-at _ _ _ (sym tail-first ∙ t 0 (omega arith)), λ b h. zeros-at _ _ _ (sym (tail-later b) ∙ t (suc b) (omega arith)))

  pub outside_of : Zeros s header_gap header_gap_bytes → Tail s → Tails s → outside_clear s ≡ true
  unfolding outside_clear
  outside_of g h t = and (zeros_of _ _ _ g) (all_of (tail_clear s) _ each)
    where
      each : (k : ℕ) → k < blocks_for (node_count s) + 1 → tail_clear s k ≡ true
      each zero l = tail-first ∙ zeros_of _ _ _ h
      each (suc b) l = tail-later b ∙ zeros_of _ _ _ (t b (omega arith))

-- ---- the answer
abbrev pub at-0 : ℕ → Refusal
at-0 n = record { number = n; place = 0 }

pub record HeaderRight (limit : ℕ) (s : List ℕ) : Type 0 where
  pub edition : edition s ≡ 1
  pub some-node : 1 ≤ node_count s
  pub most : node_count s ≤ limit
  pub few : variable_count s ≤ most_variables
  pub size : length s ≡ sheet_bytes (node_count s)
  pub gap : Zeros s header_gap header_gap_bytes
  pub tail : Tail s
  pub tails : Tails s

module _ (limit : ℕ) (s : List ℕ) where
  pub edition-refuses : (edition s ≡ 1 → ⊥) → header limit s ≡ some (at-0 3)
  unfolding header
  edition-refuses h = rw (ne_eqb (edition s) 1 h)

  tests-refuse : edition s ≡ 1 → counts_right limit s && outside_clear s ≡ false → header limit s ≡ some (at-0 4)
  unfolding header
  tests-refuse h e = rw (eq-eqb (edition s) 1 h, e)

  pub counts-refuse : edition s ≡ 1 → counts_right limit s ≡ false → header limit s ≡ some (at-0 4)
  counts-refuse h e = tests-refuse h (rw e)

  pub outside-refuses : edition s ≡ 1 → outside_clear s ≡ false → header limit s ≡ some (at-0 4)
  outside-refuses h e = tests-refuse h (rw (e, and-false))

  pub tests-pass : edition s ≡ 1 → counts_right limit s ≡ true → outside_clear s ≡ true → header limit s ≡ none
  unfolding header
  tests-pass h e d = rw (eq-eqb (edition s) 1 h, e, d)

  pub right-counts : HeaderRight limit s → Counted limit s
  right-counts h = record { some-node = h.some-node; most = h.most; few = h.few; size = h.size }

  -- none exactly where the header is right
  pub none-of-right : HeaderRight limit s → header limit s ≡ none
  none-of-right h = tests-pass h.edition (counts_of limit s (right-counts h)) (outside_of s h.gap h.tail h.tails)

  pub right-of-tests : edition s ≡ 1 → counts_right limit s ≡ true → outside_clear s ≡ true → HeaderRight limit s
  right-of-tests h e d =
      let c = counts-at limit s e in
      let o = outside-at s d in
      record { edition = h; some-node = c.some-node; most = c.most; few = c.few; size = c.size; gap = o.0; tail = o.1; tails = o.2 }

  pub right-of-none : header limit s ≡ none → HeaderRight limit s
  right-of-none e = go (ℕ_discrete (edition s) 1) (counts_right limit s) (outside_clear s) refl refl
    where
      go : Dec (edition s ≡ 1) → (p q : Bool) → counts_right limit s ≡ p → outside_clear s ≡ q → HeaderRight limit s
      go (no n) p q c o = absurd (none-ne-some _ (sym e ∙ edition-refuses n))
      go (yes h) true true c o = right-of-tests h c o
      go (yes h) true false c o = absurd (none-ne-some _ (sym e ∙ outside-refuses h o))
      go (yes h) false q c o = absurd (none-ne-some _ (sym e ∙ counts-refuse h c))

-- ---- what lies inside, where the counts and the length are right
module _ {limit : ℕ} {s : List ℕ} (c : Counted limit s) where
  pub block_inside : block_bytes ≤ length s
  block_inside = omega (arith, c.size)

  -- some node takes a second block
  pub blocks-inside : 2 * block_bytes ≤ length s
  blocks-inside = omega (arith, c.size, c.some-node)

  -- node n's record
  pub node-inside : {n : ℕ} → n < node_count s → node_place n + node_bytes ≤ length s
  node-inside l = omega (arith, c.size)
