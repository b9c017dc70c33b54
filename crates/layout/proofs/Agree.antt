-- Two sheets that are laid out right, with the same goal over the same domains, agree at every byte that says nothing of names. Assumes nothing.
use Prim.Native.Nat.{ℕ, suc, ◌+◌, ◌-◌, ◌*◌, ◌/◌, ◌≤◌, ◌<◌}
use mathlib.Core.Path.{◌≡◌, refl, sym, ap, subst, ◌∙◌}
use mathlib.Core.List.{List, ◌++◌}
use native.Mathlib.Numerals.{add-one}
use native.Mathlib.Decide.{dec_lt}
use native.Mathlib.Omega.{arith}
use lib.ListN.{length, drop, length-append, length-take, length-drop}
use lib.Seq.{drop_at, get_or-drop}
use Rattle.lists.specs.Places.{from}
use Rattle.lists.proofs.RunLaws.{length_from, from-same}
use Rattle.numbers.specs.declared.Range.{Range}
use Rattle.numbers.specs.Two.{enc}
use Rattle.numbers.specs.Bytes.{byte_at, u16_at, i16_at, pair}
use Rattle.numbers.proofs.Bytes16.{word-parts, u16-lt, enc16-dec16}
use Rattle.meaning.specs.Rule.{Variable, Rule, domain_of}
use Rattle.kinds.specs.declared.Record.{Record}
use Rattle.layout.specs.Limits.{block_bytes, content_bytes, edition_offset, node_count_offset, header_bytes, variable_bytes, max_offset, name_size_offset, zero_offset, name_start, most_name_bytes, name_end, blocks_for, variable_place}
use Rattle.layout.specs.Checks.{check_of, content, sealed}
use Rattle.layout.specs.Nodes.{nodes_of}
use Rattle.layout.specs.Parts.{node_count, variable_count, variable_at, name_size, table, rule_in, OnNames, name-length, name-bytes, check-bytes, Nameless}
use Rattle.layout.specs.LaidOut.{Zeros, VariableLaidOut, LaidOut}
use Rattle.layout.specs.Sheet.{node_content}
use Rattle.layout.proofs.PartLaws.{words, variable-total, variable-is}
use Rattle.layout.proofs.Forward.{records-are}
use Rattle.layout.proofs.SealLaws.{content-is, sealed-is}
use Rattle.layout.proofs.SheetLaws.{run-nodes}

-- two rules that differ in names alone
pub record Alike (r q : Rule) : Type 0 where
  pub goal : r.goal ≡ q.goal
  pub count : length r.variables ≡ length q.variables
  pub domains : (i : ℕ) → domain_of r i ≡ domain_of q i

-- the last bytes of a variable's record are zero
ends : (s : List ℕ) (i : ℕ) → VariableLaidOut s i → Zeros s (i + name_end) (variable_bytes - name_end)
ends s i v j h =
    let d = v.short in
    let n : ℕ = name_size s i in
    let e : i + name_start + n + (most_name_bytes - n + j) ≡ i + name_end + j = omega arith in
    rw e at (v.rest (most_name_bytes - n + j) (omega arith))

-- where a byte that doesn't hang on names isn't
module _ {v j : ℕ} (n : Nameless v j) where
  no_size : {i : ℕ} → i < v → j ≡ variable_place i + name_size_offset → ⊥
  no_size {i} h e = n (subst (OnNames v) (sym e) (name-length i h))

  past-name : {i : ℕ} → i < v → variable_place i + name_start ≤ j → variable_place i + name_end ≤ j
  past-name {i} h l = by (dec_lt j (variable_place i + name_end))
    where
      by : Dec (j < variable_place i + name_end) → variable_place i + name_end ≤ j
      by (yes d) =
          let start : ℕ = variable_place i + name_start in
          let e : start + (j - start) ≡ j = omega arith in
          absurd (n (subst (OnNames v) e (name-bytes i (j - start) h (omega arith))))
      by (no d) = omega arith

  past-check : content_bytes ≤ j → block_bytes ≤ j
  past-check l = elim (dec_lt j block_bytes) [ yes d ↦ absurd (n (check-bytes j l d)) | no d ↦ omega arith ]

-- a byte of a domain is such a byte
pub domain-nameless : (v i b : ℕ) → b < name_size_offset → Nameless v (variable_place i + b)
domain-nameless v i b l o = nowhere o refl
  where
    nowhere : {j : ℕ} → OnNames v j → j ≡ variable_place i + b → ⊥
    nowhere (name-length k h) e = omega arith
    nowhere (name-bytes k c h m) e = omega arith
    nowhere (check-bytes j m h) e = omega arith

-- the blocks after the first
after_first : (s : List ℕ) → LaidOut s → drop block_bytes s ≡ sealed 1 (from (content s) 1 (blocks_for (node_count s)))
unfolding sealed
after_first s p =
    let b : ℕ = blocks_for (node_count s) in
    let l = p.size in
    let c : List ℕ = content s 0 ++ pair (check_of 0 (content s 0)) in
    let e : sealed 0 (from (content s) 0 (suc b)) ≡ s = rw (add-one b) at (sealed-is s p.bytes (b + 1) p.size p.checks) in
    ap (drop block_bytes) (sym e) ∙ drop_at c (sealed 1 (from (content s) 1 b)) block_bytes (rw (length-append, length-take, length-drop) (omega arith))

module _ (s t : List ℕ) (p : LaidOut s) (q : LaidOut t) (alike : Alike (rule_in s) (rule_in t)) where
  tables : from (table s) 0 (node_count s) ≡ from (table t) 0 (node_count t)
  tables = records-are (words s p.bytes) p.nodes ∙ ap (nodes_of 0) alike.goal ∙ sym (records-are (words t q.bytes) q.nodes)

  nodes : node_count s ≡ node_count t
  nodes = sym (length_from (table s) 0 (node_count s)) ∙ ap length tables ∙ length_from (table t) 0 (node_count t)

  variables : variable_count s ≡ variable_count t
  variables = sym (variable-total s) ∙ alike.count ∙ variable-total t

  pub lengths : length s ≡ length t
  lengths = p.size ∙ ap (λ (n : ℕ). block_bytes * (blocks_for n + 1)) nodes ∙ sym q.size

  contents : (b : ℕ) → b < blocks_for (node_count s) → content s (b + 1) ≡ content t (b + 1)
  contents b h =
      let k : b < blocks_for (node_count t) = rw (← nodes) h in
      content-is s (b + 1) (run-nodes s p b h) (omega (arith, p.size))
      ∙ ap (λ (rs : List Record). node_content rs b) tables
      ∙ sym (content-is t (b + 1) (run-nodes t q b k) (omega (arith, q.size)))

  -- everything after block 0 is the same
  pub rest : drop block_bytes s ≡ drop block_bytes t
  rest =
      after_first s p
      ∙ ap (sealed 1) (from-same (content s) (content t) (blocks_for (node_count s)) 1 1 (λ b h. let e : b + 1 ≡ 1 + b = omega arith in rw e at (contents b h)))
      ∙ ap (λ (n : ℕ). sealed 1 (from (content t) 1 (blocks_for n))) nodes
      ∙ sym (after_first t q)

  -- the n bytes from i on are the same
  record Agree (i n : ℕ) : Type 0 where
    each : (j : ℕ) → j < n → byte_at s (i + j) ≡ byte_at t (i + j)

  reach : {i n j : ℕ} → Agree i n → i ≤ j → j < i + n → byte_at s j ≡ byte_at t j
  reach {i} {n} {j} a l h = let e : i + (j - i) ≡ j = omega arith in rw e at (a.each (j - i) (omega arith))

  join : {i n m : ℕ} → Agree i n → Agree (i + n) m → Agree i (n + m)
  join {i} {n} a b = record { each = λ j h. elim (dec_lt j n) [ yes d ↦ a.each j d | no d ↦ reach b (omega arith) (omega arith) ] }

  one : {i : ℕ} → byte_at s i ≡ byte_at t i → Agree i 1
  one {i} e = record { each = λ j h. let d : i ≡ i + j = omega arith in rw d at e }

  word : (i : ℕ) → u16_at s i ≡ u16_at t i → Agree i 2
  word i e =
      let w = word-parts (byte_at s (i + 1)) (byte_at t (i + 1)) (p.bytes i) (q.bytes i) e in
      join (one w.0) (one w.1)

  signed : (i : ℕ) → i16_at s i ≡ i16_at t i → Agree i 2
  signed i e = word i (sym (enc16-dec16 (u16-lt s p.bytes i)) ∙ ap (enc 16) e ∙ enc16-dec16 (u16-lt t q.bytes i))

  zeros : {i n : ℕ} → Zeros s i n → Zeros t i n → Agree i n
  zeros a b = record { each = λ j h. a j h ∙ sym (b j h) }

  front : Agree 0 header_bytes
  front = join (join (join (word edition_offset (p.first-edition ∙ sym q.first-edition)) (word node_count_offset nodes)) (one variables)) (zeros p.gap q.gap)

  -- in the record of variable i: the domain, the zero byte and the last two
  module _ (i : ℕ) (h : i < variable_count s) where
    abbrev place : ℕ
    place = variable_place i

    other : i < variable_count t
    other = rw (← variables) h

    domains : (variable_at s i).domain ≡ (variable_at t i).domain
    domains = sym (ap (λ (v : Variable). v.domain) (variable-is s i h)) ∙ alike.domains i ∙ ap (λ (v : Variable). v.domain) (variable-is t i other)

    domain-agrees : Agree place name_size_offset
    domain-agrees = join (signed place (ap (λ (d : Range). d.low) domains)) (signed (place + max_offset) (ap (λ (d : Range). d.high) domains))

    gap-agrees : Agree (place + zero_offset) 1
    gap-agrees = one ((p.variables i h).gap ∙ sym (q.variables i other).gap)

    end-agrees : Agree (place + name_end) (variable_bytes - name_end)
    end-agrees = zeros (ends s place (p.variables i h)) (ends t place (q.variables i other))

    in-record : {j : ℕ} → place ≤ j → j < place + variable_bytes → Nameless (variable_count s) j → byte_at s j ≡ byte_at t j
    in-record {j} l m n = by (dec_lt j (place + name_size_offset)) (dec_lt j (place + name_start))
      where
        by : Dec (j < place + name_size_offset) → Dec (j < place + name_start) → byte_at s j ≡ byte_at t j
        by (yes a) b = reach domain-agrees l a
        by (no a) (yes b) = let z = no_size n h in reach gap-agrees (omega arith) (omega arith)
        by (no a) (no b) = reach end-agrees (past-name n h (omega arith)) (omega arith)

  pub agrees : (j : ℕ) → Nameless (variable_count s) j → byte_at s j ≡ byte_at t j
  agrees j n = by (dec_lt j header_bytes) (dec_lt j (variable_place (variable_count s))) (dec_lt j content_bytes)
    where
      tail : Agree (variable_place (variable_count s)) (content_bytes - variable_place (variable_count s))
      tail = zeros p.tail (rw variables q.tail)

      far : block_bytes ≤ j → byte_at s j ≡ byte_at t j
      far h =
          let e : block_bytes + (j - block_bytes) ≡ j = omega arith in
          rw e at (sym (get_or-drop block_bytes s (j - block_bytes) 0) ∙ ap (λ (l : List ℕ). byte_at l (j - block_bytes)) rest ∙ get_or-drop block_bytes t (j - block_bytes) 0)

      by : Dec (j < header_bytes) → Dec (j < variable_place (variable_count s)) → Dec (j < content_bytes) → byte_at s j ≡ byte_at t j
      by (yes a) b c = reach front (omega arith) a
      by (no a) (yes b) c = in-record ((j - header_bytes) / variable_bytes) (omega arith) (omega arith) (omega arith) n
      by (no a) (no b) (yes c) = reach tail (omega arith) (omega arith)
      by (no a) (no b) (no c) = far (past-check n (omega arith))
