-- A sheet that is laid out right is the sheet of its rule. Assumes nothing.
use Prim.Native.Nat.{ℕ, zero, suc, ◌+◌, ◌-◌, ◌*◌, ◌≤◌, ◌<◌, min}
use mathlib.Core.Path.{◌≡◌, refl, sym, ap, ap₂, ◌∙◌}
use mathlib.Core.List.{List, [], ◌∷◌, ◌++◌}
use native.Mathlib.Nat.{add-zero, zero-add, add_assoc}
use native.Mathlib.Numerals.{add-one}
use native.Mathlib.Omega.{arith}
use lib.ListN.{length, replicate, length-take, length-drop}
use Rattle.lists.specs.Places.{from}
use Rattle.lists.specs.Joined.{joined}
use Rattle.lists.specs.Run.{Run}
use Rattle.lists.proofs.RunLaws.{run-append, run-one, run-part, shift, length_from, from-same, take-from, drop-from}
use Rattle.numbers.specs.Two.{enc}
use Rattle.numbers.specs.Bytes.{byte_at, u16_at, i16_at, pair, Bytes}
use Rattle.numbers.proofs.Bytes16.{u16-lt, enc16-dec16}
use Rattle.meaning.specs.Rule.{Variable}
use Rattle.kinds.specs.declared.Record.{Record}
use Rattle.kinds.specs.Rows.{Known}
use Rattle.layout.specs.Limits.{block_bytes, content_bytes, edition_offset, node_count_offset, variable_count_offset, header_bytes, variable_bytes, max_offset, name_size_offset, zero_offset, name_start, name_field, node_bytes, a_offset, b_offset, c_offset, value_offset, spare_start, nodes_in_block, blocks_for, variable_place, node_place}
use Rattle.layout.specs.Checks.{content, sealed}
use Rattle.layout.specs.Starts.{shape_at}
use Rattle.layout.specs.Parts.{node_count, variable_count, name_size, name_in, variable_in, variable_at, record_in, table, rule_in}
use Rattle.layout.specs.LaidOut.{Zeros, VariableLaidOut, LaidOut}
use Rattle.layout.specs.Sheet.{record_bytes, variable_record, filled, first_content, node_content, contents_of, sheet_of}
use Rattle.kinds.proofs.KindLaws.{kind-byte}
use Rattle.layout.proofs.PartLaws.{words}
use Rattle.layout.proofs.Forward.{records-are}
use Rattle.layout.proofs.SealLaws.{run-pair, content-is, sealed-is}

module _ (s : List ℕ) where
  run-zeros : (n i : ℕ) → Zeros s i n → Run (byte_at s) i (replicate n 0) (i + n)
  run-zeros zero i z = record { each = tt; end = refl }
  run-zeros (suc n) i z =
      let p : byte_at s i ≡ 0 = rw add-zero at (z 0 (omega arith)) in
      let e : i + 1 + n ≡ i + suc n = omega arith in
      rw (← e) (run-append (byte_at s) (run-one (byte_at s) p refl) (run-zeros n (i + 1) (λ j h. let q : i + 1 + j ≡ i + suc j = omega arith in rw q (z (suc j) (omega arith)))))

  -- parts one after another, each from its place to the next one's
  run-joined : {A : Type 0} (g : A → List ℕ) (f : ℕ → A) (p : ℕ → ℕ) (m i : ℕ) → ((j : ℕ) → i ≤ j → j < i + m → Run (byte_at s) (p j) (g (f j)) (p (suc j)))
      → Run (byte_at s) (p i) (joined g (from f i m)) (p (i + m))
  run-joined g f p zero i h = record { each = tt; end = add-zero (p i) ∙ ap p (sym (add-zero i)) }
  run-joined g f p (suc m) i h =
      let e : suc i + m ≡ i + suc m = omega arith in
      rw (← e) (run-append (byte_at s) (h i (omega arith) (omega arith)) (run-joined g f p m (suc i) (λ j l k. h j (omega arith) (omega arith))))

  two_bytes : {x y i : ℕ} → byte_at s i ≡ x → byte_at s (i + 1) ≡ y → Run (byte_at s) i (x ∷ y ∷ []) (i + 2)
  two_bytes {x} {y} {i} p q = record { each = (p, (rw add-one at q, tt)); end = refl }

  -- a content: what is used, and zeros behind it
  run-filled : (l : List ℕ) (i m : ℕ) → Run (byte_at s) i l (i + m) → m ≤ content_bytes → Zeros s (i + m) (content_bytes - m) → Run (byte_at s) i (filled l) (i + content_bytes)
  run-filled l i m r h z =
      let e : length l ≡ m = omega (arith, r.end) in
      rw e (run-append (byte_at s) r (shift (run-zeros (content_bytes - m) (i + m) z) refl (omega arith)))

  module _ (bytes : Bytes s) where
    pair-at : (i e : ℕ) → i + 2 ≡ e → Run (byte_at s) i (pair (u16_at s i)) e
    pair-at i e q = shift (run-pair s bytes i (u16_at s i) refl) refl q

    end-at : (i e : ℕ) → i + 2 ≡ e → Run (byte_at s) i (pair (enc 16 (i16_at s i))) e
    end-at i e q = rw (enc16-dec16 (u16-lt s bytes i)) (pair-at i e q)

    run-record : (i : ℕ) → Known (shape_at (record_in s i)) → (record_in s i).spare ≡ 0 → Run (byte_at s) i (record_bytes (record_in s i)) (i + node_bytes)
    run-record i k z =
        let add : (n : ℕ) → byte_at s (i + n + 1) ≡ byte_at s (i + (n + 1)) = λ n. ap (byte_at s) (add_assoc i n 1) in
        let zeros : (n : ℕ) → byte_at s (i + n) ≡ 0 → byte_at s (i + (n + 1)) ≡ 0 → Run (byte_at s) (i + n) (0 ∷ 0 ∷ []) (i + (n + 2)) = λ n p q. shift (two_bytes p (add n ∙ q)) refl (add_assoc i n 2) in
        run-append (byte_at s) (two_bytes (sym (kind-byte (byte_at s i) k)) (omega arith))
        (run-append (byte_at s) (pair-at (i + a_offset) (i + b_offset) (omega arith))
        (run-append (byte_at s) (pair-at (i + b_offset) (i + c_offset) (omega arith))
        (run-append (byte_at s) (pair-at (i + c_offset) (i + value_offset) (omega arith))
        (run-append (byte_at s) (pair-at (i + value_offset) (i + spare_start) (omega arith))
        (run-append (byte_at s) (zeros spare_start (omega arith) (omega arith))
        (run-append (byte_at s) (zeros (spare_start + 2) (omega arith) (omega arith))
        (zeros (spare_start + 4) (omega arith) (omega arith))))))))

    run-variable : (i : ℕ) → VariableLaidOut s i → i + variable_bytes ≤ length s → Run (byte_at s) i (variable_record (variable_in s i)) (i + variable_bytes)
    run-variable i v l =
        let n : ℕ = name_size s i in
        let h = v.short in
        let e : length (name_in s i) ≡ n = rw (length-take, length-drop) (omega arith) in
        let g : i + name_size_offset + 1 ≡ i + zero_offset = omega arith in
        let p : Run (byte_at s) (i + name_size_offset) (n ∷ 0 ∷ []) (i + name_start) = shift (two_bytes refl (ap (byte_at s) g ∙ v.gap)) refl (omega arith) in
        let q : Run (byte_at s) (i + name_start) (name_in s i) (i + name_start + n) = run-part s 0 (i + name_start) n (omega arith) in
        let r : Run (byte_at s) (i + name_start + n) (replicate (name_field - n) 0) (i + variable_bytes) = shift (run-zeros (name_field - n) (i + name_start + n) v.rest) refl (omega arith) in
        rw e
        (run-append (byte_at s) (end-at i (i + max_offset) refl)
        (run-append (byte_at s) (end-at (i + max_offset) (i + name_size_offset) (omega arith))
        (run-append (byte_at s) p (run-append (byte_at s) q r))))

module _ (s : List ℕ) (r : LaidOut s) where
  run-first : Run (byte_at s) 0 (first_content (node_count s) (rule_in s).variables) content_bytes
  run-first =
      let v : ℕ = variable_count s in
      let g = r.gap in
      let few = r.few in
      let size = r.size in
      let vs : List Variable = (rule_in s).variables in
      let o : Run (byte_at s) variable_count_offset (v ∷ 0 ∷ 0 ∷ 0 ∷ []) header_bytes = record { each = (refl, (g 0 (omega arith), (g 1 (omega arith), (g 2 (omega arith), tt)))); end = refl } in
      let each : (j : ℕ) → 0 ≤ j → j < 0 + v → Run (byte_at s) (variable_place j) (variable_record (variable_at s j)) (variable_place (suc j)) = λ j l h. shift (run-variable s r.bytes (variable_place j) (r.variables j (omega arith)) (omega arith)) refl (omega arith) in
      let all : Run (byte_at s) header_bytes (joined variable_record vs) (variable_place v) = shift (run-joined s variable_record (variable_at s) variable_place v 0 each) refl (omega arith) in
      run-filled s (pair 1 ++ (pair (node_count s) ++ ((length vs ∷ 0 ∷ 0 ∷ 0 ∷ []) ++ joined variable_record vs))) 0 (variable_place v)
      (rw (length_from, zero-add) (run-append (byte_at s) (run-pair s r.bytes edition_offset 1 r.first-edition) (run-append (byte_at s) (run-pair s r.bytes node_count_offset (node_count s) refl) (run-append (byte_at s) o all))))
      (omega arith)
      (rw zero-add r.tail)

  pub run-nodes : (b : ℕ) → b < blocks_for (node_count s) → Run (byte_at s) (block_bytes * (b + 1)) (node_content (from (table s) 0 (node_count s)) b) (block_bytes * (b + 1) + content_bytes)
  run-nodes b h =
      let i : ℕ = nodes_in_block * b in
      let m : ℕ = min nodes_in_block (node_count s - i) in
      let p : ℕ → ℕ = λ n. block_bytes * (b + 1) + node_bytes * (n - i) in
      let each : (j : ℕ) → i ≤ j → j < i + m → Run (byte_at s) (p j) (record_bytes (table s j)) (p (suc j)) = λ j l k. let w = r.nodes.placed j (omega arith) in shift (run-record s r.bytes (node_place j) w.known (omega (arith, w.clear))) (omega arith) (omega arith) in
      let all : Run (byte_at s) (block_bytes * (b + 1)) (joined record_bytes (from (table s) i m)) (block_bytes * (b + 1) + node_bytes * m) = shift (run-joined s record_bytes (table s) p m i each) (omega arith) (omega arith) in
      rw (drop-from, take-from, zero-add) (run-filled s (joined record_bytes (from (table s) i m)) (block_bytes * (b + 1)) (node_bytes * m) all (omega arith) (r.tails b h))

  contents-are : contents_of (rule_in s) ≡ from (content s) 0 (blocks_for (node_count s) + 1)
  contents-are =
      let n : ℕ = node_count s in
      let B : ℕ = blocks_for n in
      let vs : List Variable = (rule_in s).variables in
      let size = r.size in
      ap (λ (rs : List Record). first_content (length rs) vs ∷ from (node_content rs) 0 (blocks_for (length rs))) (sym (records-are (words s r.bytes) r.nodes))
      ∙ ap (λ (k : ℕ). first_content k vs ∷ from (node_content (from (table s) 0 n)) 0 (blocks_for k)) (length_from (table s) 0 n)
      ∙ ap₂ ◌∷◌ (sym (content-is s 0 run-first (omega arith)))
      (from-same (node_content (from (table s) 0 n)) (content s) B 0 1 (λ b h. let e : b + 1 ≡ 1 + b = omega arith in rw (zero-add, ← e) (sym (content-is s (b + 1) (run-nodes b h) (omega arith)))))
      ∙ ap (from (content s) 0) (sym (add-one B))

  pub sheet-is : sheet_of (rule_in s) ≡ s
  unfolding sheet_of
  sheet-is = ap (sealed 0) contents-are ∙ sealed-is s r.bytes (blocks_for (node_count s) + 1) r.size r.checks

-- a rule has one sheet
pub one-sheet : (s t : List ℕ) → LaidOut s → LaidOut t → rule_in s ≡ rule_in t → s ≡ t
one-sheet s t p q e = sym (sheet-is s p) ∙ ap sheet_of e ∙ sheet-is t q
