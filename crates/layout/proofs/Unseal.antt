-- What was written stands where it is read: the parts of runs of bytes, and what they give back. Assumes nothing.
use Prim.Native.Nat.{ℕ, zero, suc, ◌+◌, ◌-◌, ◌*◌, ◌≤◌, ◌<◌}
use mathlib.Core.Path.{◌≡◌, refl, sym, ap, subst, ◌∙◌}
use mathlib.Core.Logic.{⊎_elim}
use mathlib.Core.List.{List, [], ◌∷◌, ◌++◌}
use native.Mathlib.Nat.{add_assoc, eq-or-lt_of_le}
use native.Mathlib.Omega.{arith}
use lib.Dec.{lit<}
use lib.ListN.{length, get_or, replicate, length-append, length-replicate, get_or-replicate}
use Rattle.lists.specs.Places.{from}
use Rattle.lists.specs.Joined.{joined}
use Rattle.lists.specs.Run.{Run}
use Rattle.lists.proofs.RunLaws.{run-split, part-is, stands_at, shift}
use Rattle.numbers.specs.Two.{enc, dec}
use Rattle.numbers.specs.Bytes.{byte_at, u16_at, pair}
use Rattle.numbers.specs.Ranges.{◌⋯◌}
use Rattle.numbers.proofs.Bytes16.{u16-of, u16-of-stands, dec16-enc16}
use Rattle.meaning.specs.Rule.{Variable}
use Rattle.kinds.specs.declared.Record.{Record}
use Rattle.kinds.specs.Kinds.{kind_of}
use Rattle.kinds.specs.Rows.{Known}
use Rattle.layout.specs.Limits.{block_bytes, content_bytes, name_size_offset, zero_offset, name_start, name_field, node_bytes, a_offset, b_offset, c_offset, value_offset}
use Rattle.layout.specs.Checks.{check_of, stored_check, sealed}
use Rattle.layout.specs.Starts.{shape_at}
use Rattle.layout.specs.Parts.{name_size, name_in, variable_in, record_in}
use Rattle.layout.specs.LaidOut.{Zeros, VariableLaidOut}
use Rattle.layout.specs.Sheet.{record_bytes, variable_record, filled}
use Rattle.layout.specs.WellFormed.{FineVariable}
use Rattle.kinds.proofs.KindLaws.{byte-names}

module _ (s : List ℕ) where
  pub pair_of : {i x e : ℕ} → Run (byte_at s) i (pair x) e → u16_at s i ≡ x
  pair_of {i} {x} r = u16-of-stands s i x r.each

  zeros_of : (n i : ℕ) {e : ℕ} → Run (byte_at s) i (replicate n 0) e → Zeros s i n
  zeros_of n i r j h = stands_at (byte_at s) (replicate n 0) i r.each 0 j (rw length-replicate h) ∙ get_or-replicate n j 0 0 h

  pub filled_of : (l : List ℕ) (i : ℕ) {e : ℕ} → Run (byte_at s) i (filled l) e → Run (byte_at s) i l (i + length l) × Zeros s (i + length l) (content_bytes - length l)
  filled_of l i r =
      let w = run-split (byte_at s) {xs = l} {ys = replicate (content_bytes - length l) 0} r in
      (w.0, zeros_of (content_bytes - length l) (i + length l) w.1)

  -- each of several parts one after another, from its place to the next one's
  pub split-joined : {A : Type 0} (g : A → List ℕ) (f : ℕ → A) (p : ℕ → ℕ) (m i : ℕ) {e : ℕ} → ((j : ℕ) → i ≤ j → j < i + m → p j + length (g (f j)) ≡ p (suc j)) → Run (byte_at s) (p i) (joined g (from f i m)) e
      → (j : ℕ) → i ≤ j → j < i + m → Run (byte_at s) (p j) (g (f j)) (p (suc j))
  split-joined g f p zero i w r j l h = absurd (omega arith)
  split-joined g f p (suc m) i w r j l h =
      let t = run-split (byte_at s) {xs = g (f i)} {ys = joined g (from f (suc i) m)} r in
      let e = w i (omega arith) (omega arith) in
      ⊎_elim
      (λ q. subst (λ (k : ℕ). Run (byte_at s) (p k) (g (f k)) (p (suc k))) q (shift t.0 refl e))
      (λ q. split-joined g f p m (suc i) (λ k a b. w k (omega arith) (omega arith)) (shift t.1 e refl) j q (omega arith))
      (eq-or-lt_of_le l)

  -- block j holds its content and its check
  pub record Block (j : ℕ) (c : List ℕ) : Type 0 where
    pub holds : Run (byte_at s) (block_bytes * j) c (block_bytes * j + content_bytes)
    pub check : stored_check s j ≡ check_of j c

  pub split-sealed : (c : ℕ → List ℕ) → ((j : ℕ) → length (c j) ≡ content_bytes) → (m k : ℕ) {e : ℕ} → Run (byte_at s) (block_bytes * k) (sealed k (from c k m)) e → (j : ℕ) → k ≤ j → j < k + m → Block j (c j)
  unfolding sealed
  split-sealed c w zero k r j l h = absurd (omega arith)
  split-sealed c w (suc m) k r j l h =
      let b = pair (check_of k (c k)) in
      let t = run-split (byte_at s) {xs = c k ++ b} {ys = sealed (suc k) (from c (suc k) m)} r in
      let o = run-split (byte_at s) {xs = c k} {ys = b} t.0 in
      let e = w k in
      let d : block_bytes * k + length (c k ++ b) ≡ block_bytes * suc k = rw length-append (omega arith) in
      let i : block_bytes * k + length (c k) ≡ block_bytes * k + content_bytes = omega arith in
      ⊎_elim
      (λ q. subst (λ (n : ℕ). Block n (c n)) q (record { holds = shift o.0 refl i; check = pair_of (shift o.1 i refl) }))
      (λ q. split-sealed c w m (suc k) (shift t.1 d refl) j q (omega arith))
      (eq-or-lt_of_le l)

  pub record_of : (r : Record) (i : ℕ) {e : ℕ} → Known (shape_at r) → r.spare ≡ 0 → Run (byte_at s) i (record_bytes r) e → record_in s i ≡ r
  record_of r i k z run =
      let has : (j : ℕ) → j < node_bytes → byte_at s (i + j) ≡ get_or (record_bytes r) j 0 = λ j h. stands_at (byte_at s) (record_bytes r) i run.each 0 j h in
      let add : (n : ℕ) → byte_at s (i + n + 1) ≡ byte_at s (i + (n + 1)) = λ n. ap (byte_at s) (add_assoc i n 1) in
      let p₁ = has 1 (lit< tt) in
      let p₂ = has 10 (lit< tt) in
      let p₃ = has 11 (lit< tt) in
      let p₄ = has 12 (lit< tt) in
      let p₅ = has 13 (lit< tt) in
      let p₆ = has 14 (lit< tt) in
      let p₇ = has 15 (lit< tt) in
      let spare : (record_in s i).spare ≡ 0 = omega arith in
      let kind = ap kind_of run.each.0 ∙ byte-names r.kind in
      let a = u16-of s (i + a_offset) r.a (has 2 (lit< tt)) (add 2 ∙ has 3 (lit< tt)) in
      let b = u16-of s (i + b_offset) r.b (has 4 (lit< tt)) (add 4 ∙ has 5 (lit< tt)) in
      let c = u16-of s (i + c_offset) r.c (has 6 (lit< tt)) (add 6 ∙ has 7 (lit< tt)) in
      let x = u16-of s (i + value_offset) r.value (has 8 (lit< tt)) (add 8 ∙ has 9 (lit< tt)) in
      let y = spare ∙ sym z in
      λ d. record { kind = kind d; a = a d; b = b d; c = c d; value = x d; spare = y d }

  pub variable-of : (v : Variable) (i : ℕ) {e : ℕ} → FineVariable v → e ≤ length s → Run (byte_at s) i (variable_record v) e → VariableLaidOut s i × (variable_in s i ≡ v)
  variable-of v i {e} f l run =
      let n : ℕ = length v.name in
      let short = f.short in
      let z : List ℕ = replicate (name_field - n) 0 in
      let low : List ℕ = pair (enc 16 v.domain.low) in
      let high : List ℕ = pair (enc 16 v.domain.high) in
      let p = run-split (byte_at s) {xs = low} {ys = high ++ ((n ∷ 0 ∷ []) ++ (v.name ++ z))} run in
      let q = run-split (byte_at s) {xs = high} {ys = (n ∷ 0 ∷ []) ++ (v.name ++ z)} p.1 in
      let o = run-split (byte_at s) {xs = n ∷ 0 ∷ []} {ys = v.name ++ z} q.1 in
      let t = run-split (byte_at s) {xs = v.name} {ys = z} o.1 in
      let head : Run (byte_at s) (i + name_size_offset) (n ∷ 0 ∷ []) (i + name_start) = shift o.0 (omega arith) (omega arith) in
      let name : Run (byte_at s) (i + name_start) v.name (i + name_start + n) = shift t.0 (omega arith) (omega arith) in
      let rest : Run (byte_at s) (i + name_start + n) z e = shift t.1 (omega arith) refl in
      let en : name_size s i ≡ n = head.each.0 in
      let next : i + zero_offset ≡ suc (i + name_size_offset) = omega arith in
      let a = ap (dec 16) (pair_of p.0) ∙ dec16-enc16 f.ends.low in
      let b = ap (dec 16) (pair_of q.0) ∙ dec16-enc16 f.ends.high in
      let c : name_in s i ≡ v.name = rw en (part-is s 0 name (omega (arith, rest.end))) in (
        record { short = rw en short; gap = ap (byte_at s) next ∙ head.each.1.0; rest = rw en (zeros_of (name_field - n) (i + name_start + n) rest) },
        λ d. record { name = c d; domain = a d ⋯ b d },
      )
