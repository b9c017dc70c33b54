-- What a sheet is written of: every part is bytes, and of a known length. Assumes nothing.
use Prim.Native.Nat.{ℕ, zero, suc, ◌+◌, ◌-◌, ◌*◌, ◌≤◌, ◌<◌}
use mathlib.Core.Path.{◌≡◌, refl}
use mathlib.Core.List.{List, [], ◌∷◌, ◌++◌}
use native.Mathlib.Omega.{arith}
use lib.Dec.{lit<}
use lib.ListN.{length, take, drop, replicate, length-append, length-replicate}
use lib.Seq.{get_or-drop}
use Rattle.lists.specs.Places.{from}
use Rattle.lists.specs.Joined.{joined}
use Rattle.numbers.specs.Two.{enc}
use Rattle.numbers.specs.Bytes.{pair, Bytes}
use Rattle.numbers.proofs.Bytes16.{enc16-lt}
use Rattle.meaning.specs.Rule.{Variable}
use Rattle.kinds.specs.declared.Record.{Record}
use Rattle.kinds.specs.declared.Shape.{Shape}
use Rattle.kinds.specs.declared.Shape.TheVariants.{Wrong, Bare, Valued, Named, One, Two, Three}
use Rattle.kinds.specs.Rows.{Known}
use Rattle.layout.specs.Limits.{block_bytes, content_bytes, variable_bytes, name_field}
use Rattle.layout.specs.Checks.{check_of, sealed}
use Rattle.layout.specs.Starts.{shape_at, operands_of, VariableBelow}
use Rattle.layout.specs.LaidOut.{unused_of, Placed}
use Rattle.layout.specs.Sheet.{record_bytes, variable_record, filled}
use Rattle.layout.specs.WellFormed.{FineVariable}
use Rattle.kinds.proofs.KindLaws.{byte_small}
use Rattle.layout.proofs.StartLaws.{Before, lower}

-- ---- bytes
bytes-none : Bytes []
bytes-none j = lit< tt

pub bytes-cons : {x : ℕ} (xs : List ℕ) → x < 256 → Bytes xs → Bytes (x ∷ xs)
bytes-cons xs h p zero = h
bytes-cons xs h p (suc j) = p j

pub bytes-append : (xs ys : List ℕ) → Bytes xs → Bytes ys → Bytes (xs ++ ys)
bytes-append [] ys p q = q
bytes-append (x ∷ xs) ys p q = bytes-cons (xs ++ ys) (p 0) (bytes-append xs ys (λ j. p (suc j)) q)

pub bytes_take : (n : ℕ) (xs : List ℕ) → Bytes xs → Bytes (take n xs)
bytes_take zero xs p = bytes-none
bytes_take (suc n) [] p = bytes-none
bytes_take (suc n) (x ∷ xs) p = bytes-cons (take n xs) (p 0) (bytes_take n xs (λ j. p (suc j)))

pub bytes_drop : (n : ℕ) (xs : List ℕ) → Bytes xs → Bytes (drop n xs)
bytes_drop n xs p j = rw (get_or-drop n xs j 0) (p (n + j))

pub bytes_pair : {x : ℕ} → x < 65536 → Bytes (pair x)
bytes_pair h zero = omega arith
bytes_pair h (suc zero) = omega arith
bytes_pair h (suc (suc j)) = lit< tt

pub bytes-zeros : (n : ℕ) → Bytes (replicate n 0)
bytes-zeros zero = bytes-none
bytes-zeros (suc n) = bytes-cons (replicate n 0) (lit< tt) (bytes-zeros n)

pub bytes-joined : {A : Type 0} (g : A → List ℕ) (f : ℕ → A) (m i : ℕ) → ((j : ℕ) → i ≤ j → j < i + m → Bytes (g (f j))) → Bytes (joined g (from f i m))
bytes-joined g f zero i h = bytes-none
bytes-joined g f (suc m) i h = bytes-append (g (f i)) (joined g (from f (suc i) m)) (h i (omega arith) (omega arith)) (bytes-joined g f m (suc i) (λ j k l. h j (omega arith) (omega arith)))

pub bytes-filled : (l : List ℕ) → Bytes l → Bytes (filled l)
bytes-filled l h = bytes-append l (replicate (content_bytes - length l) 0) h (bytes-zeros (content_bytes - length l))

check-lt : (k : ℕ) (l : List ℕ) → check_of k l < 65536
unfolding check_of
check-lt k l = omega arith

pub bytes-sealed : (c : ℕ → List ℕ) → ((j : ℕ) → Bytes (c j)) → (m k : ℕ) → Bytes (sealed k (from c k m))
unfolding sealed
bytes-sealed c h zero k = bytes-none
bytes-sealed c h (suc m) k =
    bytes-append (c k ++ pair (check_of k (c k))) (sealed (suc k) (from c (suc k) m))
    (bytes-append (c k) (pair (check_of k (c k))) (h k) (bytes_pair (check-lt k (c k))))
    (bytes-sealed c h m (suc k))

pub bytes-variable : (v : Variable) → FineVariable v → Bytes (variable_record v)
bytes-variable v f =
    let n : ℕ = length v.name in
    let z : List ℕ = replicate (name_field - n) 0 in
    let h = f.short in
    let t : Bytes (n ∷ 0 ∷ (v.name ++ z)) = bytes-cons (0 ∷ (v.name ++ z)) (omega arith) (bytes-cons (v.name ++ z) (lit< tt) (bytes-append v.name z f.bytes (bytes-zeros (name_field - n)))) in
    bytes-append (pair (enc 16 v.domain.low)) (pair (enc 16 v.domain.high) ++ (n ∷ 0 ∷ (v.name ++ z))) (bytes_pair (enc16-lt v.domain.low))
    (bytes-append (pair (enc 16 v.domain.high)) (n ∷ 0 ∷ (v.name ++ z)) (bytes_pair (enc16-lt v.domain.high)) t)

-- the fields that are no value have 16 bits where the node stands below number 65,536
narrow-fields : (h : Shape) (r : Record) (n v : ℕ) → Known h → unused_of h r + r.spare ≡ 0 → Before n (operands_of h r) → VariableBelow h r v → n ≤ 65536 → v ≤ 65536 → (r.a < 65536) × (r.b < 65536) × (r.c < 65536)
narrow-fields Wrong r n v k z b l p q = absurd k
narrow-fields Bare r n v k z b l p q = omega arith
narrow-fields Valued r n v k z b l p q = omega arith
narrow-fields Named r n v k z b l p q = omega arith
narrow-fields (One s) r n v k z b l p q = omega arith
narrow-fields (Two s t) r n v k z b l p q = omega arith
narrow-fields (Three s t u) r n v k z b l p q = omega arith

pub bytes-record : {f : ℕ → Record} {v n : ℕ} → Placed f v n → n ≤ 65536 → v ≤ 65536 → (f n).value < 65536 → Bytes (record_bytes (f n))
bytes-record {f} {v} {n} p h k w =
    let r : Record = f n in
    let m = narrow-fields (shape_at r) r n v p.known p.clear (lower p) p.listed h k in
    let t : List ℕ = pair r.value ++ replicate 6 0 in
    let c : List ℕ = pair r.c ++ t in
    let b : List ℕ = pair r.b ++ c in
    let a : List ℕ = pair r.a ++ b in
    bytes-cons (0 ∷ a) (byte_small r.kind)
    (bytes-cons a (lit< tt)
    (bytes-append (pair r.a) b (bytes_pair m.0)
    (bytes-append (pair r.b) c (bytes_pair m.1)
    (bytes-append (pair r.c) t (bytes_pair m.2)
    (bytes-append (pair r.value) (replicate 6 0) (bytes_pair w) (bytes-zeros 6))))))

-- ---- lengths
pub length-filled : (l : List ℕ) → length l ≤ content_bytes → length (filled l) ≡ content_bytes
length-filled l h = rw (length-append, length-replicate) (omega arith)

pub length-sealed : (c : ℕ → List ℕ) → ((j : ℕ) → length (c j) ≡ content_bytes) → (m k : ℕ) → length (sealed k (from c k m)) ≡ block_bytes * m
unfolding sealed
length-sealed c h zero k = refl
length-sealed c h (suc m) k =
    let p = h k in
    let q = length-sealed c h m (suc k) in
    rw (length-append (c k ++ pair (check_of k (c k))) (sealed (suc k) (from c (suc k) m)), length-append (c k) (pair (check_of k (c k)))) (omega arith)

pub length-variable : (v : Variable) → FineVariable v → length (variable_record v) ≡ variable_bytes
length-variable v f = let h = f.short in rw (length-append v.name (replicate (name_field - length v.name) 0), length-replicate) (omega arith)
