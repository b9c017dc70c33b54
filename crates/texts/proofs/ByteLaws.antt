-- Names and numbers hold no separator, and what begins one is told by the tests. Assumes nothing.
use Prim.Native.Nat.{ℕ, ◌+◌, ◌*◌, ◌-◌, ◌≤◌, ◌<◌}
use mathlib.Core.Path.{◌≡◌, refl, ap, ◌∙◌}
use mathlib.Core.Logic.{⊎_elim}
use mathlib.Core.Bool.{Bool, true, false, not, ◌&&◌, ◌||◌, false≢true}
use mathlib.Core.Option.{Option, none, some}
use mathlib.Core.List.{List, [], ◌∷◌, ◌++◌, append-nil}
use native.Mathlib.Omega.{arith}
use lib.Dec.{eqb, leb}
use lib.ListN.{length, length-append}
use borrow.Author.Tests.{ne_eqb, eqb-true, leb-true, le-leb}
use Rattle.lists.specs.Ascii.{ascii}
use Rattle.lists.specs.Names.{same_bytes}
use Rattle.lists.proofs.TestLaws.{both, and}
use Rattle.lists.proofs.NameLaws.{same-decided}
use Rattle.lists.proofs.Decided.{Decides, decides-as, decides_and, decides-le}
use Rattle.layout.specs.Limits.{most_name_bytes}
use Rattle.records.specs.Variables.{is_letter, is_name_byte, all_name_bytes, name_right}
use Rattle.records.proofs.NameLaws.{letter-decided, name-byte-decided}
use Rattle.grammar.specs.Words.{Without}
use Rattle.grammar.proofs.PatternLaws.{left-true, right-true, or-true}
use Rattle.texts.specs.Numbers.{is_digit, all_digits, value_from, spare_zero, is_decimal, zero_first, is_number}
use Rattle.texts.specs.WordKinds.{behind_word, is_none}
use Rattle.texts.specs.Places.{separates, is_plain_name, begins_number, begins_name}
use Rattle.texts.proofs.NumberLaws.{value_grows}

-- ---- separators

above : {c : ℕ} → 32 < c → separates c ≡ false
unfolding separates
above {c} h = rw (ne_eqb c 32 (λ e. omega arith), ne_eqb c 10 (λ e. omega arith))

digit_low : (c : ℕ) → is_digit c ≡ true → 32 < c
unfolding is_digit
digit_low c e = let l = leb-true 48 c (both (leb 48 c) (leb c 57) e).0 in omega arith

letter-low : (c : ℕ) → is_letter c ≡ true → 32 < c
letter-low c e = ⊎_elim (λ h. let l = h.0 in omega arith) (λ h. let l = h.0 in omega arith) ((letter-decided c).0 e)

name-byte-low : (c : ℕ) → is_name_byte c ≡ true → 32 < c
name-byte-low c e =
    ⊎_elim
    (⊎_elim (λ h. letter-low c ((letter-decided c).1 h)) (λ h. let l = h.0 in omega arith))
    (λ h. omega arith)
    ((name-byte-decided c).0 e)

bytes-without : (s : List ℕ) → all_name_bytes s ≡ true → Without separates s
unfolding all_name_bytes
bytes-without [] e = tt
bytes-without (c ∷ s) e = let w = both (is_name_byte c) (all_name_bytes s) e in (above (name-byte-low c w.0), bytes-without s w.1)

pub name-without : (w : List ℕ) → name_right w ≡ true → Without separates w
unfolding name_right
name-without [] e = tt
name-without (c ∷ s) e = let w = both (is_letter c) (all_name_bytes s) e in (above (letter-low c w.0), bytes-without s w.1)

digits-without : (s : List ℕ) → all_digits s ≡ true → Without separates s
unfolding all_digits
digits-without [] e = tt
digits-without (c ∷ s) e = let w = both (is_digit c) (all_digits s) e in (above (digit_low c w.0), digits-without s w.1)

decimal-without : (most : ℕ) (w : List ℕ) → is_decimal most w ≡ true → Without separates w
unfolding is_decimal
decimal-without most [] e = tt
decimal-without most (c ∷ s) e = digits-without (c ∷ s) (both (all_digits (c ∷ s)) (not (spare_zero (c ∷ s)) && leb (value_from 0 (c ∷ s)) most) e).0

pub number-without : (w : List ℕ) → is_number w ≡ true → Without separates w
unfolding is_number
number-without [] e = tt
number-without (c ∷ s) e = go (eqb c 45) refl e
  where
    go : (b : Bool) → eqb c 45 ≡ b → elim b [ true ↦ not (zero_first s) && is_decimal 32768 s | false ↦ is_decimal 32767 (c ∷ s) ] ≡ true → Without separates (c ∷ s)
    go true h k = (above (let q = eqb-true c 45 h in omega arith), decimal-without 32768 s (both (not (zero_first s)) (is_decimal 32768 s) k).1)
    go false h k = decimal-without 32767 (c ∷ s) k

-- ---- names

none-decided : (o : Option ℕ) → Decides (is_none o) (o ≡ none)
none-decided none = (λ e. refl, λ e. refl)
none-decided (some n) = (λ e. absurd (false≢true e), λ e. absurd (let z : ◌≡◌ {A = ℕ} 0 1 = cc in omega arith))

pub plain-name-decided : (w : List ℕ) → Decides (is_plain_name w) ((name_right w ≡ true) × (length w ≤ most_name_bytes) × (behind_word w ≡ none))
unfolding is_plain_name
plain-name-decided w =
    decides-as (decides_and (decides_and (λ e. e, λ e. e) (decides-le (length w) most_name_bytes)) (none-decided (behind_word w)))
    (λ k. (k.0.0, k.0.1, k.1)) (λ k. ((k.0, k.1), k.2))

bytes-front : (u w : List ℕ) → all_name_bytes (u ++ w) ≡ true → all_name_bytes u ≡ true
unfolding all_name_bytes
bytes-front [] w e = refl
bytes-front (c ∷ u) w e = let k = both (is_name_byte c) (all_name_bytes (u ++ w)) e in and k.0 (bytes-front u w k.1)

pub name-begun : (u w : List ℕ) → is_plain_name (u ++ w) ≡ true → begins_name u ≡ true
unfolding name_right begins_name
name-begun [] w e = refl
name-begun (c ∷ u) w e =
    let k = (plain-name-decided (c ∷ (u ++ w))).0 e in
    let l = both (is_letter c) (all_name_bytes (u ++ w)) k.0 in
    let m = k.1 in
    and (and l.0 (bytes-front u w l.1)) (le-leb (length (c ∷ u)) most_name_bytes (omega (arith, length-append u w)))

-- ---- numbers

digits-front : (u w : List ℕ) → all_digits (u ++ w) ≡ true → all_digits u ≡ true
unfolding all_digits
digits-front [] w e = refl
digits-front (c ∷ u) w e = let k = both (is_digit c) (all_digits (u ++ w)) e in and k.0 (digits-front u w k.1)

value-front : (u w : List ℕ) (n : ℕ) → value_from n u ≤ value_from n (u ++ w)
value-front [] w n = value_grows w n
value-front (c ∷ u) w n = value-front u w (10 * n + (c - 48))

spare-front : (c : ℕ) (u w : List ℕ) → not (spare_zero (c ∷ (u ++ w))) ≡ true → not (spare_zero (c ∷ u)) ≡ true
spare-front c [] w e = refl
spare-front c (d ∷ u) w e = e

decimal-front : (most c : ℕ) (u w : List ℕ) → is_decimal most (c ∷ (u ++ w)) ≡ true → is_decimal most (c ∷ u) ≡ true
unfolding is_decimal
decimal-front most c u w e =
    let k = both (all_digits (c ∷ (u ++ w))) (not (spare_zero (c ∷ (u ++ w))) && leb (value_from 0 (c ∷ (u ++ w))) most) e in
    let l = both (not (spare_zero (c ∷ (u ++ w)))) (leb (value_from 0 (c ∷ (u ++ w))) most) k.1 in
    let m = leb-true (value_from 0 (c ∷ (u ++ w))) most l.1 in
    let n = value-front (c ∷ u) w 0 in
    and (digits-front (c ∷ u) w k.0) (and (spare-front c u w l.0) (le-leb (value_from 0 (c ∷ u)) most (omega arith)))

pub number-begun : (u w : List ℕ) → is_number (u ++ w) ≡ true → begins_number u ≡ true
unfolding is_number begins_number same_bytes
number-begun [] w e = refl
number-begun (c ∷ []) w e = go (eqb c 45) refl e
  where
    go : (b : Bool) → eqb c 45 ≡ b → elim b [ true ↦ not (zero_first w) && is_decimal 32768 w | false ↦ is_decimal 32767 (c ∷ w) ] ≡ true →
        elim b [ true ↦ not (zero_first []) && is_decimal 32768 [] | false ↦ is_decimal 32767 (c ∷ []) ] || (b && true) ≡ true
    go true h k = right-true (not (zero_first []) && is_decimal 32768 []) true refl
    go false h k = left-true (is_decimal 32767 (c ∷ [])) false (decimal-front 32767 c [] w k)
number-begun (c ∷ d ∷ u) w e = left-true (is_number (c ∷ d ∷ u)) (same_bytes (c ∷ d ∷ u) (ascii "-")) (go (eqb c 45) e)
  where
    go : (b : Bool) → elim b [ true ↦ not (zero_first (d ∷ (u ++ w))) && is_decimal 32768 (d ∷ (u ++ w)) | false ↦ is_decimal 32767 (c ∷ d ∷ (u ++ w)) ] ≡ true →
        elim b [ true ↦ not (zero_first (d ∷ u)) && is_decimal 32768 (d ∷ u) | false ↦ is_decimal 32767 (c ∷ d ∷ u) ] ≡ true
    go true k = let m = both (not (zero_first (d ∷ (u ++ w)))) (is_decimal 32768 (d ∷ (u ++ w))) k in and m.0 (decimal-front 32768 d u w m.1)
    go false k = decimal-front 32767 c (d ∷ u) w k

-- and the other way round
pub zero_number : is_number (ascii "0") ≡ true
unfolding is_number is_decimal all_digits is_digit
zero_number = refl

minus_one : is_number (ascii "-1") ≡ true
unfolding is_number is_decimal all_digits is_digit
minus_one = refl

pub number-extends : (u : List ℕ) → begins_number u ≡ true → (w : List ℕ) × (is_number (u ++ w) ≡ true)
unfolding begins_number
number-extends [] e = (ascii "0", zero_number)
number-extends (c ∷ s) e =
    ⊎_elim
    (λ h. ([], ap is_number (append-nil (c ∷ s)) ∙ h))
    (λ h. (ascii "1", ap (λ (l : List ℕ). is_number (l ++ ascii "1")) ((same-decided (c ∷ s) (ascii "-")).0 h) ∙ minus_one))
    (or-true (is_number (c ∷ s)) (same_bytes (c ∷ s) (ascii "-")) e)
