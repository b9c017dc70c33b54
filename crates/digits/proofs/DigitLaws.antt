-- In a reply that spells a setting, behind the hash of a variable's number stand its base and its digits, and their number is the variable's. Assumes nothing.
use Prim.Native.Nat.{ℕ, zero, suc, ◌+◌, ◌-◌, ◌*◌, ◌<◌, ◌≤◌}
use mathlib.Core.Path.{◌≡◌, refl, sym, ap, subst, ◌∙◌}
use mathlib.Core.List.{List, [], ◌∷◌, map}
use native.Mathlib.Nat.{zero-add, add-suc, suc-add, mul-one, mul-le-mul, le_refl}
use native.Mathlib.Numerals.{add-one}
use native.Mathlib.Omega.{arith}
use native.Mathlib.Decide.{dec_lt}
use lib.Dec.{eqb}
use lib.IntN.{ℤ}
use lib.ListN.{length, get_or, take, drop, length-drop, drop_of_length-le, get_or-map}
use lib.Seq.{drop-cons}
use borrow.Author.Tests.{eqb-true, ltb-true}
use Rattle.numbers.specs.Bytes.{word_limit}
use Rattle.numbers.specs.Two.{dec}
use Rattle.meaning.specs.Rule.{value_in}
use Rattle.smtlib.specs.Tokens.{digit_value}
use Rattle.smtlib.specs.Terms.{number_from, number_of}
use Rattle.grammar.specs.Patterns.{Pattern, anything, one, Fits}
use Rattle.replies.specs.Replies.{value_bits}
use Rattle.replies.specs.Says.{Numeral, hexadecimal, binary, number_in, Sixteen, AllSixteen, digits, Spells, SpellsSetting, SpellsCase}
use Rattle.replies.proofs.NumberLaws.{Small, setting-small, setting-length}
use Rattle.replies.proofs.HashLaws.{behind_hash, Hashes, no_more, other, hash, spells-hashes}
use Rattle.digits.specs.Hashes.{place_behind, size_at, number_at}
use Rattle.digits.specs.Ready.{Based}
use Rattle.digits.proofs.HashScan.{pass, stop-here, next-hash}

-- ---- behind a hash

record Found (ns : List Numeral) (i : ℕ) (s : List ℕ) (d : Numeral) : Type 0 where
  place : ℕ
  place_is : (k : ℕ) → place_behind i k s ≡ k + place
  behind : Fits (behind_hash (get_or ns i d)) (drop place s)

find : {ns : List Numeral} {s : List ℕ} → Hashes ns s → (i : ℕ) (d : Numeral) → i < length ns → Found ns i s d
find no_more i d l = absurd (omega arith)
find (other {ns} {s} c n h) i d l =
    let w = find h i d l in
    record { place = suc w.place; place_is = λ k. pass i k c s n ∙ w.place_is (suc k) ∙ suc-add k w.place ∙ sym (add-suc k w.place); behind = w.behind }
find (hash {ns} {s} n f h) zero d l = record { place = 1; place_is = λ k. stop-here k 35 s refl ∙ (let e : suc k ≡ k + 1 = omega arith in e); behind = f }
find (hash {ns} {s} n f h) (suc i) d l =
    let w = find h i d (omega arith) in
    record { place = suc w.place; place_is = λ k. next-hash i k 35 s refl ∙ w.place_is (suc k) ∙ suc-add k w.place ∙ sym (add-suc k w.place); behind = w.behind }

-- behind hash number i stand the base and the digits of number i
behind-hash : (ns : List Numeral) (s : List ℕ) (i : ℕ) (d : Numeral) → AllSixteen ns → Spells ns s → i < length ns → Fits (behind_hash (get_or ns i d)) (drop (place_behind i 0 s) s)
behind-hash ns s i d a f l =
    let w = find (spells-hashes ns s a f) i d l in
    let e : w.place ≡ place_behind i 0 s = sym (w.place_is 0 ∙ zero-add w.place) in
    subst (λ (k : ℕ). Fits (behind_hash (get_or ns i d)) (drop k s)) e w.behind

-- ---- at a base

record BaseAt (d : ℕ) (q : Pattern) (s : List ℕ) (p : ℕ) : Type 0 where
  inside : p < length s
  is : get_or s p 0 ≡ d
  rest : Fits q (drop (suc p) s)

base-at : (d : ℕ) (q : Pattern) (s : List ℕ) (p : ℕ) → Fits (one (eqb d) q) (drop p s) → BaseAt d q s p
unfolding Fits
base-at d q s p f = elim (dec_lt p (length s)) [ yes l ↦ go l | no n ↦ absurd (let e = sym (drop_of_length-le s {i = p} (omega arith)) ∙ f.split in let z : ◌≡◌ {A = ℕ} 0 1 = cc in omega arith) ]
  where
    go : p < length s → BaseAt d q s p
    go l =
        let e : get_or s p 0 ∷ drop (suc p) s ≡ f.byte ∷ f.rest = sym (drop-cons s p 0 l) ∙ f.split in
        let a : get_or s p 0 ≡ f.byte = cc in
        let b : f.rest ≡ drop (suc p) s = cc in
        record { inside = l; is = a ∙ sym (eqb-true d f.byte f.fits); rest = subst (Fits q) b f.then }

digits_long : (ds t : List ℕ) → Fits (digits ds anything) t → length ds ≤ length t
unfolding Fits
digits_long [] t f = omega arith
digits_long (d ∷ ds) t f = let h = digits_long ds f.rest f.then in let e = ap length f.split in omega arith

digits-values : (ds t : List ℕ) → Fits (digits ds anything) t → map digit_value (take (length ds) t) ≡ ds
unfolding Fits
digits-values [] t f = refl
digits-values (d ∷ ds) t f =
    let h = digits-values ds f.rest f.then in
    ap (λ (l : List ℕ). map digit_value (take (suc (length ds)) l)) f.split ∙ (λ i. eqb-true (digit_value f.byte) d f.fits i ∷ h i)

-- ---- further digits make a number no smaller

pub number-grows : (base n : ℕ) (ds : List ℕ) → 1 ≤ base → n ≤ number_from base n ds
number-grows base n [] h = omega arith
number-grows base n (d ∷ ds) h =
    let b : n * 1 ≤ n * base = mul-le-mul (le_refl n) h in
    omega (arith, mul-one n, number-grows base (n * base + d) ds h)

-- ---- the number at a base

record DigitsAt (s : List ℕ) (p : ℕ) (n : Numeral) : Type 0 where
  inside : p < length s
  behind : p + 1 + size_at s p ≤ length s
  number : number_at s p ≡ number_in n

module _ {s : List ℕ} {p letter : ℕ} (ds : List ℕ) (b : BaseAt letter (digits ds anything) s p) {size : ℕ} (long : length ds ≡ size) where
  size_fits : p + 1 + size ≤ length s
  size_fits =
      let l = digits_long ds (drop (suc p) s) b.rest in
      let m : length (drop (suc p) s) ≡ length s - suc p = simp length-drop in
      let o = b.inside in
      omega arith

  number_is : (base : ℕ) → number_of base (map digit_value (take size (drop (p + 1) s))) ≡ number_of base ds
  number_is base = rw (add-one, ← long, digits-values ds (drop (suc p) s) b.rest)

digits-at : (s : List ℕ) (p : ℕ) (n : Numeral) → Sixteen n → Fits (behind_hash n) (drop p s) → DigitsAt s p n
digits-at s p (hexadecimal ds) r f =
    let b = base-at 120 (digits ds anything) s p f in
    record { inside = b.inside; behind = rw b.is (size_fits ds b r.0); number = rw b.is (number_is ds b r.0 16) }
digits-at s p (binary ds) r f =
    let b = base-at 98 (digits ds anything) s p f in
    record { inside = b.inside; behind = rw b.is (size_fits ds b r.0); number = rw b.is (number_is ds b r.0 2) }

sixteen-at : (ns : List Numeral) (i : ℕ) → AllSixteen ns → i < length ns → Sixteen (get_or ns i (hexadecimal []))
sixteen-at [] i a l = absurd (omega arith)
sixteen-at (n ∷ ns) zero a l = a.0
sixteen-at (n ∷ ns) (suc i) a l = sixteen-at ns i a.1 (omega arith)

-- each number of a setting has 16 bits
small_at : (t : List ℕ) (i : ℕ) → Small t → i < length t → get_or t i 0 < word_limit
small_at [] i h l = absurd (omega arith)
small_at (n ∷ t) zero h l = ltb-true n word_limit h.0
small_at (n ∷ t) (suc i) h l = small_at t i h.1 (omega arith)

-- ---- in a reply that spells a setting

module _ {v : ℕ} {s t : List ℕ} (x : SpellsSetting v s t) (i : ℕ) (l : i < v) where
  numeral : Numeral
  numeral = get_or x.numerals i (hexadecimal [])

  of-sixteen : Sixteen numeral
  unfolding numeral
  of-sixteen = sixteen-at x.numerals i x.sixteen (let e = x.each in omega arith)

  there : DigitsAt s (place_behind i 0 s) numeral
  unfolding numeral
  there =
      let e = x.each in
      digits-at s (place_behind i 0 s) numeral of-sixteen (behind-hash x.numerals s i (hexadecimal []) x.sixteen x.spelled (omega arith))

  -- behind hash number i stands the number of variable i
  setting-number : number_at s (place_behind i 0 s) ≡ get_or t i 0
  unfolding numeral
  setting-number = there.number ∙ sym (get_or-map number_in x.numerals i (hexadecimal [])) ∙ ap (λ (l : List ℕ). get_or l i 0) x.numbers

  -- of 16 bits, and its digits lie inside the reply
  pub setting-based : Based s (place_behind i 0 s)
  setting-based = record { inside = there.inside; behind = there.behind; small = rw setting-number (small_at t i (setting-small x) (omega (arith, setting-length x))) }

-- a variable's digits, read as a number in two's complement, are its value in the case that is spelled
pub digits_number : {v : ℕ} {s : List ℕ} {c : List ℤ} → SpellsCase v s c → (i : ℕ) → i < v → dec value_bits (number_at s (place_behind i 0 s)) ≡ value_in c i
unfolding dec
digits_number x i l = ap (dec value_bits) (setting-number x.spelled i l) ∙ sym (get_or-map (dec value_bits) x.setting i 0) ∙ ap (λ (l : List ℤ). value_in l i) x.case
