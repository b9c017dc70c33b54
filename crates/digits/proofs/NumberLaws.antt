-- The turns of the loops over digits and over variables. Assumes nothing.
use Prim.Native.Nat.{ℕ, suc, ◌+◌, ◌*◌, ◌<◌, ◌≤◌}
use mathlib.Core.Path.{◌≡◌, refl, sym, ap, ◌∙◌}
use mathlib.Core.List.{List, ◌++◌, map}
use native.Mathlib.Numerals.{add-one}
use native.Mathlib.Omega.{arith}
use lib.IntN.{ℤ, pos}
use lib.ListN.{length, get_or, set, take, drop, length-map}
use lib.Seq.{drop-cons, take_all, take-suc, take-suc-set, take-append_seam, drop-append_seam}
use Rattle.numbers.specs.Bytes.{word_limit}
use Rattle.numbers.specs.Two.{dec}
use Rattle.smtlib.specs.Tokens.{digit_value}
use Rattle.smtlib.specs.Terms.{number_from, number_of}
use Rattle.replies.specs.Replies.{value_bits}
use Rattle.replies.specs.Says.{SpellsCase}
use Rattle.replies.proofs.NumberLaws.{setting-length}
use Rattle.digits.specs.Hashes.{place_behind, number_at}
use Rattle.digits.specs.Ready.{SixteenBits, Based, CaseSpelled, Numbered}
use Rattle.digits.proofs.HashScan.{Passing, passing-place, passing-turn}
use Rattle.digits.proofs.DigitLaws.{number-grows, setting-based, digits_number}

-- ---- the number of digits: n stands for the first k

pub record Summing (base : ℕ) (digits : List ℕ) (n k : ℕ) : Type 0 where
  pub inside : k ≤ length digits
  pub same : number_of base (map digit_value digits) ≡ number_from base n (map digit_value (drop k digits))

module _ {base : ℕ} {digits : List ℕ} {n k : ℕ} (w : Summing base digits n k) where
  split : k < length digits → number_of base (map digit_value digits) ≡ number_from base (n * base + digit_value (get_or digits k 0)) (map digit_value (drop (suc k) digits))
  split h = w.same ∙ ap (λ (l : List ℕ). number_from base n (map digit_value l)) (drop-cons digits k 0 h)

  pub summing-fits : SixteenBits base digits → k < length digits → n * base + digit_value (get_or digits k 0) < word_limit
  summing-fits f h =
      let g = number-grows base (n * base + digit_value (get_or digits k 0)) (map digit_value (drop (suc k) digits)) f.some-base in
      omega (arith, f.small, split h)

-- ---- the numbers of all variables: the first i stand in the part of the row that is theirs, and i hashes are behind place p

pub record Filling (v : ℕ) (reply : List ℕ) (new : List ℤ) (i p : ℕ) : Type 0 where
  pub passing : Passing reply i p
  pub fresh : (c : List ℤ) → SpellsCase v reply c → take i new ≡ take i c

-- a case has a number for each variable
pub case-long : {v : ℕ} {reply : List ℕ} {c : List ℤ} → SpellsCase v reply c → length c ≡ v
case-long x = ap length (sym x.case) ∙ length-map x.setting (dec value_bits) ∙ setting-length x.spelled

module _ {v : ℕ} {reply : List ℕ} {new : List ℤ} {i p : ℕ} (w : Filling v reply new i p) where
  pub filling-based : CaseSpelled v reply → i < v → {q : ℕ} → q ≡ place_behind 0 p (drop p reply) → Based reply q
  filling-based x h e = rw (passing-place w.passing e) (setting-based x.spelled i h)

  pub filling-turn : i < v → i < length new → {q : ℕ} {z : ℤ} → q ≡ place_behind 0 p (drop p reply) → z ≡ dec value_bits (number_at reply q) → Filling v reply (set new i z) (i + 1) q
  filling-turn h a {q} {z} e d = record {
    passing = passing-turn w.passing e;
    fresh = λ c x. more c x (d ∙ ap (λ (k : ℕ). dec value_bits (number_at reply k)) (passing-place w.passing e) ∙ digits_number x i h);
  }
    where
      more : (c : List ℤ) → SpellsCase v reply c → z ≡ get_or c i (pos 0) → take (i + 1) (set new i z) ≡ take (i + 1) c
      more c x k =
          let b : i < length c = omega (arith, case-long x) in
          rw (add-one, take-suc-set new i z a, take-suc c i (pos 0) b, w.fresh c x, k)

  pub filling-end : CaseSpelled v reply → v ≤ i → length new ≡ v → (old : List ℤ) → Numbered v reply old (new ++ drop v old)
  filling-end x h l old =
      let c : List ℤ = map (dec value_bits) x.setting in
      let s : SpellsCase v reply c = record { setting = x.setting; spelled = x.spelled; case = refl } in
      let e : new ≡ c = sym (take_all i new (omega arith)) ∙ w.fresh c s ∙ take_all i c (omega (arith, case-long s)) in
      let d : take (length new) (new ++ drop v old) ≡ c = take-append_seam new (drop v old) ∙ e in
      record {
        case = record { setting = x.setting; spelled = x.spelled; case = sym (rw l at d) };
        others = rw l at (drop-append_seam new (drop v old));
      }
