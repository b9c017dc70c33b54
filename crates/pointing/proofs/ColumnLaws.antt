-- The column of a place: one more than the bytes behind the last line feed before it. Assumes nothing.
use Prim.Native.Nat.{ℕ, zero, suc, ◌+◌, ◌-◌, ◌≤◌}
use mathlib.Core.Path.{◌≡◌, refl, ap, ◌∙◌}
use mathlib.Core.Bool.{Bool, true, false, not}
use mathlib.Core.List.{List, [], ◌∷◌, ◌++◌}
use native.Mathlib.Omega.{arith}
use lib.Dec.{eqb}
use lib.ListN.{length, get_or, take}
use lib.Seq.{take-suc, length-take-le}
use Rattle.std.specs.List.{suffix_len}
use Rattle.std.proofs.lemmas.List.Sums.{count_by-le-length, suffix_len-take_no, suffix_len-take_yes}
use Rattle.texts.specs.Counts.{occurrences}
use Rattle.words.proofs.Scanning.{occurrences_counted}
use Rattle.pointing.specs.Pointing.{column_from, column_of}

module _ (c : ℕ) where
  abbrev more : ℕ → ℕ
  more n = elim (eqb c 10) [ true ↦ 1 | false ↦ suc n ]

  more-at : (b : Bool) (d n : ℕ) (s : List ℕ) → column_from 1 (s ++ (c ∷ [])) ≡ more (column_from 1 s) → column_from (suc n) (s ++ (c ∷ [])) ≡ more (column_from (suc n) s) →
      elim b [ true ↦ column_from 1 (s ++ (c ∷ [])) | false ↦ column_from (suc n) (s ++ (c ∷ [])) ] ≡ more (elim b [ true ↦ column_from 1 s | false ↦ column_from (suc n) s ])
  more-at true d n s e f = e
  more-at false d n s e f = f

  -- one more byte
  column-more : (n : ℕ) (s : List ℕ) → column_from n (s ++ (c ∷ [])) ≡ more (column_from n s)
  column-more n [] = refl
  column-more n (d ∷ s) = more-at (eqb d 10) d n s (column-more 1 s) (column-more (suc n) s)

abbrev unfed : ℕ → Bool
unfed c = not (eqb c 10)

module _ (s : List ℕ) (n : ℕ) (l : suc n ≤ length s) (e : column_of s n ≡ suffix_len unfed (take n s) + 1) where
  gone : (b : Bool) → eqb (get_or s n 0) 10 ≡ b → unfed (get_or s (suc n - 1) 0) ≡ not b
  gone b t = let m : suc n - 1 ≡ n = omega arith in ap (λ (k : ℕ). unfed (get_or s k 0)) m ∙ ap not t

  rest : suffix_len unfed (take (suc n - 1) s) ≡ suffix_len unfed (take n s)
  rest = let m : suc n - 1 ≡ n = omega arith in ap (λ (k : ℕ). suffix_len unfed (take k s)) m

  counted-more : (b : Bool) → eqb (get_or s n 0) 10 ≡ b → elim b [ true ↦ 1 | false ↦ suc (column_of s n) ] ≡ suffix_len unfed (take (suc n) s) + 1
  counted-more true t = omega (arith, suffix_len-take_no unfed s (suc n) 0 (omega arith) l (gone true t))
  counted-more false t = omega (arith, rest, suffix_len-take_yes unfed s (suc n) 0 (omega arith) l (gone false t))

pub column_counted : (s : List ℕ) (place : ℕ) → place ≤ length s → column_of s place ≡ suffix_len (λ c. not (eqb c 10)) (take place s) + 1
column_counted s zero l = refl
column_counted s (suc n) l =
    ap (column_from 1) (take-suc s n 0 l) ∙ column-more (get_or s n 0) 1 (take n s) ∙ counted-more s n l (column_counted s n (omega arith)) (eqb (get_or s n 0) 10) refl

-- a byte stands in a part at most as often as the part has bytes
pub line_few : (s : List ℕ) (place : ℕ) → place ≤ length s → occurrences 10 (take place s) ≤ place
line_few s place l = omega (arith, occurrences_counted 10 (take place s), count_by-le-length (λ c. eqb c 10) (take place s), length-take-le place s l)
