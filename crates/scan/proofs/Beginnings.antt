-- How words begin, as the code tests it, step by step. Assumes nothing.
use Prim.Native.Nat.{ℕ, suc, ◌+◌, ◌-◌, ◌<◌, ◌≤◌}
use mathlib.Core.Path.{◌≡◌, refl, sym, ap, ◌∙◌}
use mathlib.Core.Bool.{Bool, true, false, ◌&&◌, ◌||◌}
use mathlib.Core.List.{List, [], ◌∷◌, ◌++◌, map}
use native.Mathlib.Numerals.{add-one}
use native.Mathlib.Omega.{arith}
use denote.Ref.{Bor}
use lib.Dec.{eqb, leb}
use Rattle.kinds.specs.declared.Kind.{Kind}
use Rattle.std.specs.List.{list_any}
use Rattle.std.specs.Cmp.Lexicographic.{pointwise}
use lib.ListN.{length, get_or, take, drop, drop_of_length-le}
use lib.Seq.{drop-cons, take-suc}
use borrow.Author.Tests.{ne_eqb}
use Rattle.lists.specs.Ascii.{ascii}
use Rattle.lists.specs.Names.{same_bytes}
use Rattle.layout.specs.Limits.{most_name_bytes}
use Rattle.records.specs.Variables.{name_right}
use Rattle.grammar.specs.Words.{reach_from}
use Rattle.grammar.proofs.ScanLaws.{reach-on, reach-off, reach-end}
use Rattle.texts.specs.Numbers.{is_number}
use Rattle.texts.specs.Places.{first_word, behind_line, behind_var, names_in, beginning, begins_any, begins_number, begins_name, plain_words}
use Rattle.texts.specs.Plain.{plain_of}

-- ---- bytes that begin a word

pub starts : (u w : List ℕ) → pointwise eqb u (take (length u) w) ≡ beginning u w
unfolding beginning
starts [] w = refl
starts (c ∷ u) [] = refl
starts (c ∷ u) (d ∷ w) = ap (λ (b : Bool). eqb c d && b) (starts u w)

-- ---- names and numbers

pub name_parts : (u : List ℕ) → begins_name u ≡ eqb (length u) 0 || (leb (length u) most_name_bytes && name_right u)
unfolding begins_name
name_parts [] = refl
name_parts (c ∷ u) = rw (ne_eqb (length (c ∷ u)) 0 (λ e. omega arith)) (go (name_right (c ∷ u)) (leb (length (c ∷ u)) most_name_bytes))
  where
    go : (a b : Bool) → a && b ≡ b && a
    go true true = refl
    go true false = refl
    go false true = refl
    go false false = refl

pub number_parts : (u : List ℕ) → begins_number u ≡ eqb (length u) 0 || (is_number u || same_bytes u (ascii "-"))
unfolding begins_number
number_parts [] = refl
number_parts (c ∷ u) = rw (ne_eqb (length (c ∷ u)) 0 (λ e. omega arith))

-- ---- names, one line after the other

-- the names of the first i lines begin otherwise; the next line stands at a place
pub record Comparing (text u : List ℕ) (count line i : ℕ) : Type 0 where
  pub inside : line ≤ length text
  pub same : begins_any (names_in count text) u ≡ begins_any (names_in (count - i) (drop line text)) u

first-name : (m : ℕ) (s u : List ℕ) → begins_any (names_in (suc m) s) u ≡ beginning u (first_word (drop behind_var s)) || begins_any (names_in m (behind_line s)) u
unfolding begins_any names_in
first-name m s u = refl

no_name : (s u : List ℕ) → begins_any (names_in 0 s) u ≡ false
unfolding begins_any names_in
no_name s u = refl

module _ {text u : List ℕ} {count line i : ℕ} (w : Comparing text u count line i) where
  module _ {name : List ℕ} {b : Bool} (h : i < count) (n : name ≡ first_word (drop behind_var (drop line text))) (e : b ≡ beginning u name) where
    tested : beginning u (first_word (drop behind_var (drop line text))) ≡ b
    tested = sym (e ∙ ap (beginning u) n)

    one_more : begins_any (names_in count text) u ≡ b || begins_any (names_in (count - suc i) (behind_line (drop line text))) u
    one_more =
        let m : count - i ≡ suc (count - suc i) = omega arith in
        w.same
        ∙ ap (λ (j : ℕ). begins_any (names_in j (drop line text)) u) m
        ∙ first-name (count - suc i) (drop line text) u
        ∙ ap (λ (x : Bool). x || begins_any (names_in (count - suc i) (behind_line (drop line text))) u) tested

    pub comparing-here : b ≡ true → true ≡ begins_any (names_in count text) u
    comparing-here t = sym (one_more ∙ ap (λ (x : Bool). x || begins_any (names_in (count - suc i) (behind_line (drop line text))) u) t)

    pub comparing-turn : b ≡ false → {next : ℕ} → (next ≤ length text) × (drop next text ≡ behind_line (drop line text)) → Comparing text u count next (i + 1)
    comparing-turn f {next} l =
        let r : count - suc i ≡ count - (i + 1) = omega arith in
        record {
          inside = l.0;
          same = one_more ∙ ap (λ (x : Bool). x || begins_any (names_in (count - suc i) (behind_line (drop line text))) u) f ∙ (λ j. begins_any (names_in (r j) (sym l.1 j)) u);
        }

  pub comparing-end : count ≤ i → false ≡ begins_any (names_in count text) u
  comparing-end h =
      let m : count - i ≡ 0 = omega arith in
      sym (w.same ∙ ap (λ (j : ℕ). begins_any (names_in j (drop line text)) u) m ∙ no_name (drop line text) u)

-- ---- the kinds' words

pub begun-any : (u : List ℕ) (ks : List Kind) → list_any (λ k. beginning u (plain_of k)) ks ≡ begins_any (plain_words ks) u
unfolding begins_any
begun-any u [] = refl
begun-any u (k ∷ ks) = ap (λ (b : Bool). beginning u (plain_of k) || b) (begun-any u ks)

-- ---- how far a word begins: k bytes do

pub record Reaching (begins : List ℕ → Bool) (w : List ℕ) (k : ℕ) : Type 0 where
  pub same : reach_from begins [] w ≡ k + reach_from begins (take k w) (drop k w)

module _ {begins : List ℕ → Bool} {w : List ℕ} {k : ℕ} (x : Reaching begins w k) where
  module _ {b : Bool} (h : k < length w) (e : b ≡ begins (take (k + 1) w)) where
    one_byte : take (suc k) w ≡ take k w ++ (get_or w k 0 ∷ [])
    one_byte = take-suc w k 0 h

    begun : begins (take k w ++ (get_or w k 0 ∷ [])) ≡ b
    begun = ap begins (sym one_byte) ∙ sym (rw add-one at e)

    split : reach_from begins (take k w) (drop k w) ≡ reach_from begins (take k w) (get_or w k 0 ∷ drop (suc k) w)
    split = ap (reach_from begins (take k w)) (drop-cons w k 0 h)

    pub reaching-stop : b ≡ false → k ≡ reach_from begins [] w
    reaching-stop t = omega (arith, x.same, split ∙ reach-off begins (take k w) (get_or w k 0) (drop (suc k) w) (begun ∙ t))

    pub reaching-turn : b ≡ true → Reaching begins w (k + 1)
    reaching-turn t =
        let m : reach_from begins (take k w) (drop k w) ≡ suc (reach_from begins (take (suc k) w) (drop (suc k) w)) =
        split ∙ reach-on begins (take k w) (get_or w k 0) (drop (suc k) w) (begun ∙ t) ∙ ap (λ (u : List ℕ). suc (reach_from begins u (drop (suc k) w))) (sym one_byte) in
        let q : reach_from begins [] w ≡ suc k + reach_from begins (take (suc k) w) (drop (suc k) w) = omega (arith, x.same) in
        record { same = rw add-one q }

  pub reaching-end : length w ≤ k → k ≡ reach_from begins [] w
  reaching-end h = omega (arith, x.same, ap (reach_from begins (take k w)) (drop_of_length-le w h) ∙ reach-end begins (take k w))
