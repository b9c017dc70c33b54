-- Names looked up: no kind's word, and among the names of lines. Assumes nothing.
use Prim.Native.Nat.{ℕ, suc, ◌+◌, ◌-◌, ◌<◌, ◌≤◌, min}
use mathlib.Core.Path.{◌≡◌, refl, sym, ap, ◌∙◌}
use mathlib.Core.Bool.{Bool, true, false, not, ◌&&◌}
use mathlib.Core.List.{List, [], ◌∷◌}
use native.Mathlib.Omega.{arith}
use lib.ListN.{length, drop, take, length-drop, drop_of_length-le}
use lib.Seq.{drop-drop}
use lib.Dec.{eqb, leb}
use borrow.Author.Tests.{leb-true}
use Rattle.std.specs.Prelude.{Option, Some, None}
use Rattle.std.specs.Option.{is_some}
use Rattle.std.specs.Str.{bytes_eq}
use Rattle.std.proofs.lemmas.Bool.{leb-false}
use Rattle.lists.specs.Names.{same_bytes}
use Rattle.kinds.specs.Kinds.{row}
use Rattle.layout.specs.Limits.{most_name_bytes}
use Rattle.records.specs.Variables.{name_right}
use Rattle.grammar.specs.Words.{word_length}
use Rattle.grammar.proofs.ScanLaws.{word-inside}
use Rattle.texts.specs.Texts.{operands_behind}
use Rattle.words.specs.Operands.{behind_said}
use Rattle.texts.specs.WordKinds.{kind_named, is_none}
use Rattle.texts.specs.Places.{separates, first_word, is_plain_name, index_in, behind_line, behind_var, names_in}

-- ---- equal bytes, as the library tests them

pub equal-bytes : (u v : List ℕ) → same_bytes u v ≡ bytes_eq u v
unfolding same_bytes
equal-bytes [] [] = refl
equal-bytes [] (c ∷ v) = refl
equal-bytes (b ∷ u) [] = refl
equal-bytes (b ∷ u) (c ∷ v) = ap (λ (t : Bool). eqb b c && t) (equal-bytes u v)

-- ---- plain names

pub behind_none : (o : Option ℕ) → is_none (behind_said o) ≡ not (is_some o)
behind_none None = refl
behind_none (Some n) = refl

pub plain_tests : (w : List ℕ) → is_plain_name w ≡ leb (length w) most_name_bytes && name_right w && is_none (operands_behind (row (kind_named w)).shape)
unfolding is_plain_name
plain_tests w = by (name_right w) (leb (length w) most_name_bytes) (is_none (operands_behind (row (kind_named w)).shape))
  where
    by : (x y z : Bool) → x && y && z ≡ y && x && z
    by true true z = refl
    by true false z = refl
    by false true z = refl
    by false false z = refl

-- ---- the name of a line

module _ (s : List ℕ) (line : ℕ) where
  pub name_start : {n : ℕ} → n ≡ min (length s) (line + behind_var) → (n ≤ length s) × (drop n s ≡ drop behind_var (drop line s))
  name_start {n} e = (omega arith, by (leb (length s) (line + behind_var)) refl ∙ sym (drop-drop behind_var line s))
    where
      by : (b : Bool) → leb (length s) (line + behind_var) ≡ b → drop n s ≡ drop (line + behind_var) s
      by true h =
          let l : length s ≤ line + behind_var = leb-true _ _ h in
          drop_of_length-le s (omega arith) ∙ sym (drop_of_length-le s l)
      by false h =
          let l : line + behind_var < length s = leb-false _ _ h in
          let k : n ≡ line + behind_var = omega arith in
          ap (λ (j : ℕ). drop j s) k

  pub word-there : (start : ℕ) {end : ℕ} → drop start s ≡ drop behind_var (drop line s) → end ≡ start + word_length separates (drop start s) → take (end - start) (drop start s) ≡ first_word (drop behind_var (drop line s))
  unfolding first_word
  word-there start {end} e f =
      let n : end - start ≡ word_length separates (drop start s) = omega arith in
      ap (λ (j : ℕ). take j (drop start s)) n ∙ ap (λ (u : List ℕ). take (word_length separates u) u) e

-- a word ends inside the text
pub end-inside : (s : List ℕ) (start : ℕ) {end : ℕ} → start ≤ length s → end ≡ start + word_length separates (drop start s) → end ≤ length s
end-inside s start h e = omega (arith, word-inside separates (drop start s), length-drop start s)

-- ---- names, one line after the other

name-first : (m : ℕ) (s w : List ℕ) → same_bytes (first_word (drop behind_var s)) w ≡ true → index_in (names_in (suc m) s) w ≡ 0
unfolding index_in names_in
name-first m s w e = rw (e, index_in)

name-later : (m : ℕ) (s w : List ℕ) → same_bytes (first_word (drop behind_var s)) w ≡ false → index_in (names_in (suc m) s) w ≡ suc (index_in (names_in m (behind_line s)) w)
unfolding index_in names_in
name-later m s w e = rw (e, index_in)

name-none : (s w : List ℕ) → index_in (names_in 0 s) w ≡ 0
unfolding index_in names_in
name-none s w = refl

-- the names of the first i lines are others; the next line stands at a place
pub record Naming (text word : List ℕ) (count line i : ℕ) : Type 0 where
  pub inside : line ≤ length text
  pub same : index_in (names_in count text) word ≡ i + index_in (names_in (count - i) (drop line text)) word

module _ {text word : List ℕ} {count line i : ℕ} (w : Naming text word count line i) where
  module _ {name : List ℕ} {b : Bool} (h : i < count) (n : name ≡ first_word (drop behind_var (drop line text))) (e : b ≡ same_bytes name word) where
    tested : same_bytes (first_word (drop behind_var (drop line text))) word ≡ b
    tested = sym (e ∙ ap (λ (u : List ℕ). same_bytes u word) n)

    one_more : index_in (names_in (count - i) (drop line text)) word ≡ index_in (names_in (suc (count - suc i)) (drop line text)) word
    one_more =
        let m : count - i ≡ suc (count - suc i) = omega arith in
        ap (λ (j : ℕ). index_in (names_in j (drop line text)) word) m

    pub naming-here : b ≡ true → i ≡ index_in (names_in count text) word
    naming-here t = omega (arith, w.same, one_more ∙ name-first (count - suc i) (drop line text) word (tested ∙ t))

    pub naming-turn : b ≡ false → {next : ℕ} → (next ≤ length text) × (drop next text ≡ behind_line (drop line text)) → Naming text word count next (i + 1)
    naming-turn f {next} l =
        let r : count - (i + 1) ≡ count - suc i = omega arith in
        let q : index_in (names_in (count - (i + 1)) (drop next text)) word ≡ index_in (names_in (count - suc i) (behind_line (drop line text))) word = (λ j. index_in (names_in (r j) (l.1 j)) word) in
        record { inside = l.0; same = omega (arith, w.same, one_more ∙ name-later (count - suc i) (drop line text) word (tested ∙ f)) }

  pub naming-end : i ≤ count → count ≤ i → count ≡ index_in (names_in count text) word
  naming-end l h =
      let m : count - i ≡ 0 = omega arith in
      omega (arith, w.same, ap (λ (j : ℕ). index_in (names_in j (drop line text)) word) m ∙ name-none (drop line text) word)
