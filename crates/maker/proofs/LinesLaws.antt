-- The loop over the lines of a text's variables: what is left of them, and of their records. Assumes nothing.
use Prim.Native.Nat.{ℕ, suc, ◌+◌, ◌≤◌, ◌<◌}
use mathlib.Core.Path.{◌≡◌, refl, sym, ap, ◌∙◌}
use mathlib.Core.List.{List, [], ◌∷◌, ◌++◌, append_assoc}
use native.Mathlib.Omega.{arith}
use lib.ListN.{length, drop, length-append}
use lib.Seq.{drop_at, drop-drop}
use Rattle.lists.specs.Joined.{joined}
use Rattle.meaning.specs.Rule.{Variable}
use Rattle.texts.specs.Plain.{variable_line}
use Rattle.texts.specs.Texts.{Declarable, AllDeclarable}
use Rattle.texts.proofs.SpellingLaws.{feed-separates}
use Rattle.sheets.specs.Laying.{with_variables}
use Rattle.building.specs.Building.{WordsAt, Declares}
use Rattle.maker.specs.Lays.{line_words, LineReady, LinePut, LinesReady, LinesLaid, LinesPut}

-- a line is its words and a line feed
line-words : (v : Variable) (s : List ℕ) → variable_line v ++ s ≡ line_words v ++ 10 ∷ s
line-words v s = simp append_assoc

line-length : (v : Variable) → length (variable_line v) ≡ suc (length (line_words v))
line-length v = omega (arith, ap length (line-words v []), length-append (variable_line v) [], length-append (line_words v) (10 ∷ []))

-- ---- what is left behind i lines
pub record Left (text rest : List ℕ) (vs : List Variable) (before : List ℕ) (at i : ℕ) (now : List ℕ) : Type 0 where
  pub left : List Variable
  pub declarable : AllDeclarable left
  pub number : i + length left ≡ length vs
  pub here : drop at text ≡ joined variable_line left ++ rest
  pub place : at + length (joined variable_line left) ≡ length (joined variable_line vs)
  pub sheet : with_variables i left now ≡ with_variables 0 vs before

-- the next one
record Next (text : List ℕ) (at i : ℕ) {rest : List ℕ} {vs : List Variable} {before now : List ℕ} (l : Left text rest vs before at i now) : Type 0 where
  variable : Variable
  others : List Variable
  is : l.left ≡ variable ∷ others
  declarable : Declarable variable
  all : AllDeclarable others
  words : WordsAt text at (line_words variable)
  behind : drop at text ≡ line_words variable ++ 10 ∷ (joined variable_line others ++ rest)

module _ {text rest : List ℕ} {vs : List Variable} {before : List ℕ} {at i : ℕ} {now : List ℕ} (l : Left text rest vs before at i now) where
  next : i < length vs → Next text at i l
  next h = go l.left refl l.declarable l.number l.here
    where
      go : (ws : List Variable) → l.left ≡ ws → AllDeclarable ws → i + length ws ≡ length vs → drop at text ≡ joined variable_line ws ++ rest → Next text at i l
      go [] e d n p = absurd (omega arith)
      go (v ∷ ws) e d n p =
          let b : drop at text ≡ line_words v ++ 10 ∷ (joined variable_line ws ++ rest) = p ∙ append_assoc (variable_line v) (joined variable_line ws) rest ∙ line-words v (joined variable_line ws ++ rest) in
          record { variable = v; others = ws; is = e; declarable = d.0; all = d.1; words = record { separator = 10; rest = joined variable_line ws ++ rest; here = b; separates = feed-separates }; behind = b }

  turn-left : i < length vs → {r : ℕ} {after : List ℕ} → LinePut text at i now r after → Left text rest vs before r (suc i) after
  unfolding with_variables
  turn-left h {r} {after} p =
      let n = next h in
      let w = p.all n.variable n.declarable n.words in
      let k : length (line_words n.variable ++ (10 ∷ [])) ≡ suc (length (line_words n.variable)) = omega (arith, length-append (line_words n.variable) (10 ∷ [])) in
      record {
        left = n.others;
        declarable = n.all;
        number = omega (arith, l.number, ap length n.is);
        here =
            ap (λ (j : ℕ). drop j text) w.place ∙ sym (drop-drop (suc (length (line_words n.variable))) at text)
            ∙ ap (drop (suc (length (line_words n.variable)))) (n.behind ∙ sym (append_assoc (line_words n.variable) (10 ∷ []) (joined variable_line n.others ++ rest)))
            ∙ drop_at (line_words n.variable ++ (10 ∷ [])) (joined variable_line n.others ++ rest) (suc (length (line_words n.variable))) k;
        place = omega (arith, w.place, l.place, ap (λ (ws : List Variable). length (joined variable_line ws)) n.is, length-append (variable_line n.variable) (joined variable_line n.others), line-length n.variable);
        sheet = ap (with_variables (suc i) n.others) w.sheet ∙ sym (ap (λ (ws : List Variable). with_variables i ws now) n.is) ∙ l.sheet;
      }

  end-left : i ≡ length vs → LinesLaid vs before at now
  unfolding with_variables
  end-left e = go l.left l.number l.place l.sheet
    where
      go : (ws : List Variable) → i + length ws ≡ length vs → at + length (joined variable_line ws) ≡ length (joined variable_line vs) → with_variables i ws now ≡ with_variables 0 vs before → LinesLaid vs before at now
      go [] n p s = record { place = omega (arith, p); sheet = s }
      go (v ∷ ws) n p s = absurd (omega arith)

-- ---- the loop's invariant: whatever variables the text declares
pub record Lines (text : List ℕ) (count : ℕ) (before : List ℕ) (at i : ℕ) (now : List ℕ) : Type 0 where
  pub most : i ≤ count
  pub all : (vs : List Variable) (d : Declares text count vs) → Left text d.rest vs before at i now

pub lines-begin : (text : List ℕ) (count : ℕ) (before : List ℕ) → Lines text count before 0 0 before
lines-begin text count before = record { most = omega arith; all = λ vs d. record { left = vs; declarable = d.declarable; number = omega arith; here = d.lines; place = omega arith; sheet = refl } }

module _ {text : List ℕ} {count : ℕ} {before : List ℕ} {at i : ℕ} {now : List ℕ} (l : Lines text count before at i now) where
  pub lines-ask : {size : ℕ} → LinesReady text count size → i < count → {here : ℕ} → size ≤ here → LineReady text at i here
  lines-ask r h k =
      let d = r.declares in
      let n = next (l.all r.variables d) (omega (arith, d.counted)) in
      record { variable = n.variable; declarable = n.declarable; words = n.words; few = omega (arith, r.few); room = omega (arith, r.room) }

  pub lines-turn : i < count → {r : ℕ} {after : List ℕ} → LinePut text at i now r after → Lines text count before r (i + 1) after
  lines-turn h {r} {after} p =
      let e : suc i ≡ i + 1 = omega arith in
      record { most = omega arith; all = λ vs d. rw (← e) (turn-left (l.all vs d) (omega (arith, d.counted)) p) }

  pub lines_end : count ≤ i → LinesPut text count before at now
  lines_end h = record { all = λ vs d. end-left (l.all vs d) (omega (arith, l.most, d.counted)) }
