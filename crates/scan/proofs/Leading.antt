-- Where words lead: what the code works out is what may stand at a place, and the lines stay as they are told. Assumes nothing.
use Prim.Native.Nat.{ℕ, zero, suc, ◌+◌, ◌-◌, ◌*◌, ◌<◌, ◌≤◌}
use mathlib.Core.Path.{◌≡◌, refl, sym, ap, subst, ◌∙◌}
use mathlib.Core.Bool.{Bool, true, false, cond, ◌||◌, true≢false, false≢true}
use mathlib.Core.List.{List, [], ◌∷◌, ◌++◌}
use mathlib.Core.Option.{Option, none, some}
use native.Mathlib.Omega.{arith}
use lib.ListN.{length, get_or, take, drop}
use lib.Seq.{drop-drop, get_or-drop}
use mir.Syntax.{w64}
use mir.Val.{Fits}
use borrow.Author.Tests.{lt-ltb, le-ltb}
use Rattle.std.specs.Prelude.{Some, None, is_some}
use Rattle.std.specs.Prelude as prelude
use Rattle.lists.specs.Ascii.{ascii}
use Rattle.lists.specs.Names.{same_bytes}
use Rattle.lists.proofs.NameLaws.{same-decided}
use Rattle.kinds.specs.declared.Shape.{Shape}
use Rattle.kinds.specs.declared.Shape.TheVariants.{Wrong, Bare, Valued, Named as Name, One, Two, Three}
use Rattle.kinds.specs.Kinds.{row}
use Rattle.grammar.specs.Words.{word_length}
use Rattle.grammar.specs.Words as words
use Rattle.grammar.proofs.PatternLaws.{silent}
use Rattle.texts.specs.Texts.{operands_behind}
use Rattle.texts.specs.Numbers.{is_number}
use Rattle.texts.specs.WordKinds.{behind_word, kind_named}
use Rattle.texts.specs.Places.{separates, first_word, is_plain_name, index_in, is_declared, or_none, operands_of, behind_line, behind_var, names_in, Place, line, named, least, most, operand, done, onward, pending, allowed}
use Rattle.texts.proofs.ScanLaws.{first-length}
use Rattle.words.specs.Operands.{behind_said, counted}
use Rattle.words.proofs.Scanning.{word_over, word_more, line-over, line-more}
use Rattle.scan.specs.declared.Phase.{Phase}
use Rattle.scan.specs.declared.Phase.TheVariants.{Line, Named, Least, Most, Operand, Done}
use Rattle.scan.specs.declared.Here.{Here}
use Rattle.scan.specs.declared.Onward.{Onward}
use Rattle.scan.specs.States.{place_in, place_at, word_at, end_at, behind_lines, LinesAt, Stands, to, nowhere, from_line, from_name, from_number, to_operand, from_count, from_operand, from_phase, onward_at, Went, Stuck}

-- ---- operands

shape-few : (h : Shape) → counted (operands_behind h) ≤ 4
shape-few Wrong = omega arith
shape-few Bare = omega arith
shape-few Valued = omega arith
shape-few Name = omega arith
shape-few (One s) = omega arith
shape-few (Two s t) = omega arith
shape-few (Three s t u) = omega arith

pub few-operands : (names : List (List ℕ)) (w : List ℕ) → counted (operands_of names w) ≤ 4
unfolding operands_of
few-operands names w = go (behind_word w) (is_number w || is_declared names w) (shape-few (row (kind_named w)).shape)
  where
    go : (o : Option ℕ) (b : Bool) → counted o ≤ 4 → counted (elim o [ some n ↦ some n | none ↦ or_none b ]) ≤ 4
    go none true h = omega arith
    go none false h = omega arith
    go (some n) b h = h

-- their count has room: the text has fewer than 2 ^ 63 bytes
pub left-fits : (names : List (List ℕ)) (w : List ℕ) (n k size : ℕ) {b : ℕ} → some b ≡ operands_of names w → n ≤ 2 * k → k < size → size * 1 < 9223372036854775808 → Fits w64 (b + n)
left-fits names w n k size {b} e few l room =
    let d : suc b ≤ 4 = subst (λ (o : Option ℕ). counted o ≤ 4) (sym e) (few-operands names w) in
    record { fits = omega arith }

names-length : (d : ℕ) (s : List ℕ) → length (names_in d s) ≡ d
unfolding names_in
names-length zero s = refl
names-length (suc d) s = ap suc (names-length d (behind_line s))

module _ (s : List ℕ) (d : ℕ) (w : List ℕ) where
  pub operands-kind : (o : prelude.Option ℕ) → behind_said o ≡ behind_word w → is_some o ≡ true → behind_said o ≡ operands_of (names_in d s) w
  unfolding operands_of
  operands-kind o e t = go o t (behind_word w) e
    where
      go : (o : prelude.Option ℕ) → is_some o ≡ true → (v : Option ℕ) → behind_said o ≡ v → behind_said o ≡ elim v [ some n ↦ some n | none ↦ or_none (is_number w || is_declared (names_in d s) w) ]
      go None t v e = absurd (false≢true t)
      go (Some n) t v e = e ∙ rw (sym e) refl

module _ (s : List ℕ) (d : ℕ) (w : List ℕ) (o : prelude.Option ℕ) (e : behind_said o ≡ behind_word w) (f : is_some o ≡ false) where
  other : (t : Bool) → is_number w || is_declared (names_in d s) w ≡ t → or_none t ≡ operands_of (names_in d s) w
  unfolding operands_of
  other t q = go o f (behind_word w) e
    where
      go : (o : prelude.Option ℕ) → is_some o ≡ false → (v : Option ℕ) → behind_said o ≡ v → or_none t ≡ elim v [ some n ↦ some n | none ↦ or_none (is_number w || is_declared (names_in d s) w) ]
      go None f none e = ap or_none (sym q)
      go None f (some n) e = absurd (let z : ◌≡◌ {A = ℕ} 0 1 = cc in omega arith)
      go (Some n) f v e = absurd (true≢false f)

  pub operands-number : {n : Bool} → n ≡ is_number w → n ≡ true → some 0 ≡ operands_of (names_in d s) w
  operands-number g t = other true (rw (sym g ∙ t))

  module _ {n : Bool} {i : ℕ} (g : n ≡ is_number w) (h : i ≡ index_in (names_in d s) w) (t : n ≡ false) where
    pub operands-declared : i < d → some 0 ≡ operands_of (names_in d s) w
    unfolding is_declared
    operands-declared l =
        let m : index_in (names_in d s) w < length (names_in d s) = omega (arith, names-length d s) in
        other true (rw (sym g ∙ t, lt-ltb _ _ m))

    pub operands-none : d ≤ i → none ≡ operands_of (names_in d s) w
    unfolding is_declared
    operands-none l =
        let m : length (names_in d s) ≤ index_in (names_in d s) w = omega (arith, names-length d s) in
        other false (rw (sym g ∙ t, le-ltb _ _ m))

-- ---- lines

behind_more : (d : ℕ) (s : List ℕ) → behind_lines (suc d) s ≡ behind_line (behind_lines d s)
unfolding behind_lines
behind_more zero s = refl
behind_more (suc d) s = behind_more d (behind_line s)

names_more : (d : ℕ) (s : List ℕ) → names_in d s ++ (first_word (drop behind_var (behind_lines d s)) ∷ []) ≡ names_in (suc d) s
unfolding names_in behind_lines
names_more zero s = refl
names_more (suc d) s = ap (λ (l : List (List ℕ)). first_word (drop behind_var s) ∷ l) (names_more d (behind_line s))

-- the byte behind a word, and what stands behind that
abbrev byte_behind : List ℕ → ℕ
byte_behind t = get_or t (word_length separates t) 0

abbrev behind_both : List ℕ → List ℕ
behind_both t = drop (suc (word_length separates t)) t

no-feed : (c : ℕ) → separates c ≡ false → c ≡ 10 → ⊥
unfolding separates
no-feed c e h = let q : true ≡ false = sym (ap separates h) ∙ e in true≢false q

-- a word with a space behind it is in its line; a line feed ends the line
line-goes : (t : List ℕ) → byte_behind t ≡ 32 → behind_line t ≡ behind_line (behind_both t)
unfolding word_length
line-goes [] e = absurd (omega arith)
line-goes (c ∷ t) e = go (separates c) refl (line-goes t)
  where
    go : (b : Bool) → separates c ≡ b → (byte_behind t ≡ 32 → behind_line t ≡ behind_line (behind_both t)) → behind_line (c ∷ t) ≡ behind_line (behind_both (c ∷ t))
    go true h more =
        let z = word_over c t h in
        let q : c ≡ 32 = rw z at e in
        line-more c t (omega arith) ∙ sym (rw z)
    go false h more =
        let z = word_more c t h in
        line-more c t (no-feed c h) ∙ more (rw z at e) ∙ sym (rw z)

line-ends : (t : List ℕ) → byte_behind t ≡ 10 → behind_line t ≡ behind_both t
unfolding word_length
line-ends [] e = absurd (omega arith)
line-ends (c ∷ t) e = go (separates c) refl (line-ends t)
  where
    go : (b : Bool) → separates c ≡ b → (byte_behind t ≡ 10 → behind_line t ≡ behind_both t) → behind_line (c ∷ t) ≡ behind_both (c ∷ t)
    go true h more =
        let z = word_over c t h in
        let q : c ≡ 10 = rw z at e in
        line-over c t q ∙ sym (rw z)
    go false h more =
        let z = word_more c t h in
        line-more c t (no-feed c h) ∙ more (rw z at e) ∙ sym (rw z)

-- ---- where a word leads

-- the third says what o does: nothing, or the separator and the next place; there the lines are told, and the counts have hardly grown
pub data Agrees (s : List ℕ) (d n : ℕ) (t : List ℕ) (o : Option (words.Onward Place)) : prelude.Option Onward → Type 0 where
  no_way : o ≡ none → Agrees s d n t o None
  way : {r : Onward} →
      o ≡ some (record { separator = r.separator; place = place_in (names_in r.declared s) r.phase r.pending }) →
      (byte_behind t ≡ r.separator → LinesAt r.phase r.declared s (behind_both t)) →
      r.pending ≤ 2 + n → r.declared ≤ suc d → Agrees s d n t o (Some r)

module _ (s : List ℕ) (d n : ℕ) (t w : List ℕ) (e : w ≡ first_word t) where
  as_long : (v : List ℕ) → same_bytes v w ≡ true → word_length separates t ≡ length v
  as_long v h = sym (first-length t) ∙ ap length (sym e ∙ sym ((same-decided v w).0 h))

  from-line : LinesAt Line d s t → Agrees s d n t (allowed (line (names_in d s)) w) (from_line d w)
  unfolding allowed
  from-line l = go (same_bytes (ascii "var") w) (same_bytes (ascii "goal") w) refl
    where
      go : (a b : Bool) → same_bytes (ascii "var") w ≡ a →
          Agrees s d n t
          (elim a [ true ↦ onward 32 (named (names_in d s)) | false ↦ elim b [ true ↦ onward 32 (operand (names_in d s) 0) | false ↦ none ] ])
          (cond a (to 32 Named 0 d) (cond b (to 32 Operand 0 d) nowhere))
      go true b h =
          way refl
          (λ q. (ap (drop behind_var) l ∙ ap (λ (m : ℕ). drop (suc m) t) (sym (as_long (ascii "var") h)), ap behind_line l ∙ line-goes t q))
          (omega arith)
          (omega arith)
      go false true h = way refl (λ q. tt) (omega arith) (omega arith)
      go false false h = no_way refl

  from-name : LinesAt Named d s t → Agrees s d n t (allowed (named (names_in d s)) w) (from_name d w)
  unfolding allowed
  from-name l = go (is_plain_name w)
    where
      more : names_in d s ++ (w ∷ []) ≡ names_in (suc d) s
      more = ap (λ (v : List ℕ). names_in d s ++ (v ∷ [])) (e ∙ ap first_word (sym l.0)) ∙ names_more d s

      go : (b : Bool) → Agrees s d n t (elim b [ true ↦ onward 32 (least (names_in d s ++ (w ∷ []))) | false ↦ none ]) (cond b (to 32 Least 0 (suc d)) nowhere)
      go true = way (ap (λ (names : List (List ℕ)). onward 32 (least names)) more) (λ q. behind_more d s ∙ l.1 ∙ line-goes t q) (omega arith) (omega arith)
      go false = no_way refl

  from-least : LinesAt Least d s t → Agrees s d n t (allowed (least (names_in d s)) w) (from_number 32 Most d w)
  unfolding allowed
  from-least l = go (is_number w)
    where
      go : (b : Bool) → Agrees s d n t (elim b [ true ↦ onward 32 (most (names_in d s)) | false ↦ none ]) (cond b (to 32 Most 0 d) nowhere)
      go true = way refl (λ q. l ∙ line-goes t q) (omega arith) (omega arith)
      go false = no_way refl

  from-most : LinesAt Most d s t → Agrees s d n t (allowed (most (names_in d s)) w) (from_number 10 Line d w)
  unfolding allowed
  from-most l = go (is_number w)
    where
      go : (b : Bool) → Agrees s d n t (elim b [ true ↦ onward 10 (line (names_in d s)) | false ↦ none ]) (cond b (to 10 Line 0 d) nowhere)
      go true = way refl (λ q. l ∙ line-ends t q) (omega arith) (omega arith)
      go false = no_way refl

  from-operand : Agrees s d n t (allowed (operand (names_in d s) n) w) (from_operand s d n w)
  unfolding allowed
  from-operand = go (operands_of (names_in d s) w) (few-operands (names_in d s) w)
    where
      then : (m : ℕ) → m ≤ 3 + n → Agrees s d n t (pending (names_in d s) m) (to_operand d m)
      then zero h = way refl (λ q. tt) (omega arith) (omega arith)
      then (suc m) h = way refl (λ q. tt) (omega arith) (omega arith)

      go : (o : Option ℕ) → counted o ≤ 4 → Agrees s d n t (elim o [ none ↦ none | some k ↦ pending (names_in d s) (k + n) ]) (from_count d n (counted o))
      go none h = no_way refl
      go (some k) h = then (k + n) (omega arith)

  from-done : Agrees s d n t (allowed done w) nowhere
  unfolding allowed
  from-done = no_way refl

  pub agrees : (p : Phase) → LinesAt p d s t → Agrees s d n t (allowed (place_in (names_in d s) p n) w) (from_phase p s d n w)
  agrees Line l = from-line l
  agrees Named l = from-name l
  agrees Least l = from-least l
  agrees Most l = from-most l
  agrees Operand l = from-operand
  agrees Done l = from-done

-- ---- a step

-- the next word, as a part is lent
pub part-is : (s : List ℕ) (k : ℕ) {end : ℕ} → end ≡ k + word_length separates (drop k s) → take (end - k) (drop k s) ≡ first_word (drop k s)
unfolding first_word
part-is s k {end} e =
    let m : end - k ≡ word_length separates (drop k s) = omega arith in
    ap (λ (i : ℕ). take i (drop k s)) m

module _ {s : List ℕ} {h : Here} (k : Stands s h) {end : ℕ} (e : end ≡ end_at s h) where
  module _ {part : List ℕ} {o : prelude.Option Onward} (l : end < length s) (p : part ≡ take (end - h.start) (drop h.start s)) (f : o ≡ onward_at s h part) where
    word-is : part ≡ word_at s h
    word-is = p ∙ part-is s h.start e

    byte-is : byte_behind (drop h.start s) ≡ get_or s end 0
    byte-is = get_or-drop h.start s (word_length separates (drop h.start s)) 0 ∙ ap (λ (i : ℕ). get_or s i 0) (sym e)

    rest-is : behind_both (drop h.start s) ≡ drop (end + 1) s
    rest-is =
        let m : h.start + suc (word_length separates (drop h.start s)) ≡ end + 1 = omega arith in
        drop-drop (suc (word_length separates (drop h.start s))) h.start s ∙ ap (λ (i : ℕ). drop i s) m

    told : Agrees s h.declared h.pending (drop h.start s) (allowed (place_at s h) (word_at s h)) o
    told =
        let a = agrees s h.declared h.pending (drop h.start s) (word_at s h) refl h.phase k.lines in
        subst (Agrees s h.declared h.pending (drop h.start s) (allowed (place_at s h) (word_at s h))) (sym (f ∙ ap (onward_at s h) word-is)) a

    pub ahead-none : o ≡ None → Stuck s h
    ahead-none n x i a q = go (subst (Agrees s h.declared h.pending (drop h.start s) (allowed (place_at s h) (word_at s h))) n told)
      where
        go : Agrees s h.declared h.pending (drop h.start s) (allowed (place_at s h) (word_at s h)) None → ⊥
        go (no_way v) = silent v a

    module _ {r : Onward} (t : o ≡ Some r) where
      its : Agrees s h.declared h.pending (drop h.start s) (allowed (place_at s h) (word_at s h)) (Some r)
      its = subst (Agrees s h.declared h.pending (drop h.start s) (allowed (place_at s h) (word_at s h))) t told

      pub ahead-other : (r.separator ≡ get_or s end 0 → ⊥) → Stuck s h
      ahead-other n x i a q = go its (q ∙ ap (λ (j : ℕ). get_or s j 0) (sym e))
        where
          go : Agrees s h.declared h.pending (drop h.start s) (allowed (place_at s h) (word_at s h)) (Some r) → x.separator ≡ get_or s end 0 → ⊥
          go (way v g few few-names) z = n (let d : r.separator ≡ x.separator = cc in d ∙ z)

      pub ahead-next : r.separator ≡ get_or s end 0 → Went s h (record { phase = r.phase; pending = r.pending; declared = r.declared; start = end + 1 })
      ahead-next q = go its
        where
          go : Agrees s h.declared h.pending (drop h.start s) (allowed (place_at s h) (word_at s h)) (Some r) → Went s h (record { phase = r.phase; pending = r.pending; declared = r.declared; start = end + 1 })
          go (way v g few few-names) = record {
            stands = record {
              inside = omega arith;
              few-operands = omega (arith, k.few-operands);
              few-names = omega (arith, k.few-names);
              lines = subst (LinesAt r.phase r.declared s) rest-is (g (byte-is ∙ sym q));
            };
            inside = omega arith;
            behind = ap (λ (i : ℕ). i + 1) e;
            word = v ∙ ap (λ (c : ℕ). some (record { separator = c; place = place_in (names_in r.declared s) r.phase r.pending })) (q ∙ ap (λ (i : ℕ). get_or s i 0) e);
          }
