-- The script is the printed text of its s-expressions: of a tree, of each line, and of the whole. Assumes nothing.
use Prim.Native.Nat.{ℕ, suc}
use mathlib.Core.Path.{◌≡◌, refl, sym, ap, ◌∙◌}
use mathlib.Core.Bool.{Bool, true, false, not, ◌&&◌}
use mathlib.Core.List.{List, [], ◌∷◌, ◌++◌, map, append_assoc}
use borrow.Author.Tests.{not-true}
use Rattle.lists.specs.Ascii.{ascii}
use Rattle.lists.specs.Joined.{joined}
use Rattle.lists.specs.Names.{same_bytes, listed}
use Rattle.lists.proofs.TestLaws.{both}
use Rattle.meaning.specs.declared.Sort.{Sort}
use Rattle.meaning.specs.declared.Sort.TheVariants.{Truth}
use Rattle.meaning.specs.Tree.{Tree}
use Rattle.meaning.specs.Rule.{Variable, Rule}
use Rattle.kinds.specs.declared.Kind.{Kind}
use Rattle.kinds.specs.declared.Shape.{Shape}
use Rattle.kinds.specs.declared.Shape.TheVariants.{Wrong, Bare, Valued, Named, One, Two, Three}
use Rattle.kinds.specs.Kinds.{Args, row}
use Rattle.kinds.specs.Rows.{Known}
use Rattle.kinds.proofs.KindLaws.{passes}
use Rattle.kinds.proofs.RowLaws.{Each, by_rows}
use Rattle.layout.proofs.Made.{found_made, found-make}
use Rattle.smtlib.specs.Characters.{every, letter_char, digit_char, symbol_char}
use Rattle.smtlib.specs.Tokens.{symbol, reserved_words, simple}
use Rattle.smtlib.specs.Sexps.{Sexp, nil, cons}
use Rattle.smtlib.specs.Spelling.{digit_byte, Spelled}
use Rattle.smtlib.proofs.CommandLaws.{word, models_option}
use Rattle.smtlib.proofs.Printing.{print, rest, lines, Printable, Listing}
use Rattle.smtlib.proofs.Spelling.{spelled-symbol, spelled-reserved, spelled-keyword}
use Rattle.wording.specs.Words.{word_of}
use Rattle.wording.specs.Text.{text_by, text_step, text}
use Rattle.wording.specs.Form.{Form}
use Rattle.wording.specs.Script.{claims, declaration, declarations, assertion, further_symbols, values_asked, only_with, lines_of, ended}
use Rattle.forms.specs.Readable.{Readable}
use Rattle.forms.proofs.Decimals.{decimal_digits, decimal-bytes, decimal-spelled}
use Rattle.forms.proofs.Sexps.{sexp_by, sexp_step, term, declare_sexp, declare_chain, assert_chain, names_chain, values_chain, models_chain, end_chain, logic_chain, chain_of}

-- ---- words

-- the shapes whose text has a word
abbrev Worded : Shape → Type 0
Worded Wrong = ⊥
Worded Bare = Unit {0}
Worded Valued = ⊥
Worded Named = ⊥
Worded (One s) = Unit {0}
Worded (Two s t) = Unit {0}
Worded (Three s t u) = Unit {0}

-- such a word is a symbol that isn't reserved
abbrev word_right : Shape → List ℕ → Bool
word_right Wrong w = true
word_right Bare w = simple w && not (listed reserved_words w)
word_right Valued w = true
word_right Named w = true
word_right (One s) w = simple w && not (listed reserved_words w)
word_right (Two s t) w = simple w && not (listed reserved_words w)
word_right (Three s t u) w = simple w && not (listed reserved_words w)

word-right : (h : Shape) (w : List ℕ) → Worded h → word_right h w ≡ true → simple w && not (listed reserved_words w) ≡ true
word-right Wrong w q e = absurd q
word-right Bare w q e = e
word-right Valued w q e = absurd q
word-right Named w q e = absurd q
word-right (One s) w q e = e
word-right (Two s t) w q e = e
word-right (Three s t u) w q e = e

words_right : (k : Kind) → word_right (row k).shape (word_of k) ≡ true
unfolding same_bytes every letter_char digit_char symbol_char reserved_words
words_right = passes (λ k. word_right (row k).shape (word_of k)) refl

word-spelled : (k : Kind) → Worded (row k).shape → Spelled (symbol (word_of k))
word-spelled k q =
    let w = both (simple (word_of k)) _ (word-right (row k).shape (word_of k) q (words_right k)) in
    spelled-symbol (word_of k) w.0 (not-true _ w.1)

-- ---- lines

-- each line is the print of its s-expression; a record, so that both are found from it
record Prints (ls : List (List ℕ)) (s : Sexp) : Type 0 where
  are : joined ended ls ≡ lines s

none-printed : Prints [] nil
none-printed = record { are = refl }

line-printed : {l : List ℕ} {e : Sexp} {ls : List (List ℕ)} {s : Sexp} → l ≡ print e → Prints ls s → Prints (l ∷ ls) (cons e s)
line-printed {l} {e} {ls} p q = record { are = append_assoc l (ascii "\n") (joined ended ls) ∙ rw (p, q.are) }

-- ---- the text of a form is the print of its s-expressions
module _ {f : Form} {m : ℕ} (form : Readable f m) where
  abbrev Same : (s : Sort) → Tree s → Type 0
  Same s t = text f.constant f.symbol t ≡ print (term form t)

  printed-by : (h : Shape) (w : List ℕ) (x : Args h) → Known h → Each Same h x
      → text_by f.constant f.symbol h w (found_made (text_step f.constant f.symbol) h x) ≡ print (sexp_by form.constant f.symbol h w (found_made (sexp_step form.constant f.symbol) h x))
  printed-by Wrong w x q e = absurd q
  printed-by Bare w x q e = refl
  printed-by Valued w x q e = form.literals x
  printed-by Named w x q e = refl
  printed-by (One s) w x q e = rw e
  printed-by (Two s t) w x q e = rw (e.0, e.1)
  printed-by (Three s t u) w x q e = rw (e.0, e.1, e.2)

  -- of a tree
  pub text-printed : {s : Sort} (t : Tree s) → text f.constant f.symbol t ≡ print (term form t)
  text-printed t =
      by_rows Same
      (λ k q x e. rw (found-make k q x (text_step f.constant f.symbol), found-make k q x (sexp_step form.constant f.symbol)) (printed-by (row k).shape (word_of k) x q e)) t

  -- of each line
  declaration-printed : (i : ℕ) → declaration f i ≡ print (declare_sexp form i)
  declaration-printed i =
      let ds = map digit_byte (decimal_digits f.width) in
      ap (λ (l : List ℕ). ascii "(declare-fun " ++ (f.symbol i ++ (ascii " () (_ BitVec " ++ l)))
      (ap (λ (l : List ℕ). l ++ ascii "))") (decimal-bytes f.width) ∙ sym (append_assoc ds (ascii ")") (ascii ")")))

  declarations-printed : (i : ℕ) (vs : List Variable) {ls : List (List ℕ)} {s : Sexp} → Prints ls s → Prints (declarations f i vs ++ ls) (declare_chain form i vs s)
  declarations-printed i [] p = p
  declarations-printed i (v ∷ vs) p = line-printed (declaration-printed i) (declarations-printed (suc i) vs p)

  assertions-printed : (ts : List (Tree Truth)) {ls : List (List ℕ)} {s : Sexp} → Prints ls s → Prints (map (assertion f) ts ++ ls) (assert_chain form ts s)
  assertions-printed [] p = p
  assertions-printed (t ∷ ts) p = line-printed (rw (text-printed t)) (assertions-printed ts p)

  -- the symbols in a list that ends a line
  symbol-printed : (i : ℕ) {t : List ℕ} (u : List ℕ) → t ≡ u ++ ascii ")" → f.symbol i ++ t ≡ (f.symbol i ++ u) ++ ascii ")"
  symbol-printed i u e = ap (λ (l : List ℕ). f.symbol i ++ l) e ∙ sym (append_assoc (f.symbol i) u (ascii ")"))

  further-printed : (i : ℕ) (vs : List Variable) → further_symbols f i vs ++ ascii "))" ≡ rest (names_chain form i vs) ++ ascii ")"
  further-printed i [] = refl
  further-printed i (v ∷ vs) =
      let more = symbol-printed i (rest (names_chain form (suc i) vs)) (further-printed (suc i) vs) in
      ap (λ (l : List ℕ). 32 ∷ l) (append_assoc (f.symbol i) (further_symbols f (suc i) vs) (ascii "))") ∙ more)

  values-printed : (vs : List Variable) {ls : List (List ℕ)} {s : Sexp} → Prints ls s → Prints (values_asked f vs ++ ls) (values_chain form vs s)
  values-printed [] p = p
  values-printed (v ∷ vs) p = line-printed (ap (λ (l : List ℕ). ascii "(get-value (" ++ l) (symbol-printed 0 (rest (names_chain form 1 vs)) (further-printed 1 vs))) p

  -- with models or without
  models-printed : (more : List (List ℕ)) (before : Sexp → Sexp) {ls : List (List ℕ)} {s : Sexp} → Prints ls s → Prints (more ++ ls) (before s) → Prints (only_with f.models more ++ ls) (models_chain form before s)
  models-printed more before {ls} {s} p q = by f.models
    where
      by : (b : Bool) → Prints (only_with b more ++ ls) (elim b [ true ↦ before s | false ↦ s ])
      by true = q
      by false = p

  -- of the whole
  pub lines-printed : (r : Rule) → joined ended (lines_of f r) ≡ lines (chain_of form r)
  lines-printed r =
      let exit = line-printed refl none-printed in
      let values = models-printed (values_asked f r.variables) (values_chain form r.variables) exit (values-printed r.variables exit) in
      let claimed = assertions-printed (claims 0 r.variables r.goal) (line-printed refl values) in
      let logic = line-printed refl (declarations-printed 0 r.variables claimed) in
      let whole : Prints (lines_of f r) (chain_of form r) = models-printed (ascii "(set-option :produce-models true)" ∷ []) (cons models_option) logic (line-printed refl logic) in
      whole.are

  -- ---- all of it can be printed
  printable-by : (h : Shape) (w : List ℕ) (x : Args h) → Known h → (Worded h → Spelled (symbol w)) → Each (λ s t. Printable (term form t)) h x
      → Printable (sexp_by form.constant f.symbol h w (found_made (sexp_step form.constant f.symbol) h x))
  printable-by Wrong w x q d e = absurd q
  printable-by Bare w x q d e = d tt
  printable-by Valued w x q d e = form.constants x
  printable-by Named w x q d e = form.names x
  printable-by (One s) w x q d e = (d tt, (e, tt))
  printable-by (Two s t) w x q d e = (d tt, (e.0, (e.1, tt)))
  printable-by (Three s t u) w x q d e = (d tt, (e.0, (e.1, (e.2, tt))))

  pub printable : {s : Sort} (t : Tree s) → Printable (term form t)
  printable t =
      by_rows (λ s t. Printable (term form t))
      (λ k q x e. rw (found-make k q x (sexp_step form.constant f.symbol)) (printable-by (row k).shape (word_of k) x q (word-spelled k) e)) t

  names-listing : (i : ℕ) (vs : List Variable) → Listing (names_chain form i vs)
  names-listing i [] = tt
  names-listing i (v ∷ vs) = (form.names i, names-listing (suc i) vs)

  declares-listing : (i : ℕ) (vs : List Variable) (s : Sexp) → Listing s → Listing (declare_chain form i vs s)
  unfolding same_bytes every letter_char digit_char symbol_char reserved_words
  declares-listing i [] s h = h
  declares-listing i (v ∷ vs) s h =
      ((spelled-reserved _ refl refl, (form.names i, (tt, ((spelled-reserved _ refl refl, (spelled-symbol _ refl refl, (decimal-spelled f.width form.texts.some_bits, tt))), tt)))), declares-listing (suc i) vs s h)

  asserts-listing : (ts : List (Tree Truth)) (s : Sexp) → Listing s → Listing (assert_chain form ts s)
  unfolding same_bytes every letter_char digit_char symbol_char reserved_words
  asserts-listing [] s h = h
  asserts-listing (t ∷ ts) s h = ((spelled-reserved _ refl refl, (printable t, tt)), asserts-listing ts s h)

  values-listing : (vs : List Variable) (s : Sexp) → Listing s → Listing (values_chain form vs s)
  unfolding same_bytes every letter_char digit_char symbol_char reserved_words
  values-listing [] s h = h
  values-listing (v ∷ vs) s h = ((spelled-reserved _ refl refl, (names-listing 0 (v ∷ vs), tt)), h)

  models-listing : (before : Sexp → Sexp) (s : Sexp) → Listing s → Listing (before s) → Listing (models_chain form before s)
  models-listing before s h k = by f.models
    where
      by : (b : Bool) → Listing (elim b [ true ↦ before s | false ↦ s ])
      by true = k
      by false = h

  pub chain-listing : (r : Rule) → Listing (chain_of form r)
  unfolding same_bytes every letter_char digit_char symbol_char reserved_words
  chain-listing r =
      let exit : Listing (cons (cons (word (ascii "exit")) nil) nil) = ((spelled-reserved _ refl refl, tt), tt) in
      let values = models-listing (values_chain form r.variables) _ exit (values-listing r.variables _ exit) in
      let claimed = asserts-listing (claims 0 r.variables r.goal) (end_chain form r.variables) ((spelled-reserved _ refl refl, tt), values) in
      let logic : Listing (logic_chain form r) = ((spelled-reserved _ refl refl, (spelled-symbol _ refl refl, tt)), declares-listing 0 r.variables _ claimed) in
      models-listing (cons models_option) _ logic ((spelled-reserved _ refl refl, (spelled-keyword _ refl, (spelled-symbol _ refl refl, tt))), logic)
