-- The script of an accepted sheet from its lines, with models or without (m), and how long it is. Assumes nothing.
use Prim.Native.Nat.{ℕ, zero, suc, ◌+◌, ◌≤◌, ◌<◌}
use mathlib.Core.Path.{◌≡◌, refl, sym, ap, ◌∙◌}
use mathlib.Core.Bool.{Bool, true, false}
use mathlib.Core.List.{List, [], ◌∷◌, ◌++◌, map, append_assoc, append-nil}
use mathlib.Core.Option.{none}
use native.Mathlib.Numerals.{add-one}
use native.Mathlib.Omega.{arith}
use lib.ListN.{length, length-append}
use Rattle.lists.specs.Ascii.{ascii}
use Rattle.lists.specs.Places.{from}
use Rattle.lists.specs.Joined.{joined, joined_below}
use Rattle.lists.proofs.RunLaws.{length_from}
use Rattle.lists.proofs.JoinedLaws.{joined-append}
use Rattle.meaning.specs.declared.Sort.TheVariants.{Truth}
use Rattle.meaning.specs.Tree.{Tree, neg}
use Rattle.meaning.specs.Rule.{Variable}
use Rattle.layout.specs.Limits.{block_bytes, most_nodes}
use Rattle.layout.specs.Fold.{of_tree}
use Rattle.layout.specs.Parts.{goal_at, node_count, variable_count, variable_at, table, rule_in}
use Rattle.layout.proofs.FoldLaws.{goal-found}
use Rattle.header.proofs.HeaderLaws.{block_inside}
use Rattle.reading.specs.Cascade.{refusal_of}
use Rattle.reading.proofs.RuleLaws.{accepted-counted, accepted-sound}
use Rattle.wording.specs.Text.{text_step, text}
use Rattle.wording.specs.Sixteen.{literal, symbol_text}
use Rattle.wording.specs.Form.{sixteen}
use Rattle.wording.specs.Script.{only_with, claims, declarations, assertion, further_symbols, values_asked, ended, script}
use Rattle.lines.specs.Lines.{declaration_line, range_line, further_symbol, values_line, get_value, values_end, LinesSize}
use Rattle.lines.proofs.LineLaws.{lines-short, values-short}
use Rattle.terms.specs.Texts.{text_at}
use Rattle.terms.proofs.TextLaws.{text-short}
use Rattle.writer.specs.Frame.{produce_models, set_logic, goal_start, goal_end, exit_line, opening_lines, goal_lines, ending_lines, goal_bytes, frame_bytes, models_bytes}
use Rattle.writer.specs.Writes.{enough_room}

-- ---- what only a script with models has
pub only-with : {m : Bool} (t : List ℕ) → m ≡ true → t ≡ only_with m t
only-with t e = rw e

pub only-without : {m : Bool} (t : List ℕ) → m ≡ false → [] ≡ only_with m t
only-without t e = rw e

only-short : (m : Bool) (t : List ℕ) → length (only_with m t) ≤ length t
only-short true t = omega arith
only-short false t = omega arith

-- lines that only a script with models has
with-models : (m : Bool) (ls : List (List ℕ)) → joined ended (only_with m ls) ≡ only_with m (joined ended ls)
with-models true ls = refl
with-models false ls = refl

-- ---- parts of a script from their pieces, and how long they are
pub opening-length : (m : Bool) (n : ℕ) → length (opening_lines m n) ≡ length (only_with m produce_models) + length set_logic + length (joined_below declaration_line n)
unfolding opening_lines
opening-length m n = simp length-append

pub opening-from : (m : Bool) (n : ℕ) → only_with m produce_models ++ set_logic ++ joined_below declaration_line n ≡ opening_lines m n
unfolding opening_lines
opening-from m n = refl

pub ending-length : (m : Bool) (n : ℕ) → length (ending_lines m n) ≡ length (only_with m (values_line n)) + length exit_line
unfolding ending_lines
ending-length m n = simp length-append

pub ending-from : (m : Bool) (n : ℕ) → only_with m (values_line n) ++ exit_line ≡ ending_lines m n
unfolding ending_lines
ending-from m n = refl

pub goal-from : (s : List ℕ) {n : ℕ} → n ≡ goal_at s → goal_start ++ (ascii " " ++ text_at s n) ++ goal_end ≡ goal_lines s
unfolding goal_lines
goal-from s e = rw e

-- ---- the script
declared-lines : (m : Bool) (i : ℕ) (vs : List Variable) → joined ended (declarations (sixteen m) i vs) ≡ joined declaration_line (from (λ (j : ℕ). j) i (length vs))
unfolding declaration_line
declared-lines m i [] = refl
declared-lines m i (v ∷ vs) = ap (λ (l : List ℕ). declaration_line i ++ l) (declared-lines m (suc i) vs)

further-text : (m : Bool) (i : ℕ) (vs : List Variable) → further_symbols (sixteen m) (suc i) vs ≡ joined further_symbol (from (λ (j : ℕ). j) i (length vs))
further-text m i [] = refl
further-text m i (v ∷ vs) =
    ap (λ (l : List ℕ). ascii " " ++ (symbol_text (suc i) ++ l)) (further-text m (suc i) vs)
    ∙ ap (λ (k : ℕ). ascii " " ++ (symbol_text k ++ joined further_symbol (from (λ (j : ℕ). j) (suc i) (length vs)))) (sym (add-one i))

flat-values : (g x f e n : List ℕ) → (g ++ (x ++ (f ++ e)) ++ n) ++ [] ≡ g ++ x ++ f ++ (e ++ n)
flat-values g x f e n = simp (append_assoc, append-nil)

values-text : (m : Bool) (vs : List Variable) → joined ended (values_asked (sixteen m) vs) ≡ values_line (length vs)
unfolding values_line joined_below
values-text m [] = refl
values-text m (v ∷ vs) =
    flat-values (ascii "(get-value (") (symbol_text 0) (further_symbols (sixteen m) 1 vs) (ascii "))") (ascii "\n")
    ∙ ap (λ (f : List ℕ). get_value ++ symbol_text 0 ++ f ++ values_end) (further-text m 0 vs)

-- the script's lines before they are joined: assertions, and those of a sheet
module _ (m : Bool) where
  abbrev asserted : Tree Truth → List ℕ
  asserted t = assertion (sixteen m) t

  abbrev optioned : List (List ℕ)
  optioned = only_with m (ascii "(set-option :produce-models true)" ∷ [])

  abbrev declared : List ℕ → List (List ℕ)
  declared s = declarations (sixteen m) 0 (rule_in s).variables

  abbrev claimed : List ℕ → List (List ℕ)
  claimed s = map asserted (claims 0 (rule_in s).variables (rule_in s).goal)

  abbrev asked : List ℕ → List (List ℕ)
  asked s = only_with m (values_asked (sixteen m) (rule_in s).variables)

  abbrev negated : List ℕ → List ℕ
  negated s = ended (asserted (neg (rule_in s).goal))

  module _ (s : List ℕ) (goal : Tree Truth) where
    ranged-lines : (i k : ℕ) → joined ended (map asserted (claims i (from (variable_at s) i k) goal)) ≡ joined (range_line s) (from (λ (j : ℕ). j) i k) ++ ended (asserted (neg goal))
    unfolding range_line
    ranged-lines i zero = append-nil _
    ranged-lines i (suc k) =
        ap (λ (l : List ℕ). range_line s i ++ l) (ranged-lines (suc i) k)
        ∙ sym (append_assoc (range_line s i) (joined (range_line s) (from (λ (j : ℕ). j) (suc i) k)) (ended (asserted (neg goal))))

-- the parts in order: o, d, w and r ++ n are the lines of a, x, z and y
assembled : (a x y z : List (List ℕ)) (l c k : List ℕ) {o d w g : List ℕ} (r n : List ℕ) → joined ended a ≡ o → joined ended x ≡ d → joined ended y ≡ r ++ n → joined ended z ≡ w → n ++ ended c ≡ g
    → o ++ ended l ++ d ++ r ++ g ++ (w ++ ended k) ≡ joined ended (a ++ (l ∷ (x ++ (y ++ (c ∷ (z ++ (k ∷ [])))))))
assembled a x y z l c k r n p q u v e =
    rw (joined-append ended a (l ∷ (x ++ (y ++ (c ∷ (z ++ (k ∷ [])))))), joined-append ended x (y ++ (c ∷ (z ++ (k ∷ [])))), joined-append ended y (c ∷ (z ++ (k ∷ []))), joined-append ended z (k ∷ []), p, q, u, v, ← e)
    (simp (append_assoc, append-nil))

flat-goal : (a o w b t e n z : List ℕ) → a ++ (o ++ (w ++ (b ++ (t ++ e))) ++ e) ++ n ++ z ≡ a ++ (o ++ (w ++ (b ++ (t ++ (e ++ (e ++ (n ++ z)))))))
flat-goal a o w b t e n z = simp append_assoc

-- ---- an accepted sheet
module _ (s : List ℕ) (e : refusal_of most_nodes s ≡ none) where
  goal-text : text literal symbol_text (rule_in s).goal ≡ text_at s (goal_at s)
  unfolding text_at
  goal-text = sym (goal-found (text_step literal symbol_text) [] (table s) (accepted-sound s e))

  pub goal-length : {g : ℕ} → g ≡ goal_at s → length (goal_lines s) ≡ goal_bytes + length (text_at s g)
  unfolding goal_lines
  goal-length eg = rw eg (simp length-append (omega arith))

  -- the goal is a node
  goal-below : {g : ℕ} → g ≡ goal_at s → g < node_count s
  goal-below eg = omega (arith, (accepted-counted s e).some-node)

  -- the first block is there
  pub first_block : block_bytes ≤ length s
  first_block = block_inside (accepted-counted s e)

-- its script, at 16 bits with models or without
module _ (m : Bool) (s : List ℕ) (e : refusal_of most_nodes s ≡ none) where
  goal-is : negated m s ++ ascii "(check-sat)\n" ≡ goal_lines s
  unfolding goal_lines of_tree
  goal-is =
      flat-goal (ascii "(assert ") (ascii "(") (ascii "not") (ascii " ") (text literal symbol_text (rule_in s).goal) (ascii ")") (ascii "\n") (ascii "(check-sat)\n")
      ∙ ap (λ (t : List ℕ). ascii "(assert (not " ++ (t ++ ascii "))\n(check-sat)\n")) (goal-text s e)

  declarations-are : joined ended (declared m s) ≡ joined_below declaration_line (variable_count s)
  unfolding joined_below
  declarations-are = declared-lines m 0 (rule_in s).variables ∙ ap (λ (n : ℕ). joined declaration_line (from (λ (j : ℕ). j) 0 n)) (length_from (variable_at s) 0 (variable_count s))

  ranges-are : joined ended (claimed m s) ≡ joined_below (range_line s) (variable_count s) ++ negated m s
  unfolding joined_below
  ranges-are = ranged-lines m s (rule_in s).goal 0 (variable_count s)

  values-are : joined ended (asked m s) ≡ only_with m (values_line (variable_count s))
  values-are =
      with-models m (values_asked (sixteen m) (rule_in s).variables)
      ∙ ap (only_with m) (values-text m (rule_in s).variables ∙ ap values_line (length_from (variable_at s) 0 (variable_count s)))

  -- the parts in order
  script-is : opening_lines m (variable_count s) ++ joined_below (range_line s) (variable_count s) ++ goal_lines s ++ ending_lines m (variable_count s) ≡ script (sixteen m) (rule_in s)
  unfolding script opening_lines ending_lines
  script-is = assembled (optioned m) (declared m s) (claimed m s) (asked m s) (ascii "(set-logic QF_UFBV)") (ascii "(check-sat)") (ascii "(exit)") (joined_below (range_line s) (variable_count s)) (negated m s) (with-models m (ascii "(set-option :produce-models true)" ∷ [])) declarations-are ranges-are values-are goal-is

  module _ {b : List ℕ} (eb : b ≡ s) {v : ℕ} (ev : v ≡ variable_count s) where
    pub script-from : opening_lines m v ++ joined_below (range_line b) v ++ goal_lines s ++ ending_lines m v ≡ script (sixteen m) (rule_in s)
    script-from = rw (eb, ev) script-is

    pub script-parts : length (script (sixteen m) (rule_in s)) ≡ length (opening_lines m v) + length (joined_below (range_line b) v) + length (goal_lines s) + length (ending_lines m v)
    script-parts = ap length (sym script-from) ∙ simp length-append (omega arith)

  pub script-length : {v size g : ℕ} → v ≡ variable_count s → LinesSize v size → g ≡ goal_at s → length (script (sixteen m) (rule_in s)) ≡ size + length (text_at s g) + frame_bytes + models_bytes m v
  script-length {v} ev l eg = omega (arith, script-parts refl ev, opening-length m v, goal-length s e eg, ending-length m v, l.of s)

  pub script-short : length (script (sixteen m) (rule_in s)) ≤ enough_room
  script-short =
      let c = accepted-counted s e in
      let v = variable_count s in
      omega (arith, script-parts refl refl, opening-length m v, goal-length s e refl, ending-length m v, only-short m produce_models, only-short m (values_line v), lines-short s v, values-short v, text-short (record { accepted = e; below = goal-below s e refl }), c.few)
