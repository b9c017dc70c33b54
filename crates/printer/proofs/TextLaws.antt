-- The text of an accepted sheet from its lines, and how long it is. Assumes nothing.
use Prim.Native.Nat.{ℕ, zero, suc, ◌+◌}
use mathlib.Core.Path.{◌≡◌, refl, sym, ap, ◌∙◌}
use mathlib.Core.List.{List, [], ◌++◌, append_assoc}
use mathlib.Core.Option.{none}
use native.Mathlib.Omega.{arith}
use lib.ListN.{length, length-append}
use Rattle.lists.specs.Ascii.{ascii}
use Rattle.lists.specs.Places.{from}
use Rattle.lists.specs.Joined.{joined, joined_below}
use Rattle.meaning.specs.declared.Sort.{Sort}
use Rattle.meaning.specs.Tree.{Tree}
use Rattle.meaning.specs.Rule.{Variable}
use Rattle.layout.specs.Limits.{most_nodes}
use Rattle.layout.specs.Fold.{of_tree}
use Rattle.layout.specs.Starts.{start_at}
use Rattle.layout.specs.Parts.{node_count, goal_at, variable_count, variable_at, table, rule_in}
use Rattle.layout.proofs.FoldLaws.{goal-found}
use Rattle.reading.specs.Cascade.{refusal_of}
use Rattle.reading.proofs.RuleLaws.{accepted-counted, accepted-sound}
use Rattle.texts.specs.Expressions.{expression_of}
use Rattle.texts.specs.Plain.{name_of, spelled, variable_line, printed, text_of}
use Rattle.reading.specs.Accepts.{AcceptedNode}
use Rattle.expressions.specs.Phrases.{phrase_step, sheet_names, phrase_at, words_bytes}
use Rattle.printer.specs.Lines.{line_at, goal_text}
use Rattle.expressions.proofs.PhraseLaws.{phrase-length, words-none}

-- ---- an expression's words, step by step over the tree
spelled-tree : (vs : List Variable) {x : Sort} (t : Tree x) → spelled vs (expression_of t) ≡ of_tree (phrase_step (name_of vs)) t
unfolding spelled of_tree
spelled-tree vs Tree.tru = refl
spelled-tree vs Tree.fls = refl
spelled-tree vs (Tree.neg a) = rw (spelled-tree vs a)
spelled-tree vs (Tree.conj a b) = rw (spelled-tree vs a, spelled-tree vs b)
spelled-tree vs (Tree.disj a b) = rw (spelled-tree vs a, spelled-tree vs b)
spelled-tree vs (Tree.implies a b) = rw (spelled-tree vs a, spelled-tree vs b)
spelled-tree vs (Tree.iff a b) = rw (spelled-tree vs a, spelled-tree vs b)
spelled-tree vs (Tree.equal a b) = rw (spelled-tree vs a, spelled-tree vs b)
spelled-tree vs (Tree.less a b) = rw (spelled-tree vs a, spelled-tree vs b)
spelled-tree vs (Tree.at_most a b) = rw (spelled-tree vs a, spelled-tree vs b)
spelled-tree vs (Tree.const z) = refl
spelled-tree vs (Tree.var i) = refl
spelled-tree vs (Tree.minus a) = rw (spelled-tree vs a)
spelled-tree vs (Tree.sum a b) = rw (spelled-tree vs a, spelled-tree vs b)
spelled-tree vs (Tree.difference a b) = rw (spelled-tree vs a, spelled-tree vs b)
spelled-tree vs (Tree.product a b) = rw (spelled-tree vs a, spelled-tree vs b)
spelled-tree vs (Tree.ite a b c) = rw (spelled-tree vs a, spelled-tree vs b, spelled-tree vs c)

-- ---- the lines of variables by their numbers
lines_are : (s : List ℕ) (i k : ℕ) → joined (line_at s) (from (λ (j : ℕ). j) i k) ≡ joined variable_line (from (variable_at s) i k)
unfolding line_at
lines_are s i zero = refl
lines_are s i (suc k) = ap (λ (l : List ℕ). line_at s i ++ l) (lines_are s (suc i) k)

flat : (l g b p e : List ℕ) → l ++ (g ++ (b ++ p) ++ e) ≡ l ++ ((g ++ b) ++ (p ++ e))
flat l g b p e = simp append_assoc

-- ---- an accepted sheet
module _ (s : List ℕ) (e : refusal_of most_nodes s ≡ none) where
  -- the goal's node
  pub goal-ready : {n : ℕ} → n ≡ goal_at s → AcceptedNode s n
  goal-ready g = record { accepted = e; below = omega (arith, (accepted-counted s e).some-node) }

  goal-phrase : phrase_at s (goal_at s) ≡ spelled (rule_in s).variables (expression_of (rule_in s).goal)
  unfolding phrase_at
  goal-phrase = goal-found (phrase_step (sheet_names s)) [] (table s) (accepted-sound s e) ∙ sym (spelled-tree (rule_in s).variables (rule_in s).goal)

  pub goal-from : {n : ℕ} → n ≡ goal_at s → ascii "goal" ++ (ascii " " ++ phrase_at s n) ++ ascii "\n" ≡ goal_text s
  unfolding goal_text
  goal-from g = rw g

  pub goal-length : length (goal_text s) ≡ 6 + length (phrase_at s (goal_at s))
  unfolding goal_text
  goal-length = simp length-append (omega arith)

  text-is : joined_below (line_at s) (variable_count s) ++ goal_text s ≡ text_of (rule_in s)
  unfolding joined_below goal_text printed
  text-is = rw (lines_are s 0 (variable_count s), goal-phrase) (flat (joined variable_line (rule_in s).variables) (ascii "goal") (ascii " ") (spelled (rule_in s).variables (expression_of (rule_in s).goal)) (ascii "\n"))

  module _ {v : ℕ} (ev : v ≡ variable_count s) where
    pub text-from : joined_below (line_at s) v ++ goal_text s ≡ text_of (rule_in s)
    text-from = rw ev text-is

    pub text-parts : length (text_of (rule_in s)) ≡ length (joined_below (line_at s) v) + length (goal_text s)
    text-parts = ap length (sym text-from) ∙ length-append (joined_below (line_at s) v) (goal_text s)

    -- by the words, each with what stands behind it
    pub text-length : {n : ℕ} → n ≡ node_count s → length (text_of (rule_in s)) ≡ length (joined_below (line_at s) v) + 5 + words_bytes s n
    text-length en =
        let g : goal_at s + 1 ≡ node_count s = omega (arith, (accepted-counted s e).some-node) in
        let z : words_bytes s (start_at (table s) (goal_at s)) ≡ 0 = ap (words_bytes s) (accepted-sound s e).whole ∙ words-none s in
        omega (arith, text-parts, goal-length, phrase-length (goal-ready refl), ap (words_bytes s) g, ap (words_bytes s) en)
