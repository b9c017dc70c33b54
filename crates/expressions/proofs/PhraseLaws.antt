-- The text of a node from its record, and how long it is. Assumes nothing.
use Prim.Native.Nat.{ℕ, zero, suc, ◌+◌, ◌*◌, ◌≤◌, ◌<◌}
use mathlib.Core.Path.{◌≡◌, refl, sym, ap, subst, ◌∙◌}
use mathlib.Core.List.{List, [], ◌++◌, append_assoc}
use mathlib.Core.Option.{none}
use native.Mathlib.Numerals.{add-one}
use native.Mathlib.Omega.{arith}
use lib.ListN.{length, length-append}
use Rattle.lists.specs.Ascii.{ascii}
use Rattle.meaning.specs.declared.Sort.{Sort}
use Rattle.meaning.specs.Rule.{Variable}
use Rattle.kinds.specs.declared.Record.{Record}
use Rattle.kinds.specs.declared.Shape.{Shape}
use Rattle.kinds.specs.declared.Shape.TheVariants.{Wrong, Bare, Valued, Named, One, Two, Three}
use Rattle.kinds.specs.Kinds.{row}
use Rattle.kinds.specs.Rows.{Known}
use Rattle.layout.specs.Limits.{most_name_bytes, most_nodes}
use Rattle.layout.specs.Starts.{shape_at, operands_of, start_by, start_at, Ordered, VariableBelow}
use Rattle.layout.specs.Parts.{node_count, variable_count, variable_at, table}
use Rattle.layout.specs.LaidOut.{Placed}
use Rattle.layout.specs.Fold.{found_by}
use Rattle.layout.proofs.StartLaws.{Before, lower, start_is}
use Rattle.layout.proofs.FoldLaws.{node-is}
use Rattle.layout.proofs.PartLaws.{variable-is}
use Rattle.reading.specs.Cascade.{refusal_of}
use Rattle.reading.proofs.RuleLaws.{accepted-sound}
use Rattle.room.specs.Room.{Wrote}
use Rattle.room.proofs.RoomLaws.{wrote_as, chain}
use Rattle.spelling.proofs.WordLaws.{plain-short}
use Rattle.spelling.proofs.NumberLaws.{value-short}
use Rattle.reading.specs.Accepts.{AcceptedNode}
use Rattle.expressions.specs.Phrases.{call1, call2, call3, phrase_by, phrase_step, word_by, sheet_names, phrase_at, word_at, words_bytes}
use Rattle.expressions.proofs.NameLaws.{name-short}

-- ---- lengths
pub length-1 : (w a : List ℕ) → length (call1 w a) ≡ length w + 1 + length a
length-1 w a = simp length-append (omega arith)

pub length-2 : (w a b : List ℕ) → length (call2 w a b) ≡ length w + 2 + length a + length b
length-2 w a b = simp length-append (omega arith)

pub length-3 : (w a b c : List ℕ) → length (call3 w a b c) ≡ length w + 3 + length a + length b + length c
length-3 w a b c = simp length-append (omega arith)

-- ---- a node's text from its pieces
pub wrote_one : {w a r₀ r₁ r₂ : List ℕ} {p q : ℕ} → length (call1 w a) ≤ length r₀ → Wrote w r₀ r₁ 0 p → Wrote (ascii " " ++ a) r₁ r₂ p q → Wrote (call1 w a) r₀ r₂ 0 q
wrote_one {w} {a} h x y = chain (omega (arith, length-1 w a)) x y

pub wrote-two : (w a b : List ℕ) {r₀ r₁ r₂ : List ℕ} {p q : ℕ} → length (call2 w a b) ≤ length r₀ → Wrote (call1 w a) r₀ r₁ 0 p → Wrote (ascii " " ++ b) r₁ r₂ p q → Wrote (call2 w a b) r₀ r₂ 0 q
wrote-two w a b h x y = wrote_as (chain (omega (arith, length-1 w a, length-2 w a b)) x y) (simp append_assoc)

pub wrote-three : (w a b c : List ℕ) {r₀ r₁ r₂ : List ℕ} {p q : ℕ} → length (call3 w a b c) ≤ length r₀ → Wrote (call2 w a b) r₀ r₁ 0 p → Wrote (ascii " " ++ c) r₁ r₂ p q → Wrote (call3 w a b c) r₀ r₂ 0 q
wrote-three w a b c h x y = wrote_as (chain (omega (arith, length-2 w a b, length-3 w a b c)) x y) (simp append_assoc)

-- the text of a node of shape h with the record r, where g has the texts of the nodes
abbrev pub by_shape : List ℕ → (h : Shape) → Record → (ℕ → List ℕ) → List ℕ
by_shape s h r g = phrase_by (sheet_names s) h (row r.kind).plain (found_by h r g)

-- ---- a node of an accepted sheet
module _ {s : List ℕ} {n : ℕ} (ok : AcceptedNode s n) where
  pub placed : Placed (table s) (variable_count s) n
  placed = (accepted-sound s ok.accepted).placed n ok.below

  pub from-record : phrase_at s n ≡ by_shape s (shape_at (table s n)) (table s n) (phrase_at s)
  unfolding phrase_at
  from-record = node-is (phrase_step (sheet_names s)) [] (table s) n (lower placed)

-- ---- the text has the words of its subtree, each with a separator: but for the last

-- w has the bytes of all words below a node, st where a subtree starts
counts : (s : List ℕ) (h : Shape) (r : Record) (n : ℕ) (g : ℕ → List ℕ) (st w : ℕ → ℕ) → Ordered st n (operands_of h r) → Before n (operands_of h r)
    → ((j : ℕ) → j < n → length (g j) + 1 + w (st j) ≡ w (j + 1)) → length (by_shape s h r g) + 1 + w (start_by h r n st) ≡ w n + (length (word_by (sheet_names s) h r) + 1)
counts s Wrong r n g st w o b all = omega arith
counts s Bare r n g st w o b all = omega arith
counts s Valued r n g st w o b all = omega arith
counts s Named r n g st w o b all = omega arith
counts s (One x) r n g st w o b all = omega (arith, length-1 (row r.kind).plain (g r.a), all r.a b.0, ap w o.0)
counts s (Two x y) r n g st w o b all = omega (arith, length-2 (row r.kind).plain (g r.a) (g r.b), all r.a b.1.0, all r.b b.0, ap w o.0, ap w o.1.0)
counts s (Three x y z) r n g st w o b all =
    omega (arith, length-3 (row r.kind).plain (g r.a) (g r.b) (g r.c), all r.a b.1.1.0, all r.b b.1.0, all r.c b.0, ap w o.0, ap w o.1.0, ap w o.1.1.0)

pub words-none : (s : List ℕ) → words_bytes s 0 ≡ 0
unfolding words_bytes
words-none s = refl

pub words_more : (s : List ℕ) (n : ℕ) → words_bytes s (n + 1) ≡ words_bytes s n + (length (word_at s n) + 1)
unfolding words_bytes
words_more s n = rw (add-one n)

module _ {s : List ℕ} where
  counts-below : (m n : ℕ) → n < m → AcceptedNode s n → length (phrase_at s n) + 1 + words_bytes s (start_at (table s) n) ≡ words_bytes s (n + 1)
  unfolding word_at
  counts-below zero n h ok = absurd (omega arith)
  counts-below (suc m) n h ok =
      let p = placed ok in
      rw (from-record ok, start_is (table s) n (lower p), words_more s n)
      (counts s (shape_at (table s n)) (table s n) n (phrase_at s) (start_at (table s)) (words_bytes s) p.ordered (lower p)
      (λ j l. counts-below m j (omega arith) (record { accepted = ok.accepted; below = omega (arith, ok.below) })))

  pub phrase-length : {n : ℕ} → AcceptedNode s n → length (phrase_at s n) + 1 + words_bytes s (start_at (table s) n) ≡ words_bytes s (n + 1)
  phrase-length {n} ok = counts-below (suc n) n (omega arith) ok

-- ---- how long words can be
module _ {s : List ℕ} {n : ℕ} (ok : AcceptedNode s n) where
  short-by : (h : Shape) → VariableBelow h (table s n) (variable_count s) → length (word_by (sheet_names s) h (table s n)) ≤ most_name_bytes
  short-by Wrong l = omega (arith, plain-short (table s n).kind)
  short-by Bare l = omega (arith, plain-short (table s n).kind)
  short-by Valued l = omega (arith, value-short (table s n).value)
  short-by Named l = omega (arith, ap (λ (v : Variable). length v.name) (variable-is s (table s n).a l), name-short s (table s n).a ok.accepted l)
  short-by (One x) l = omega (arith, plain-short (table s n).kind)
  short-by (Two x y) l = omega (arith, plain-short (table s n).kind)
  short-by (Three x y z) l = omega (arith, plain-short (table s n).kind)

  pub word-short : length (word_at s n) ≤ most_name_bytes
  unfolding word_at
  word-short = short-by (shape_at (table s n)) (placed ok).listed

pub words-short : (s : List ℕ) → refusal_of most_nodes s ≡ none → (n : ℕ) → n ≤ node_count s → words_bytes s n ≤ (most_name_bytes + 1) * n
unfolding words_bytes
words-short s e zero l = omega arith
words-short s e (suc n) l = omega (arith, words-short s e n (omega arith), word-short (record { accepted = e; below = l }))

-- ---- a node by its record r and its shape h
module _ (s : List ℕ) (n : ℕ) (e : refusal_of most_nodes s ≡ none) (l : n < node_count s) {r : Record} (er : r ≡ table s n) {h : Shape} (eh : h ≡ (row r.kind).shape) where
  ok : AcceptedNode s n
  ok = record { accepted = e; below = l }

  as-shape : h ≡ shape_at (table s n)
  as-shape = eh ∙ ap shape_at er

  pub node-text : {g : Shape} → h ≡ g → phrase_at s n ≡ by_shape s g r (phrase_at s)
  node-text eg = rw (sym eg ∙ as-shape, er) (from-record ok)

  pub node-word : {g : Shape} → h ≡ g → word_at s n ≡ word_by (sheet_names s) g r
  unfolding word_at
  node-word eg = rw (sym eg ∙ as-shape, er)

  -- of all but a constant and a variable, the word of the kind
  plain-by : (g : Shape) → h ≡ g → ¬ (h ≡ Valued) → ¬ (h ≡ Named) → word_at s n ≡ (row r.kind).plain
  plain-by Wrong q v w = node-word q
  plain-by Bare q v w = node-word q
  plain-by Valued q v w = absurd (v q)
  plain-by Named q v w = absurd (w q)
  plain-by (One x) q v w = node-word q
  plain-by (Two x y) q v w = node-word q
  plain-by (Three x y z) q v w = node-word q

  pub plain-word : ¬ (h ≡ Valued) → ¬ (h ≡ Named) → word_at s n ≡ (row r.kind).plain
  plain-word v w = plain-by h refl v w

  operands-before : {g : Shape} → h ≡ g → Before n (operands_of g r)
  operands-before eg = rw (sym eg ∙ as-shape, er) (lower (placed ok))

  -- its kind is known
  pub never-wrong : h ≡ Wrong → ⊥
  never-wrong eg = subst Known (sym as-shape ∙ eg) (placed ok).known

  -- its operands are nodes of the sheet
  pub one-node : {t : Sort} → h ≡ One t → (r.a < n) × (r.a < node_count s)
  one-node eg = let b = operands-before eg in (b.0, omega (arith, b.0))

  pub two-node : {t u : Sort} → h ≡ Two t u → (r.a < n) × (r.b < n) × (r.a < node_count s) × (r.b < node_count s)
  two-node eg = let b = operands-before eg in (b.1.0, b.0, omega (arith, b.1.0), omega (arith, b.0))

  pub three-node : {t u v : Sort} → h ≡ Three t u v → (r.a < n) × (r.b < n) × (r.c < n) × (r.a < node_count s) × (r.b < node_count s) × (r.c < node_count s)
  three-node eg = let b = operands-before eg in (b.1.1.0, b.1.0, b.0, omega (arith, b.1.1.0), omega (arith, b.1.0), omega (arith, b.0))

  -- a variable that it names, and that one's name
  pub named-variable : h ≡ Named → r.a < variable_count s
  named-variable eg =
      let m : (table s n).a < variable_count s = subst (λ (g : Shape). VariableBelow g (table s n) (variable_count s)) (sym as-shape ∙ eg) (placed ok).listed in
      omega (arith, ap (λ (x : Record). x.a) er)

  pub named-text : h ≡ Named → (variable_at s r.a).name ≡ phrase_at s n
  named-text eg = sym (node-text eg ∙ ap (λ (v : Variable). v.name) (variable-is s r.a (named-variable eg)))

  pub named-word : h ≡ Named → (variable_at s r.a).name ≡ word_at s n
  named-word eg = sym (node-word eg ∙ ap (λ (v : Variable). v.name) (variable-is s r.a (named-variable eg)))
