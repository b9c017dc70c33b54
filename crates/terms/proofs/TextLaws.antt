-- The text of a node from its record, and how long it can be. Assumes nothing.
use Prim.Native.Nat.{ℕ, zero, suc, ◌+◌, ◌*◌, ◌≤◌, ◌<◌}
use mathlib.Core.Path.{◌≡◌, sym, ap, subst, ◌∙◌}
use mathlib.Core.List.{List, [], ◌++◌, append_assoc}
use mathlib.Core.Option.{none}
use native.Mathlib.Omega.{arith}
use lib.ListN.{length, length-append}
use Rattle.lists.specs.Ascii.{ascii}
use Rattle.numbers.specs.Two.{dec}
use Rattle.numbers.specs.Bytes.{word_limit}
use Rattle.numbers.proofs.Bytes16.{enc16-dec16}
use Rattle.meaning.specs.declared.Sort.{Sort}
use Rattle.kinds.specs.declared.Record.{Record}
use Rattle.kinds.specs.declared.Shape.{Shape}
use Rattle.kinds.specs.declared.Shape.TheVariants.{Wrong, Bare, Valued, Named, One, Two, Three}
use Rattle.kinds.specs.Kinds.{row}
use Rattle.layout.specs.Limits.{most_variables, most_nodes}
use Rattle.layout.specs.Starts.{shape_at, operands_of, start_by, start_at, Ordered, VariableBelow}
use Rattle.layout.specs.Parts.{node_count, variable_count, table}
use Rattle.layout.specs.LaidOut.{Placed}
use Rattle.layout.specs.Fold.{found_by}
use Rattle.layout.proofs.StartLaws.{Before, lower, start_is}
use Rattle.layout.proofs.FoldLaws.{node-is}
use Rattle.reading.specs.Cascade.{refusal_of}
use Rattle.reading.proofs.RuleLaws.{accepted-counted, accepted-sound}
use Rattle.wording.specs.Words.{word_of}
use Rattle.wording.specs.Text.{call1, call2, call3, text_by, text_step}
use Rattle.wording.specs.Sixteen.{hex_text, literal, symbol_text}
use Rattle.room.specs.Room.{Wrote}
use Rattle.room.proofs.RoomLaws.{chain}
use Rattle.pieces.specs.Sizes.{longest_word}
use Rattle.pieces.proofs.WordLaws.{word-short}
use Rattle.pieces.proofs.PieceLaws.{symbol-short, literal-length}
use Rattle.reading.specs.Accepts.{AcceptedNode}
use Rattle.terms.specs.Texts.{text_at, one_open, two_open, three_open, call_bytes, leaf_bytes, bytes_per_node, longest_text}

-- ---- lengths
length-1 : (w a : List ℕ) → length (call1 w a) ≡ call_bytes 1 + length w + length a
length-1 w a = simp length-append (omega arith)

length-2 : (w a b : List ℕ) → length (call2 w a b) ≡ call_bytes 2 + length w + length a + length b
length-2 w a b = simp length-append (omega arith)

length-3 : (w a b c : List ℕ) → length (call3 w a b c) ≡ call_bytes 3 + length w + length a + length b + length c
length-3 w a b c = simp length-append (omega arith)

-- ---- the text up to the closing parenthesis, and that one
open-1 : (w a : List ℕ) → length (ascii "(" ++ w ++ (ascii " " ++ a)) + 1 ≡ call_bytes 1 + length w + length a
open-1 w a = simp length-append (omega arith)

open-2 : (w a b : List ℕ) → length (ascii "(" ++ w ++ (ascii " " ++ a) ++ (ascii " " ++ b)) + 1 ≡ call_bytes 2 + length w + length a + length b
open-2 w a b = simp length-append (omega arith)

open-3 : (w a b c : List ℕ) → length (ascii "(" ++ w ++ (ascii " " ++ a) ++ (ascii " " ++ b) ++ (ascii " " ++ c)) + 1 ≡ call_bytes 3 + length w + length a + length b + length c
open-3 w a b c = simp length-append (omega arith)

flat : (x w y a z b e : List ℕ) → x ++ w ++ (y ++ a) ++ (z ++ b) ++ e ≡ x ++ (w ++ (y ++ (a ++ (z ++ (b ++ e)))))
flat x w y a z b e = simp append_assoc

closed-1 : (w a : List ℕ) → ascii "(" ++ w ++ (ascii " " ++ a) ++ ascii ")" ≡ call1 w a
closed-1 w a = simp append_assoc

closed-2 : (w a b : List ℕ) → ascii "(" ++ w ++ (ascii " " ++ a) ++ (ascii " " ++ b) ++ ascii ")" ≡ call2 w a b
closed-2 w a b = flat (ascii "(") w (ascii " ") a (ascii " ") b (ascii ")")

closed-3 : (w a b c : List ℕ) → ascii "(" ++ w ++ (ascii " " ++ a) ++ (ascii " " ++ b) ++ (ascii " " ++ c) ++ ascii ")" ≡ call3 w a b c
closed-3 w a b c =
    append_assoc (ascii "(" ++ w ++ (ascii " " ++ a) ++ (ascii " " ++ b)) (ascii " " ++ c) (ascii ")") ∙ flat (ascii "(") w (ascii " ") a (ascii " ") b (ascii " " ++ (c ++ ascii ")"))

-- an operand more
pub wrote-more : {p t r₀ r₁ r₂ : List ℕ} {q r : ℕ} → length (p ++ t) ≤ length r₀ → Wrote p r₀ r₁ 0 q → Wrote t r₁ r₂ q r → Wrote (p ++ t) r₀ r₂ 0 r
wrote-more {p} {t} h x y = chain (omega (arith, length-append p t)) x y

-- the text of a node of shape h with the record r and the word w, where g has the texts of the nodes
abbrev by_shape : (h : Shape) → List ℕ → Record → (ℕ → List ℕ) → List ℕ
by_shape h w r g = text_by literal symbol_text h w (found_by h r g)

-- so many bytes for each node of the subtree, but for the last, a leaf
bound : (h : Shape) (r : Record) (w : List ℕ) (n : ℕ) (g : ℕ → List ℕ) (st : ℕ → ℕ) → length w ≤ longest_word → Ordered st n (operands_of h r) → Before n (operands_of h r)
    → ((j : ℕ) → j < n → length (g j) + bytes_per_node * st j ≤ bytes_per_node * j + leaf_bytes) → length (by_shape h w r g) + bytes_per_node * start_by h r n st ≤ bytes_per_node * n + leaf_bytes
bound Wrong r w n g st l o b all = omega arith
bound Bare r w n g st l o b all = omega arith
bound Valued r w n g st l o b all = omega (arith, literal-length (dec 16 r.value))
bound Named r w n g st l o b all = omega (arith, symbol-short r.a)
bound (One s) r w n g st l o b all = omega (arith, length-1 w (g r.a), all r.a b.0)
bound (Two s t) r w n g st l o b all = omega (arith, length-2 w (g r.a) (g r.b), all r.a b.1.0, all r.b b.0)
bound (Three s t u) r w n g st l o b all =
    omega (arith, length-3 w (g r.a) (g r.b) (g r.c), all r.a b.1.1.0, all r.b b.1.0, all r.c b.0)

-- ---- nodes by the number of their operands: the text and its length, and that the operands are nodes of lower numbers
pub record OneNode (s : List ℕ) (n : ℕ) (r : Record) : Type 0 where
  pub before_end : length (one_open s r) + 1 ≡ length (text_at s n)
  pub closed : one_open s r ++ ascii ")" ≡ text_at s n
  pub size : length (text_at s n) ≡ call_bytes 1 + length (word_of r.kind) + length (text_at s r.a)
  pub short : length (text_at s n) ≤ longest_text
  pub first : r.a < node_count s
  pub low : r.a < n

pub record TwoNode (s : List ℕ) (n : ℕ) (r : Record) : Type 0 where
  pub before_end : length (two_open s r) + 1 ≡ length (text_at s n)
  pub closed : two_open s r ++ ascii ")" ≡ text_at s n
  pub size : length (text_at s n) ≡ call_bytes 2 + length (word_of r.kind) + length (text_at s r.a) + length (text_at s r.b)
  pub short : length (text_at s n) ≤ longest_text
  pub first : r.a < node_count s
  pub second : r.b < node_count s
  pub low : r.a < n
  pub low₂ : r.b < n

pub record ThreeNode (s : List ℕ) (n : ℕ) (r : Record) : Type 0 where
  pub before_end : length (three_open s r) + 1 ≡ length (text_at s n)
  pub closed : three_open s r ++ ascii ")" ≡ text_at s n
  pub size : length (text_at s n) ≡ call_bytes 3 + length (word_of r.kind) + length (text_at s r.a) + length (text_at s r.b) + length (text_at s r.c)
  pub short : length (text_at s n) ≤ longest_text
  pub first : r.a < node_count s
  pub second : r.b < node_count s
  pub third : r.c < node_count s
  pub low : r.a < n
  pub low₂ : r.b < n
  pub low₃ : r.c < n

-- ---- a node of an accepted sheet
module _ {s : List ℕ} {n : ℕ} (ok : AcceptedNode s n) where
  placed : Placed (table s) (variable_count s) n
  placed = (accepted-sound s ok.accepted).placed n ok.below

  from-record : text_at s n ≡ by_shape (shape_at (table s n)) (word_of (table s n).kind) (table s n) (text_at s)
  unfolding text_at
  from-record = node-is (text_step literal symbol_text) [] (table s) n (lower placed)

-- ---- how long a text can be
module _ {s : List ℕ} where
  short-below : (m n : ℕ) → n < m → AcceptedNode s n → length (text_at s n) + bytes_per_node * start_at (table s) n ≤ bytes_per_node * n + leaf_bytes
  short-below zero n h ok = absurd (omega arith)
  short-below (suc m) n h ok =
      let p = placed ok in
      rw (from-record ok, start_is (table s) n (lower p))
      (bound (shape_at (table s n)) (table s n) (word_of (table s n).kind) n (text_at s) (start_at (table s)) (word-short (table s n).kind) p.ordered (lower p)
      (λ j l. short-below m j (omega arith) (record { accepted = ok.accepted; below = omega (arith, ok.below) })))

  pub text-short : {n : ℕ} → AcceptedNode s n → length (text_at s n) ≤ longest_text
  text-short {n} ok =
      let c = accepted-counted s ok.accepted in
      omega (arith, short-below (suc n) n (omega arith) ok, c.most, ok.below)

-- ---- a node by its record r and its shape h
module _ (s : List ℕ) (n : ℕ) (e : refusal_of most_nodes s ≡ none) (l : n < node_count s) {r : Record} (er : r ≡ table s n) {h : Shape} (eh : h ≡ (row r.kind).shape) where
  ok : AcceptedNode s n
  ok = record { accepted = e; below = l }

  as-shape : h ≡ shape_at (table s n)
  as-shape = eh ∙ ap shape_at er

  pub node-text : {g : Shape} → h ≡ g → text_at s n ≡ by_shape g (word_of r.kind) r (text_at s)
  node-text eg = rw (sym eg ∙ as-shape, er) (from-record ok)

  pub operands-before : {g : Shape} → h ≡ g → Before n (operands_of g r)
  operands-before eg = rw (sym eg ∙ as-shape, er) (lower (placed ok))

  -- a constant's text, by the record's 16 bits
  pub valued-text : r.value < word_limit → h ≡ Valued → hex_text r.value ≡ text_at s n
  unfolding literal
  valued-text w eg = sym (node-text eg ∙ ap hex_text (enc16-dec16 w))

  -- a variable's number
  pub named_small : h ≡ Named → r.a < most_variables
  named_small eg =
      let listed : (table s n).a < variable_count s = subst (λ (g : Shape). VariableBelow g (table s n) (variable_count s)) (sym as-shape ∙ eg) (placed ok).listed in
      omega (arith, ap (λ (x : Record). x.a) er, (accepted-counted s e).few)

  -- nodes with operands
  lower-below : {a : ℕ} → a < n → a < node_count s
  lower-below b = omega (arith, b, l)

  pub one-node : {t : Sort} → h ≡ One t → OneNode s n r
  one-node eg =
      let b = operands-before eg in
      let size = ap length (node-text eg) ∙ length-1 (word_of r.kind) (text_at s r.a) in
      record {
        before_end = open-1 (word_of r.kind) (text_at s r.a) ∙ sym size;
        closed = closed-1 (word_of r.kind) (text_at s r.a) ∙ sym (node-text eg);
        size = size;
        short = text-short ok;
        first = lower-below b.0;
        low = b.0;
      }

  pub two-node : {t u : Sort} → h ≡ Two t u → TwoNode s n r
  two-node eg =
      let b = operands-before eg in
      let size = ap length (node-text eg) ∙ length-2 (word_of r.kind) (text_at s r.a) (text_at s r.b) in
      record {
        before_end = open-2 (word_of r.kind) (text_at s r.a) (text_at s r.b) ∙ sym size;
        closed = closed-2 (word_of r.kind) (text_at s r.a) (text_at s r.b) ∙ sym (node-text eg);
        size = size;
        short = text-short ok;
        first = lower-below b.1.0;
        second = lower-below b.0;
        low = b.1.0;
        low₂ = b.0;
      }

  pub three-node : {t u v : Sort} → h ≡ Three t u v → ThreeNode s n r
  three-node eg =
      let b = operands-before eg in
      let size = ap length (node-text eg) ∙ length-3 (word_of r.kind) (text_at s r.a) (text_at s r.b) (text_at s r.c) in
      record {
        before_end = open-3 (word_of r.kind) (text_at s r.a) (text_at s r.b) (text_at s r.c) ∙ sym size;
        closed = closed-3 (word_of r.kind) (text_at s r.a) (text_at s r.b) (text_at s r.c) ∙ sym (node-text eg);
        size = size;
        short = text-short ok;
        first = lower-below b.1.1.0;
        second = lower-below b.1.0;
        third = lower-below b.0;
        low = b.1.1.0;
        low₂ = b.1.0;
        low₃ = b.0;
      }
