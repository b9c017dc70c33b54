-- Follows the code: the texts of nodes, by the sheet's records, and how long they are.
use Rattle.std.specs.Prelude.{ℕ, zero, suc, ◌+◌, ◌<◌, ◌≡◌, List, [], ◌++◌, length}
use Rattle.std.proofs.Math.Option.{none}
use Rattle.lists.specs.Ascii.{ascii}
use Rattle.numbers.specs.Two.{dec}
use Rattle.numbers.specs.Decimal.{signed}
use Rattle.kinds.specs.declared.Kind.{Kind}
use Rattle.kinds.specs.declared.Record.{Record}
use Rattle.kinds.specs.declared.Shape.{Shape}
use Rattle.kinds.specs.declared.Shape.TheVariants.{Wrong, Bare, Valued, Named, One, Two, Three}
use Rattle.kinds.specs.Kinds.{row}
use Rattle.layout.specs.Limits.{most_nodes}
use Rattle.layout.specs.Starts.{shape_at}
use Rattle.layout.specs.Fold.{Found, of_node}
use Rattle.layout.specs.Parts.{node_count, table, rule_in}
use Rattle.reading.specs.Cascade.{refusal_of}
use Rattle.texts.specs.Plain.{name_of}

-- ---- nodes

-- a node's word, and a blank and a text behind it for each operand
abbrev pub call1 : List ℕ → List ℕ → List ℕ
call1 w a = w ++ (ascii " " ++ a)

abbrev pub call2 : List ℕ → List ℕ → List ℕ → List ℕ
call2 w a b = w ++ (ascii " " ++ (a ++ (ascii " " ++ b)))

abbrev pub call3 : List ℕ → List ℕ → List ℕ → List ℕ → List ℕ
call3 w a b c = w ++ (ascii " " ++ (a ++ (ascii " " ++ (b ++ (ascii " " ++ c)))))

-- the text of a node from its kind's word and those of its operands; names has the variables' names
module _ (names : ℕ → List ℕ) where
  abbrev pub phrase_by : (h : Shape) → List ℕ → Found (List ℕ) h → List ℕ
  phrase_by Wrong w x = w
  phrase_by Bare w x = w
  phrase_by Valued w x = signed x
  phrase_by Named w x = names x
  phrase_by (One s) w x = call1 w x
  phrase_by (Two s t) w x = call2 w x.0 x.1
  phrase_by (Three s t u) w x = call3 w x.0 x.1 x.2

  abbrev pub phrase_step : (k : Kind) → Found (List ℕ) (row k).shape → List ℕ
  phrase_step k x = phrase_by (row k).shape (row k).plain x

  -- the word of a node alone
  abbrev pub word_by : Shape → Record → List ℕ
  word_by Wrong r = (row r.kind).plain
  word_by Bare r = (row r.kind).plain
  word_by Valued r = signed (dec 16 r.value)
  word_by Named r = names r.a
  word_by (One s) r = (row r.kind).plain
  word_by (Two s t) r = (row r.kind).plain
  word_by (Three s t u) r = (row r.kind).plain

-- the names of a sheet's variables
abbrev pub sheet_names : List ℕ → ℕ → List ℕ
sheet_names s i = name_of (rule_in s).variables i

-- node n's text
unfoldable pub phrase_at : List ℕ → ℕ → List ℕ
phrase_at s n = of_node (phrase_step (sheet_names s)) [] (table s) n

-- node n's word alone
unfoldable pub word_at : List ℕ → ℕ → List ℕ
word_at s n = word_by (sheet_names s) (shape_at (table s n)) (table s n)

-- the bytes of the first n nodes' words, with a separator behind each
unfoldable pub words_bytes : List ℕ → ℕ → ℕ
words_bytes s zero = 0
words_bytes s (suc n) = words_bytes s n + (length (word_at s n) + 1)

-- the text of a node with one operand, two or three, by its record
abbrev pub one_text : List ℕ → Record → List ℕ
one_text s r = call1 (row r.kind).plain (phrase_at s r.a)

abbrev pub two_text : List ℕ → Record → List ℕ
two_text s r = call2 (row r.kind).plain (phrase_at s r.a) (phrase_at s r.b)

abbrev pub three_text : List ℕ → Record → List ℕ
three_text s r = call3 (row r.kind).plain (phrase_at s r.a) (phrase_at s r.b) (phrase_at s r.c)
