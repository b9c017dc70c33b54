-- Follows the code: the texts of nodes, by the sheet's records, and how long they can be.
use Rattle.std.specs.Prelude.{ℕ, ◌+◌, ◌*◌, ◌<◌, ◌≡◌, List, [], ◌++◌, length}
use Rattle.std.proofs.Math.Option.{none}
use Rattle.lists.specs.Ascii.{ascii}
use Rattle.kinds.specs.declared.Record.{Record}
use Rattle.layout.specs.Limits.{most_nodes}
use Rattle.layout.specs.Fold.{of_node}
use Rattle.layout.specs.Parts.{node_count, table}
use Rattle.reading.specs.Cascade.{refusal_of}
use Rattle.wording.specs.Words.{word_of}
use Rattle.wording.specs.Text.{text_step}
use Rattle.wording.specs.Sixteen.{literal, symbol_text}
use Rattle.pieces.specs.Sizes.{constant_bytes}

-- node n's text
unfoldable pub text_at : List ℕ → ℕ → List ℕ
text_at s n = of_node (text_step literal symbol_text) [] (table s) n

-- the bytes of a node's text besides its word and its n operands: parentheses, and a blank before each operand
abbrev pub call_bytes : ℕ → ℕ
call_bytes n = length (ascii "(") + n * length (ascii " ") + length (ascii ")")

-- words of w letters and leaves of c bytes keep to k bytes per node where call_bytes n + w + (n - 1) c ≤ n k for n operands, one to three
abbrev pub leaf_bytes : ℕ
leaf_bytes = constant_bytes

abbrev pub bytes_per_node : ℕ
bytes_per_node = 9

abbrev pub longest_text : ℕ
longest_text = bytes_per_node * most_nodes

-- the text of a node with one operand, two or three, by its record, but for the closing parenthesis
abbrev pub one_open : List ℕ → Record → List ℕ
one_open s r = ascii "(" ++ word_of r.kind ++ (ascii " " ++ text_at s r.a)

abbrev pub two_open : List ℕ → Record → List ℕ
two_open s r = one_open s r ++ (ascii " " ++ text_at s r.b)

abbrev pub three_open : List ℕ → Record → List ℕ
three_open s r = two_open s r ++ (ascii " " ++ text_at s r.c)
