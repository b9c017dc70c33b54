-- The lines of variables from their pieces, one more line in the room, and how long they are. Assumes nothing.
use Prim.Native.Nat.{ℕ, zero, suc, ◌+◌, ◌-◌, ◌*◌, ◌≤◌, ◌<◌}
use mathlib.Core.Path.{◌≡◌, refl, sym, ap, ◌∙◌}
use mathlib.Core.List.{List, [], ◌++◌, append_assoc}
use native.Mathlib.Numerals.{add-one}
use native.Mathlib.Omega.{arith}
use lib.Dec.{lit≤}
use lib.ListN.{length, length-append}
use Rattle.lists.specs.Ascii.{ascii}
use Rattle.lists.specs.Joined.{joined_below}
use Rattle.lists.proofs.JoinedLaws.{joined-none, length_more}
use Rattle.numbers.specs.Bytes.{Bytes, u16_at}
use Rattle.numbers.specs.Decimal.{decimal_in, decimal}
use Rattle.numbers.proofs.Bytes16.{u16-lt, enc16-dec16}
use Rattle.layout.specs.Limits.{variable_place}
use Rattle.layout.specs.Fold.{of_tree}
use Rattle.wording.specs.Sixteen.{hex_text, literal, symbol_text}
use Rattle.pieces.specs.Sizes.{longest_symbol}
use Rattle.pieces.proofs.PieceLaws.{hex-length, literal-length, symbol-short}
use Rattle.lines.specs.Lines.{declaration_line, range_start, range_end, range_line, further_symbol, values_line, declare, sorted, lowest, highest, blank, closed, get_value, values_end, declaration_bytes, start_bytes, range_bytes, lines_bytes, spaced_bytes, values_bytes, LinesSize}

-- ---- lengths
pub declaration-length : (i : ℕ) → length (declaration_line i) ≡ declaration_bytes (length (symbol_text i))
unfolding declaration_line decimal decimal_in
declaration-length i = simp length-append (omega arith)

pub start-length : (low i : ℕ) → length (range_start low i) ≡ start_bytes (length (symbol_text i))
unfolding range_start
start-length low i = simp (length-append, hex-length) (omega arith)

pub range_length : (s : List ℕ) (i : ℕ) → length (range_line s i) ≡ range_bytes (length (symbol_text i))
unfolding range_line of_tree
range_length s i = simp (length-append, literal-length) (omega arith)

-- both lines of the first variables: none, one more, and how long they can be
pub lines_none : LinesSize 0 0
lines_none = record { of = λ s. rw (joined-none declaration_line, joined-none (range_line s)) }

pub lines_more : {n size k : ℕ} → LinesSize n size → k ≡ lines_bytes (length (symbol_text n)) → LinesSize (n + 1) (size + k)
lines_more {n} l e = record { of = λ s. omega (arith, l.of s, length_more declaration_line n, length_more (range_line s) n, declaration-length n, range_length s n) }

pub lines-short : (s : List ℕ) (n : ℕ) → length (joined_below declaration_line n) + length (joined_below (range_line s) n) ≤ lines_bytes longest_symbol * n
lines-short s zero = rw (joined-none declaration_line, joined-none (range_line s)) (lit≤ tt)
lines-short s (suc n) = omega (arith, lines-short s n, rw add-one at (length_more declaration_line n), rw add-one at (length_more (range_line s) n), declaration-length n, range_length s n, symbol-short n)

-- ---- lines from their pieces
pub declaration-is : (i : ℕ) → declare ++ symbol_text i ++ sorted ≡ declaration_line i
unfolding declaration_line decimal decimal_in
declaration-is i = rw (append_assoc (symbol_text i) (ascii " () (_ BitVec 16))") (ascii "\n"))

flat-parts : (a l b v c d h e : List ℕ) → a ++ l ++ (b ++ v) ++ (c ++ v ++ d ++ h ++ e) ≡ a ++ (l ++ (b ++ (v ++ (c ++ (v ++ (d ++ (h ++ e)))))))
flat-parts a l b v c d h e = simp append_assoc

flat_line : (a o w p q b l v h e n : List ℕ)
    → a ++ (o ++ (w ++ (b ++ (o ++ (p ++ (b ++ (l ++ (b ++ (v ++ e))))) ++ (b ++ (o ++ (q ++ (b ++ (v ++ (b ++ (h ++ e))))) ++ e))))) ++ e) ++ n
    ≡ a ++ (o ++ (w ++ (b ++ (o ++ (p ++ (b ++ (l ++ (b ++ (v ++ (e ++ (b ++ (o ++ (q ++ (b ++ (v ++ (b ++ (h ++ (e ++ (e ++ (e ++ n))))))))))))))))))))
flat_line a o w p q b l v h e n = simp append_assoc

range-is : (s : List ℕ) → Bytes s → (i : ℕ) → range_start (u16_at s (variable_place i)) i ++ range_end i (u16_at s (variable_place i + 2)) ≡ range_line s i
unfolding range_start range_end range_line literal of_tree
range-is s b i = rw (enc16-dec16 (u16-lt s b (variable_place i)), enc16-dec16 (u16-lt s b (variable_place i + 2)))
    (flat-parts lowest (hex_text (u16_at s (variable_place i))) blank (symbol_text i) highest blank (hex_text (u16_at s (variable_place i + 2))) closed
    ∙ sym (flat_line (ascii "(assert ") (ascii "(") (ascii "and") (ascii "bvsle") (ascii "bvsle") (ascii " ") (hex_text (u16_at s (variable_place i))) (symbol_text i) (hex_text (u16_at s (variable_place i + 2))) (ascii ")") (ascii "\n")))

pub range-from : (s : List ℕ) → Bytes s → (i : ℕ) {place low high : ℕ} → place ≡ variable_place i → low ≡ u16_at s place → high ≡ u16_at s (place + 2) → range_start low i ++ range_end i high ≡ range_line s i
range-from s b i p l h = rw (l, h, p) (range-is s b i)

-- ---- the line that asks for values: none, its pieces, and how long it is
pub values-none : {n : ℕ} → n ≡ 0 → [] ≡ values_line n
unfolding values_line
values-none e = rw e

pub values-from : (n : ℕ) → 0 < n → get_value ++ symbol_text 0 ++ joined_below further_symbol (n - 1) ++ values_end ≡ values_line n
unfolding values_line
values-from zero h = absurd (omega arith)
values-from (suc n) h = let e : suc n - 1 ≡ n = omega arith in rw e

pub values_length : (n : ℕ) → 0 < n → length (values_line n) ≡ values_bytes + length (symbol_text 0) + length (joined_below further_symbol (n - 1))
values_length n h = ap length (sym (values-from n h)) ∙ simp length-append (omega arith)

pub further-length : (i : ℕ) → length (further_symbol i) ≡ spaced_bytes (length (symbol_text (i + 1)))
further-length i = length-append blank (symbol_text (i + 1))

pub further-short : (n : ℕ) → length (joined_below further_symbol n) ≤ spaced_bytes longest_symbol * n
further-short zero = rw (joined-none further_symbol) (lit≤ tt)
further-short (suc n) = omega (arith, further-short n, rw add-one at (length_more further_symbol n), rw add-one at (further-length n), symbol-short (suc n))

pub values-short : (n : ℕ) → length (values_line n) ≤ values_bytes + spaced_bytes longest_symbol * n
values-short zero = omega (arith, ap length (values-none {n = 0} refl))
values-short (suc n) = omega (arith, values_length (suc n) (omega arith), further-short (suc n - 1), symbol-short 0)
