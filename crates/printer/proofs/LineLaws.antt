-- The lines of variables from their parts, and how long they are. Assumes nothing.
use Prim.Native.Nat.{ℕ, zero, suc, ◌+◌, ◌*◌, ◌≤◌, ◌<◌}
use mathlib.Core.Path.{◌≡◌, refl, sym, ap, ◌∙◌}
use mathlib.Core.List.{List, ◌++◌, append_assoc}
use mathlib.Core.Option.{none}
use native.Mathlib.Numerals.{add-one}
use native.Mathlib.Omega.{arith}
use lib.Dec.{lit≤}
use lib.ListN.{length, length-append}
use Rattle.lists.specs.Ascii.{ascii}
use Rattle.lists.specs.Joined.{joined_below}
use Rattle.lists.proofs.JoinedLaws.{joined-none, length_more}
use Rattle.numbers.specs.Two.{dec}
use Rattle.numbers.specs.Bytes.{u16_at, i16_at}
use Rattle.numbers.specs.Decimal.{signed}
use Rattle.layout.specs.Limits.{max_offset, most_nodes, most_variables, variable_place}
use Rattle.layout.specs.Parts.{variable_count, variable_at}
use Rattle.reading.specs.Cascade.{refusal_of}
use Rattle.reading.proofs.RuleLaws.{accepted-counted}
use Rattle.spelling.proofs.NumberLaws.{value-short}
use Rattle.expressions.proofs.NameLaws.{name-short}
use Rattle.printer.specs.Lines.{line_at, line_start, line_end, longest_line}

-- ---- a line from its parts
pub start-length : (s : List ℕ) (i : ℕ) → length (line_start s i) ≡ 4 + length (variable_at s i).name
unfolding line_start
start-length s i = length-append (ascii "var ") (variable_at s i).name

pub end-length : (low high : ℕ) → length (line_end low high) ≡ 3 + length (signed (dec 16 low)) + length (signed (dec 16 high))
unfolding line_end
end-length low high = simp length-append (omega arith)

pub end-from : (low high : ℕ) → (ascii " " ++ signed (dec 16 low)) ++ (ascii " " ++ signed (dec 16 high)) ++ ascii "\n" ≡ line_end low high
unfolding line_end
end-from low high = refl

flat : (a n b l h e : List ℕ) → (a ++ n) ++ ((b ++ l) ++ (b ++ h) ++ e) ≡ a ++ (n ++ (b ++ (l ++ (b ++ (h ++ e)))))
flat a n b l h e = simp append_assoc

-- place is that of variable i's record
module _ (s : List ℕ) (i : ℕ) {place low high : ℕ} (ep : place ≡ variable_place i) (el : low ≡ u16_at s place) (eh : high ≡ u16_at s (place + max_offset)) where
  pub line-from : line_start s i ++ line_end low high ≡ line_at s i
  unfolding line_start line_end line_at
  line-from = rw (el, eh, ep) (flat (ascii "var ") (variable_at s i).name (ascii " ") (signed (i16_at s (variable_place i))) (signed (i16_at s (variable_place i + max_offset))) (ascii "\n"))

  pub line-length : length (line_at s i) ≡ 7 + length (variable_at s i).name + length (signed (dec 16 low)) + length (signed (dec 16 high))
  line-length = ap length (sym line-from) ∙ length-append (line_start s i) (line_end low high) ∙ omega (arith, start-length s i, end-length low high)

pub few_variables : (s : List ℕ) → refusal_of most_nodes s ≡ none → variable_count s ≤ most_variables
few_variables s e = (accepted-counted s e).few

-- how long it can be
pub line-short : (s : List ℕ) (i : ℕ) → refusal_of most_nodes s ≡ none → i < variable_count s → length (line_at s i) ≤ longest_line
line-short s i e l =
    let p = variable_place i in
    omega (arith, line-length s i refl refl refl, name-short s i e l, value-short (u16_at s p), value-short (u16_at s (p + max_offset)))

pub lines-short : (s : List ℕ) → refusal_of most_nodes s ≡ none → (n : ℕ) → n ≤ variable_count s → length (joined_below (line_at s) n) ≤ longest_line * n
lines-short s e zero l = rw (joined-none (line_at s)) (lit≤ tt)
lines-short s e (suc n) l = omega (arith, lines-short s e n (omega arith), rw add-one at (length_more (line_at s) n), line-short s n e l)
