-- Follows the code: the lines of a script that are about variables, one by one, and how many bytes they are.
use Rattle.std.specs.Prelude.{ℕ, zero, suc, ◌+◌, ◌≡◌, false, List, [], ◌++◌, length}
use Rattle.lists.specs.Ascii.{ascii}
use Rattle.lists.specs.Joined.{joined_below}
use Rattle.layout.specs.Parts.{variable_at}
use Rattle.wording.specs.Sixteen.{hex_text, symbol_text}
use Rattle.wording.specs.Form.{sixteen}
use Rattle.wording.specs.Script.{in_domain, declaration, assertion, ended}
use Rattle.pieces.specs.Sizes.{constant_bytes}

-- variable i's declaration line and range line, the same with models and without
unfoldable pub declaration_line : ℕ → List ℕ
declaration_line i = ended (declaration (sixteen false) i)

unfoldable pub range_line : List ℕ → ℕ → List ℕ
range_line s i = ended (assertion (sixteen false) (in_domain i (variable_at s i).domain))

-- the texts that stand around symbols and constants
abbrev pub declare : List ℕ
declare = ascii "(declare-fun "

abbrev pub sorted : List ℕ
sorted = ascii " () (_ BitVec 16))\n"

abbrev pub lowest : List ℕ
lowest = ascii "(assert (and (bvsle "

abbrev pub highest : List ℕ
highest = ascii ") (bvsle "

abbrev pub blank : List ℕ
blank = ascii " "

abbrev pub closed : List ℕ
closed = ascii ")))\n"

abbrev pub get_value : List ℕ
get_value = ascii "(get-value ("

abbrev pub values_end : List ℕ
values_end = ascii "))\n"

-- a symbol, and a blank before it
abbrev pub spaced : ℕ → List ℕ
spaced i = blank ++ symbol_text i

-- a range line in two parts, by the bits of the ends
unfoldable pub range_start : ℕ → ℕ → List ℕ
range_start low i = lowest ++ hex_text low ++ spaced i

unfoldable pub range_end : ℕ → ℕ → List ℕ
range_end i high = highest ++ symbol_text i ++ blank ++ hex_text high ++ closed

-- the symbol of the variable behind variable i, as above
abbrev pub further_symbol : ℕ → List ℕ
further_symbol i = spaced (i + 1)

-- the line that asks for the values of the first n variables
unfoldable pub values_line : ℕ → List ℕ
values_line zero = []
values_line (suc n) = get_value ++ symbol_text 0 ++ joined_below further_symbol n ++ values_end

-- how many bytes these are where the symbol has k
abbrev pub declaration_bytes : ℕ → ℕ
declaration_bytes k = length declare + k + length sorted

abbrev pub spaced_bytes : ℕ → ℕ
spaced_bytes k = length blank + k

abbrev pub start_bytes : ℕ → ℕ
start_bytes k = length lowest + constant_bytes + spaced_bytes k

abbrev pub end_bytes : ℕ → ℕ
end_bytes k = length highest + k + length blank + constant_bytes + length closed

abbrev pub range_bytes : ℕ → ℕ
range_bytes k = start_bytes k + end_bytes k

abbrev pub lines_bytes : ℕ → ℕ
lines_bytes k = declaration_bytes k + range_bytes k

-- the line that asks for values, but for the symbols and the blanks between them
abbrev pub values_bytes : ℕ
values_bytes = length get_value + length values_end

-- so many bytes are both lines of the first n variables, whatever the sheet
pub record LinesSize (n size : ℕ) : Type 0 where
  pub of : (s : List ℕ) → size ≡ length (joined_below declaration_line n) + length (joined_below (range_line s) n)
