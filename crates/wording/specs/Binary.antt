-- Constants in binary: `#b`, and as many digits as the width says; and the form that has them.
use Rattle.std.specs.Prelude.{ℕ, zero, suc, ◌+◌, ◌/◌, ◌%◌, Bool, List, [], ◌∷◌, ◌++◌, ℤ}
use Rattle.lists.specs.Ascii.{ascii}
use Rattle.numbers.specs.Two.{enc}
use Rattle.wording.specs.Sixteen.{symbol_text}
use Rattle.wording.specs.Form.{Form}

-- the last w binary digits of x
abbrev pub bits_text : ℕ → ℕ → List ℕ
bits_text zero x = []
bits_text (suc w) x = bits_text w (x / 2) ++ ((48 + x % 2) ∷ [])

abbrev pub bits_literal : ℕ → ℤ → List ℕ
bits_literal w z = ascii "#b" ++ bits_text w (enc w z)

-- at w bits
abbrev pub in_bits : Bool → ℕ → Form
in_bits models w = record { models = models; width = w; constant = bits_literal w; symbol = symbol_text }
