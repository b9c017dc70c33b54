-- A form of the script: one value, of the parts in which two scripts of one rule may differ.
use Rattle.std.specs.Prelude.{ℕ, Bool, List, ℤ}
use Rattle.wording.specs.declared.ScriptForm.{ScriptForm}
use Rattle.wording.specs.Sixteen.{literal, symbol_text}

pub record Form : Type 0 where
  -- the script asks for a failing case (document 02, item 1)
  pub models : Bool
  -- the width of every symbol and constant, in bits
  pub width : ℕ
  -- the texts of constants, and of variables by their numbers
  pub constant : ℤ → List ℕ
  pub symbol : ℕ → List ℕ

-- at 16 bits, in hexadecimal: without models as document 01 has it, with models as document 02's item 1
abbrev pub sixteen : Bool → Form
sixteen models = record { models = models; width = 16; constant = literal; symbol = symbol_text }

-- the form that a caller of the writer names
abbrev pub form_of : ScriptForm → Form
form_of c = sixteen c.models
