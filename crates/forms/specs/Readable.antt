-- The forms whose texts SMT-LIB reads as what they are meant to be: constants, names and the width. Document 01 has one, at 16 bits; its theorem over the
-- match is stated over all of them.
use Rattle.std.specs.Prelude.{ℕ, ◌≤◌, ◌<◌, ◌≡◌, false, List, ℤ}
use Rattle.numbers.specs.Two.{enc}
use Rattle.smtlib.specs.Tokens.{Atom, symbol}
use Rattle.smtlib.specs.Sexps.{atom}
use Rattle.smtlib.specs.Values.{bits}
use Rattle.smtlib.specs.Theory.{theory_name}
use Rattle.smtlib.specs.Terms.{Environment, value}
use Rattle.smtlib.specs.Scripts.{solver_name}
use Rattle.smtlib.specs.Spelling.{spelling, Spelled}
use Rattle.wording.specs.Form.{Form}

-- what the atoms of constants and the names of up to m variables stand for, at w bits
pub record Texts (constant : ℤ → Atom) (name : ℕ → List ℕ) (w m : ℕ) : Type 0 where
  pub some_bits : 1 ≤ w
  -- a constant stands for its two's complement
  pub constants : (env : Environment) (z : ℤ) → value env (atom (constant z)) ≡ bits w (enc w z)
  -- a name is none of a theory's and none that is left to solvers, and no two are the same
  pub theory : (i : ℕ) → theory_name (name i) ≡ false
  pub solver : (i : ℕ) → solver_name (name i) ≡ false
  pub distinct : (i j : ℕ) → i < m → j < m → name i ≡ name j → i ≡ j

-- the form's texts are the spellings of such atoms
pub record Readable (f : Form) (m : ℕ) : Type 0 where
  pub constant : ℤ → Atom
  pub literals : (z : ℤ) → f.constant z ≡ spelling (constant z)
  pub constants : (z : ℤ) → Spelled (constant z)
  pub names : (i : ℕ) → Spelled (symbol (f.symbol i))
  pub texts : Texts constant f.symbol f.width m
