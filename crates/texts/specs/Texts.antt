-- The grammar of plain texts (document 02, item 4): which bytes are a text, and what it says. Types are no part of it, nor are the limits of a sheet.
use Rattle.std.specs.Prelude.{ℕ, ◌<◌, ◌≤◌, ◌≡◌, List, [], ◌∷◌, length}
use Rattle.std.proofs.Math.Option.{Option, none, some}
use Rattle.numbers.specs.Ranges.{Narrow, NarrowEnds}
use Rattle.meaning.specs.Rule.{Variable}
use Rattle.kinds.specs.declared.Kind.{Kind}
use Rattle.kinds.specs.declared.Shape.{Shape}
use Rattle.kinds.specs.declared.Shape.TheVariants.{Wrong, Bare, Valued, Named, One, Two, Three}
use Rattle.kinds.specs.Kinds.{row}
use Rattle.layout.specs.Limits.{most_name_bytes}
use Rattle.records.specs.Names.{Name}
use Rattle.texts.specs.Expressions.{Expression, bare, number, variable, one, two, three, Draft}
use Rattle.texts.specs.Plain.{plain_of, name_of, printed}

-- the bytes are some kind's plain word; kinds without one have the empty one, which no name is
pub record Word (w : List ℕ) : Type 0 where
  pub kind : Kind
  pub text : plain_of kind ≡ w

-- a name as document 01 has it, and no word
pub record PlainName (w : List ℕ) : Type 0 where
  pub name : Name w
  pub short : length w ≤ most_name_bytes
  pub no_word : Word w → ⊥

-- a variable that a line can declare
pub record Declarable (v : Variable) : Type 0 where
  pub name : PlainName v.name
  pub ends : NarrowEnds v.domain

abbrev pub AllDeclarable : List Variable → Type 0
AllDeclarable [] = Unit {0}
AllDeclarable (v ∷ vs) = Declarable v × AllDeclarable vs

-- variable i is declared, and no variable before it has its name
pub record FirstDeclared (vs : List Variable) (i : ℕ) : Type 0 where
  pub declared : i < length vs
  pub first : (j : ℕ) → j < i → name_of vs j ≡ name_of vs i → ⊥

-- how many operands stand behind a kind's plain word; none for a kind without such a word
abbrev pub operands_behind : Shape → Option ℕ
operands_behind Wrong = none
operands_behind Bare = some 0
operands_behind Valued = none
operands_behind Named = none
operands_behind (One s) = some 1
operands_behind (Two s t) = some 2
operands_behind (Three s t u) = some 3

abbrev pub Takes : ℕ → Kind → Type 0
Takes n k = operands_behind (row k).shape ≡ some n

-- each word has as many operands as its kind; numbers fit 16 bits; names are declared
abbrev pub Writable : List Variable → Expression → Type 0
Writable vs (bare k) = Takes 0 k
Writable vs (number z) = Narrow z
Writable vs (variable i) = FirstDeclared vs i
Writable vs (one k a) = Takes 1 k × Writable vs a
Writable vs (two k a b) = Takes 2 k × Writable vs a × Writable vs b
Writable vs (three k a b c) = Takes 3 k × Writable vs a × Writable vs b × Writable vs c

-- the bytes are a text, and say this
pub record Says (s : List ℕ) (d : Draft) : Type 0 where
  pub variables : AllDeclarable d.variables
  pub goal : Writable d.variables d.goal
  pub text : s ≡ printed d

pub record Text (s : List ℕ) : Type 0 where
  pub draft : Draft
  pub says : Says s draft
