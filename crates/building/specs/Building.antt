-- Follows the code: words that stand in a text, what building an expression of them asks, and what it leaves in the sheet.
use Rattle.std.specs.Prelude.{ℕ, ◌+◌, ◌≤◌, ◌≡◌, true, false, List, [], ◌∷◌, ◌++◌, length, drop}
use Rattle.lists.specs.Ascii.{ascii}
use Rattle.lists.specs.Joined.{joined}
use Rattle.numbers.specs.Two.{enc}
use Rattle.meaning.specs.Rule.{Variable}
use Rattle.kinds.specs.declared.Kind.{Kind}
use Rattle.kinds.specs.declared.Record.{Record}
use Rattle.layout.specs.Limits.{most_variables, most_nodes, sheet_bytes}
use Rattle.layout.specs.Nodes.{node}
use Rattle.texts.specs.Expressions.{Expression, one, two, three, records_of}
use Rattle.texts.specs.Plain.{spelled, variable_line}
use Rattle.texts.specs.Texts.{AllDeclarable, Writable}
use Rattle.texts.specs.Numbers.{is_number, number_of}
use Rattle.texts.specs.Places.{separates, index_in}
use Rattle.sheets.specs.Laying.{with_node, with_nodes}
use Rattle.building.specs.declared.Built.{Built}

-- these words stand in the text from a place on, and a separator behind them
pub record WordsAt (text : List ℕ) (at : ℕ) (w : List ℕ) : Type 0 where
  pub separator : ℕ
  pub rest : List ℕ
  pub here : drop at text ≡ w ++ separator ∷ rest
  pub separates : separates separator ≡ true

-- the text begins with the lines of these variables, so many
pub record Declares (text : List ℕ) (count : ℕ) (vs : List Variable) : Type 0 where
  pub declarable : AllDeclarable vs
  pub counted : length vs ≡ count
  pub rest : List ℕ
  pub lines : text ≡ joined variable_line vs ++ rest

-- expressions one behind the other
abbrev pub AllWritable : List Variable → List Expression → Type 0
AllWritable vs [] = Unit {0}
AllWritable vs (e ∷ es) = Writable vs e × AllWritable vs es

abbrev pub spelled_all : List Variable → List Expression → List ℕ
spelled_all vs [] = []
spelled_all vs (a ∷ []) = spelled vs a
spelled_all vs (a ∷ b ∷ es) = spelled vs a ++ (ascii " " ++ spelled_all vs (b ∷ es))

pub record Spelt (text : List ℕ) (count at : ℕ) (vs : List Variable) (es : List Expression) : Type 0 where
  pub names : Declares text count vs
  pub writable : AllWritable vs es
  pub words : WordsAt text at (spelled_all vs es)

-- and a sheet of so many bytes has room for so many nodes from a number on
pub record Ready (text : List ℕ) (count at : ℕ) (vs : List Variable) (es : List Expression) (nodes size first : ℕ) : Type 0 where
  pub few : count ≤ most_variables
  pub spelt : Spelt text count at vs es
  pub most : first + nodes ≤ most_nodes
  pub room : sheet_bytes (first + nodes) ≤ size

-- some expression stands there, or the operands of a kind
pub record Buildable (text : List ℕ) (count at size first : ℕ) : Type 0 where
  pub variables : List Variable
  pub goal : Expression
  pub ready : Ready text count at variables (goal ∷ []) (length (records_of goal 0)) size first

pub record OneBuildable (text : List ℕ) (count : ℕ) (k : Kind) (at size first : ℕ) : Type 0 where
  pub variables : List Variable
  pub a : Expression
  pub ready : Ready text count at variables (a ∷ []) (length (records_of (one k a) 0)) size first

pub record TwoBuildable (text : List ℕ) (count : ℕ) (k : Kind) (at size first : ℕ) : Type 0 where
  pub variables : List Variable
  pub a : Expression
  pub b : Expression
  pub ready : Ready text count at variables (a ∷ b ∷ []) (length (records_of (two k a b) 0)) size first

pub record ThreeBuildable (text : List ℕ) (count : ℕ) (k : Kind) (at size first : ℕ) : Type 0 where
  pub variables : List Variable
  pub a : Expression
  pub b : Expression
  pub c : Expression
  pub ready : Ready text count at variables (a ∷ b ∷ c ∷ []) (length (records_of (three k a b c) 0)) size first

-- what is left by one record, put as node n, where the words end at a place
pub record Put (x : Record) (n place : ℕ) (before : List ℕ) (r : Built) (after : List ℕ) : Type 0 where
  pub end : r.end ≡ place
  pub next : r.next ≡ n + 1
  pub sheet : after ≡ with_node n x before

-- and by words and their records, from a place and a node on
pub record Laid (w : List ℕ) (rs : List Record) (at first : ℕ) (before : List ℕ) (r : Built) (after : List ℕ) : Type 0 where
  pub end : r.end ≡ at + length w
  pub next : r.next ≡ first + length rs
  pub sheet : after ≡ with_nodes first rs before

-- of whatever expression stands there, or operands of a kind
pub record Builds (text : List ℕ) (count at first : ℕ) (before : List ℕ) (r : Built) (after : List ℕ) : Type 0 where
  pub all : (vs : List Variable) (e : Expression) → Spelt text count at vs (e ∷ []) → Laid (spelled vs e) (records_of e first) at first before r after

pub record BuildsOne (text : List ℕ) (count : ℕ) (k : Kind) (at first : ℕ) (before : List ℕ) (r : Built) (after : List ℕ) : Type 0 where
  pub all : (vs : List Variable) (a : Expression) → Spelt text count at vs (a ∷ []) → Laid (spelled_all vs (a ∷ [])) (records_of (one k a) first) at first before r after

pub record BuildsTwo (text : List ℕ) (count : ℕ) (k : Kind) (at first : ℕ) (before : List ℕ) (r : Built) (after : List ℕ) : Type 0 where
  pub all : (vs : List Variable) (a b : Expression) → Spelt text count at vs (a ∷ b ∷ []) → Laid (spelled_all vs (a ∷ b ∷ [])) (records_of (two k a b) first) at first before r after

pub record BuildsThree (text : List ℕ) (count : ℕ) (k : Kind) (at first : ℕ) (before : List ℕ) (r : Built) (after : List ℕ) : Type 0 where
  pub all :
      (vs : List Variable) (a b c : Expression) → Spelt text count at vs (a ∷ b ∷ c ∷ []) →
      Laid (spelled_all vs (a ∷ b ∷ c ∷ [])) (records_of (three k a b c) first) at first before r after

-- the record of a word that is no kind's: a number's, or that of the variable with this name
unfoldable pub leaf_record : List (List ℕ) → List ℕ → Record
leaf_record names w = elim (is_number w) [ true ↦ node Kind.Constant 0 0 0 (enc 16 (number_of w)) | false ↦ node Kind.Variable (index_in names w) 0 0 0 ]
