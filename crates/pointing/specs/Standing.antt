-- Follows the code: expressions that stand one behind the other in a text, a separator behind each; their words, nodes and bytes.
use Rattle.std.specs.Prelude.{ℕ, ◌+◌, ◌≤◌, ◌<◌, ◌≡◌, true, List, [], ◌∷◌, ◌++◌, length, drop}
use Rattle.std.proofs.Math.Option.{Option, none, some}
use Rattle.numbers.specs.Decimal.{signed}
use Rattle.meaning.specs.Rule.{Variable}
use Rattle.texts.specs.Expressions.{Expression, bare, number, variable, one, two, three, records_of}
use Rattle.texts.specs.Plain.{plain_of, name_of, spelled}
use Rattle.texts.specs.Texts.{AllDeclarable, Writable}
use Rattle.texts.specs.WordKinds.{behind_word}
use Rattle.texts.specs.Places.{separates}
use Rattle.pointing.specs.Pointing.{word_places, nth}

-- the operands of an expression
abbrev pub operands_in : Expression → List Expression
operands_in (bare k) = []
operands_in (number z) = []
operands_in (variable i) = []
operands_in (one k a) = a ∷ []
operands_in (two k a b) = a ∷ b ∷ []
operands_in (three k a b c) = a ∷ b ∷ c ∷ []

-- how many operands stand behind a word; none where it is no kind's
abbrev pub or_zero : Option ℕ → ℕ
or_zero none = 0
or_zero (some n) = n

abbrev pub operand_count : List ℕ → ℕ
operand_count w = or_zero (behind_word w)

-- how many nodes the expressions have
abbrev pub nodes_in : List Expression → ℕ
nodes_in [] = 0
nodes_in (e ∷ es) = length (records_of e 0) + nodes_in es

module _ (vs : List Variable) where
  -- an expression's own word
  abbrev pub head_of : Expression → List ℕ
  head_of (bare k) = plain_of k
  head_of (number z) = signed z
  head_of (variable i) = name_of vs i
  head_of (one k a) = plain_of k
  head_of (two k a b) = plain_of k
  head_of (three k a b c) = plain_of k

  -- how many bytes the expressions have, with a separator behind each
  abbrev pub bytes_in : List Expression → ℕ
  bytes_in [] = 0
  bytes_in (e ∷ es) = length (spelled vs e) + 1 + bytes_in es

  -- the places of their nodes' words, where the first stands at place p
  abbrev pub places_in : List Expression → ℕ → List ℕ
  places_in [] p = []
  places_in (e ∷ es) p = word_places vs e p ++ places_in es (p + length (spelled vs e) + 1)

  -- the bytes begin with this expression and a separator, and then
  pub record Next (e : Expression) (More : List ℕ → Type 0) (s : List ℕ) : Type 0 where
    pub writable : Writable vs e
    pub separator : ℕ
    pub rest : List ℕ
    pub parts : separates separator ≡ true
    pub split : s ≡ spelled vs e ++ separator ∷ rest
    pub more : More rest

  -- they begin with these expressions
  abbrev pub Row : List Expression → List ℕ → Type 0
  Row [] s = Unit {0}
  Row (e ∷ es) s = Next e (Row es) s

  -- in the text s, these expressions stand at place p
  pub record StandAt (es : List Expression) (s : List ℕ) (p : ℕ) : Type 0 where
    pub declarable : AllDeclarable vs
    pub inside : p ≤ length s
    pub row : Row es (drop p s)

-- some expression stands there
pub record Begun (s : List ℕ) (p : ℕ) : Type 0 where
  pub variables : List Variable
  pub expression : Expression
  pub stand : StandAt variables (expression ∷ []) s p

-- and it has more than n nodes
pub record Reaches (s : List ℕ) (p n : ℕ) : Type 0 where
  pub begun : Begun s p
  pub below : n < length (records_of begun.expression 0)

-- so far the expression there goes, with its separator, and so many nodes it has
abbrev pub Spans : List ℕ → ℕ → ℕ → ℕ → Type 0
Spans s p behind nodes = (vs : List Variable) (e : Expression) → StandAt vs (e ∷ []) s p → (behind ≡ p + length (spelled vs e) + 1) × (nodes ≡ length (records_of e 0))

-- the word of its node n is at r
abbrev pub Finds : List ℕ → ℕ → ℕ → ℕ → Type 0
Finds s p n r = (vs : List Variable) (e : Expression) → StandAt vs (e ∷ []) s p → n < length (records_of e 0) → nth (word_places vs e p) n ≡ some r
