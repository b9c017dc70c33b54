-- Follows the code: the lines of a text, from one of them on.
use Rattle.std.specs.Prelude.{ℕ, ◌+◌, ◌≤◌, ◌≡◌, List, ◌++◌, length, drop}
use Rattle.lists.specs.Joined.{joined}
use Rattle.meaning.specs.Rule.{Variable}
use Rattle.texts.specs.Expressions.{Draft}
use Rattle.texts.specs.Plain.{variable_line, goal_line}
use Rattle.texts.specs.Texts.{Declarable, AllDeclarable, Says}
use Rattle.pointing.specs.Pointing.{name_places, nth}

-- some variable's line stands at place p
pub record LineBegun (s : List ℕ) (p : ℕ) : Type 0 where
  pub variable : Variable
  pub rest : List ℕ
  pub declarable : Declarable variable
  pub inside : p ≤ length s
  pub split : drop p s ≡ variable_line variable ++ rest

-- it ends before place r
abbrev pub PassesLine : List ℕ → ℕ → ℕ → Type 0
PassesLine s p r = (v : Variable) (rest : List ℕ) → Declarable v → drop p s ≡ variable_line v ++ rest → r ≡ p + length (variable_line v)

-- the text has at least i variables
pub record LinesReach (s : List ℕ) (i : ℕ) : Type 0 where
  pub draft : Draft
  pub says : Says s draft
  pub within : i ≤ length draft.variables

-- line i starts at place p, with these variables from there on
pub record LineAt (d : Draft) (s : List ℕ) (i p : ℕ) : Type 0 where
  pub left : List Variable
  pub declarable : AllDeclarable left
  pub inside : p ≤ length s
  pub text : drop p s ≡ joined variable_line left ++ goal_line d.variables d.goal
  pub count : i + length left ≡ length d.variables
  pub bytes : p + length (joined variable_line left) ≡ length (joined variable_line d.variables)
  pub names : (j : ℕ) → nth (name_places d.variables 0) (i + j) ≡ nth (name_places left p) j
