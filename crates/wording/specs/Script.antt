-- The script of a rule (document 01, "The script"; document 02, item 1), in any form: a list of lines, each ended by one line feed.
use Rattle.std.specs.Prelude.{ℕ, suc, Bool, true, false, List, [], ◌∷◌, ◌++◌, map}
use Rattle.lists.specs.Ascii.{ascii}
use Rattle.lists.specs.Joined.{joined}
use Rattle.numbers.specs.declared.Range.{Range}
use Rattle.numbers.specs.Decimal.{decimal}
use Rattle.meaning.specs.declared.Sort.TheVariants.{Truth}
use Rattle.meaning.specs.Tree.{Tree, neg, conj, at_most, const, var}
use Rattle.meaning.specs.Rule.{Variable, Rule}
use Rattle.wording.specs.Text.{text}
use Rattle.wording.specs.Form.{Form}

-- min ≤ v and v ≤ max, for variable i
abbrev pub in_domain : ℕ → Range → Tree Truth
in_domain i d = conj (at_most (const d.low) (var i)) (at_most (var i) (const d.high))

-- what the script asserts, as trees: a range for each variable from number i on, then the negated goal
abbrev pub claims : ℕ → List Variable → Tree Truth → List (Tree Truth)
claims i [] goal = neg goal ∷ []
claims i (v ∷ vs) goal = in_domain i v.domain ∷ claims (suc i) vs goal

-- what only a script with models has
abbrev pub only_with : {A : Type 0} → Bool → List A → List A
only_with true x = x
only_with false x = []

-- the lines, in a form
module _ (f : Form) where
  abbrev pub declaration : ℕ → List ℕ
  declaration i = ascii "(declare-fun " ++ (f.symbol i ++ (ascii " () (_ BitVec " ++ (decimal f.width ++ ascii "))")))

  abbrev pub declarations : ℕ → List Variable → List (List ℕ)
  declarations i [] = []
  declarations i (v ∷ vs) = declaration i ∷ declarations (suc i) vs

  abbrev pub assertion : Tree Truth → List ℕ
  assertion t = ascii "(assert " ++ (text f.constant f.symbol t ++ ascii ")")

  -- symbols from number i on, a blank before each
  abbrev pub further_symbols : ℕ → List Variable → List ℕ
  further_symbols i [] = []
  further_symbols i (v ∷ vs) = ascii " " ++ (f.symbol i ++ further_symbols (suc i) vs)

  -- the values of all variables are asked for, where there are any
  abbrev pub values_asked : List Variable → List (List ℕ)
  values_asked [] = []
  values_asked (v ∷ vs) = (ascii "(get-value (" ++ (f.symbol 0 ++ (further_symbols 1 vs ++ ascii "))"))) ∷ []

  abbrev pub lines_of : Rule → List (List ℕ)
  lines_of r =
      only_with f.models (ascii "(set-option :produce-models true)" ∷ [])
      ++ (ascii "(set-logic QF_UFBV)"
      ∷ (declarations 0 r.variables
      ++ (map assertion (claims 0 r.variables r.goal)
      ++ (ascii "(check-sat)"
      ∷ (only_with f.models (values_asked r.variables)
      ++ (ascii "(exit)" ∷ []))))))

-- a line, and a line feed behind it
abbrev pub ended : List ℕ → List ℕ
ended l = l ++ ascii "\n"

unfoldable pub script : Form → Rule → List ℕ
script f r = joined ended (lines_of f r)
